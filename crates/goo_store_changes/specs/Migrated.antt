-- Tables of version 1 inside a transaction that makes them those of the next version.
use Rattle.std.specs.Prelude.{ℕ, List, IsTrue}
use Rattle.sqlite.specs.State.{State}
use Rattle.goo_tables_rows.specs.First.{IsFirst}
use Rattle.goo_tables_rows.specs.Refused.{IsSmall}
use Rattle.goo_tables_rows.specs.Rows.{Tables, meta_row}
use Rattle.goo_tables_accounts.specs.Changes.{with_version}
use Rattle.goo_store_changes.specs.Changes.{made_all, HaveRoom}
use Rattle.goo_store_changes.specs.declared.table_change.TableChange.{TableChange}

-- inside a transaction that sees these tables of version 1
pub record SeesFirst (s : State) (t : Tables) : Type 0 where
  pub inside : IsTrue s.in_transaction
  pub first : IsFirst s.now t

-- there is room for the changes, and for the version after them
abbrev pub HasRoomToMigrate : Tables → List TableChange → ℕ → Type 0
HasRoomToMigrate t changes version = HaveRoom t changes × IsSmall (meta_row (with_version version (made_all t changes)).meta)
