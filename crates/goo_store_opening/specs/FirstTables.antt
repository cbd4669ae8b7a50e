-- Tables of version 1 that become those of version 2.
use Rattle.std.specs.Prelude.{◌≡◌, ◌⊎◌, false, None, List, Result, IfErr, OnOk, OnErr, IsTrue}
use Rattle.sqlite.specs.State.{State, HasCleanDisk}
use Rattle.sqlite.specs.Tree.{Trees}
use Rattle.sqlite.specs.Effect.{Database}
use Rattle.goo_tables_rows.specs.First.{IsFirst}
use Rattle.goo_tables_rows.specs.Rows.{Tables}
use Rattle.goo_tables_rows.specs.Stands.{Holds, HoldsOurs, AreOurs, Rests, Settled}
use Rattle.goo_tables_rows.specs.declared.piece.PieceRow.{PieceRow}
use Rattle.goo_spec_tables.specs.Kept.{AreKept, AreKeptIn}
use Rattle.goo_spec_tables.specs.Renewed.{renewed}
use Rattle.goo_store_judge.specs.Opening.{IsRefusalIn}
use Rattle.goo_store_open.specs.declared.fault.OpenFault.{OpenFault}

-- The pieces of tables of version 1 are joined, and the tables are made those of version 2, or nothing is done.
-- `crash`: what was there before, or the tables renewed, and listed as ours where the connection was open.
pub record Rewrites {T E : Type 0} (old new : State) (pieces : List PieceRow) (result : Result T E) : Type 0 where
  pub clean : HasCleanDisk new → HasCleanDisk old
  pub outside : new.in_transaction ≡ false
  pub works : OnOk result (HasCleanDisk new → IsTrue new.is_open)
  pub done : HasCleanDisk new → (t : Tables) → IsFirst old.now t → t.pieces ≡ pieces → OnOk result (Settled new (renewed t))
  pub rests : HasCleanDisk new → (t : Tables) → IsFirst old.now t → t.pieces ≡ pieces → OnErr result (Rests old new)
  pub crash : HasCleanDisk new → (t : Tables) → IsFirst old.now t → t.pieces ≡ pieces → (db : Trees) → new.may_leave db → old.may_leave db ⊎ HoldsOurs old.is_open (renewed t) db

-- the database holds tables of version 1 that keep the rules of their version
abbrev pub HoldsFirst : State → Type 0
HoldsFirst s = HasCleanDisk s → (t : Tables) × IsFirst s.now t × AreKeptIn 1 t

-- the tables of version 1 that a database held and that keep their rules, renewed, and listed as ours
abbrev pub HoldsRenewed : Database → Trees → Type 0
HoldsRenewed old db = (t : Tables) × IsFirst old t × AreKeptIn 1 t × AreKept (renewed t) × Holds (renewed t) db × AreOurs db

-- A database that holds tables of version 1 is made one of version 2, where they keep the rules of their version; it is left as it was where they
-- don't, or where a call was refused or memory was. `crash`: what was there before, or the tables renewed.
pub record Renews {T : Type 0} (old new : State) (result : Result T OpenFault) : Type 0 where
  pub clean : HasCleanDisk new → HasCleanDisk old
  pub outside : new.in_transaction ≡ false
  pub works : OnOk result (HasCleanDisk new → IsTrue new.is_open)
  pub done : HasCleanDisk new → OnOk result ((t : Tables) × IsFirst old.now t × AreKeptIn 1 t × AreKept (renewed t) × Settled new (renewed t))
  pub rests : HasCleanDisk new → OnErr result (Rests old new)
  pub words : HasCleanDisk new → old.step_limit ≡ None → (t : Tables) → IsFirst old.now t → IfErr result (IsRefusalIn 1 t)
  pub crash : HasCleanDisk new → (db : Trees) → new.may_leave db → old.may_leave db ⊎ HoldsRenewed old.now db
