-- A registry that is opened again over its own connection: its tables are in the order of their rowids.
use Rattle.std.specs.Prelude.{◌≡◌}
use Rattle.sqlite.specs.State.{State, HasCleanDisk}
use Rattle.goo_tables_rows.specs.Met.{IsInKeyOrder}
use Rattle.goo_tables_rows.specs.Stands.{defects}
use Rattle.goo_tables_rows.proofs.Ordered.{in_key_order_kept}
use Rattle.goo_store_judge.specs.Moments.{IsWell, tables_in}

-- a look-up that was answered, and no corruption: then the tables are what the shelf keeps
pub ordered_again : (s : State) → IsWell s → (HasCleanDisk s → defects s ≡ 0) → HasCleanDisk s → IsInKeyOrder s.now
ordered_again s well works clean = in_key_order_kept s.now (tables_in s) (well.stands (works clean))
