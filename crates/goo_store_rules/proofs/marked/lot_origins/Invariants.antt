use Rattle.std.proofs.Common.{◌≡◌, ℕ, take, map}
use Rattle.std.specs.BTreeSet.{contains}
use Rattle.goo_tables_rows.specs.Rows.{lot_in}
use Rattle.goo_store_rules.specs.WellKept.{has_lot_of, pair_cmp}
use Rattle.goo_store_rules.proofs.marked.lot_origins.Given as goal

abbrev pub invariant-loop-row : goal.invariant-loop-row
invariant-loop-row l = (n origin : ℕ) → contains pair_cmp l.set (n, origin) ≡ has_lot_of origin (map lot_in (take l.row-index l.rows)) n
