use Rattle.std.proofs.Common.{◌≡◌, ℕ, take, map}
use Rattle.std.specs.Ordering.{nat_cmp}
use Rattle.std.specs.BTreeSet.{contains}
use Rattle.goo_tables_rows.specs.Rows.{lot_in}
use Rattle.goo_store_rules.specs.WellKept.{has_lot}
use Rattle.goo_store_rules.proofs.named.lot_numbers.Given as goal

abbrev pub invariant-loop-lot : goal.invariant-loop-lot
invariant-loop-lot l = (n : ℕ) → contains nat_cmp l.set n ≡ has_lot (map lot_in (take l.lot-index l.rows)) n
