use Rattle.std.proofs.Common.{◌≡◌, drop}
use Rattle.std.specs.List.Sorted.{IsNonDecreasingBy}
use Rattle.goo_ranges_rows.specs.Rows.{meeting, with_each}
use Rattle.goo_ranges_rows.proofs.near_rows.put_in_near.Given as goal

abbrev pub invariant-loop-row : goal.invariant-loop-row
invariant-loop-row l = record {
  rows : with_each (meeting l.range (drop l.row-index l.more)) l.rows.items ≡ with_each (meeting l.range l.more) l.fn.rows.items;
  sorted : IsNonDecreasingBy (λ p. p.first) l.rows.items;
}
