use Rattle.std.proofs.Common.{◌≡◌, drop}
use Rattle.std.specs.List.Sorted.{IsNonDecreasingBy}
use Rattle.goo_ranges_rows.specs.Plans.{near_after}
use Rattle.goo_ranges_rows.proofs.near_rows.near_after.Given as goal

abbrev pub invariant-loop-edit : goal.invariant-loop-edit
invariant-loop-edit l = record {
  rows : near_after l.range (drop l.edit-index l.edits) l.rows.items ≡ near_after l.range l.edits l.fn.near.items;
  sorted : IsNonDecreasingBy (λ p. p.first) l.rows.items;
}
