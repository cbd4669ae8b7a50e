use Rattle.std.proofs.Common.{◌≡◌, drop}
use Rattle.std.specs.List.Sorted.{IsNonDecreasingBy}
use Rattle.goo_ranges_rows.specs.Rows.{without_each}
use Rattle.goo_ranges_rows.proofs.row_edits.take_out_each.Given as goal

abbrev pub invariant-loop-first : goal.invariant-loop-first
invariant-loop-first l = record {
  rows : without_each (drop l.first-index l.firsts) l.rows.items ≡ without_each l.firsts l.fn.rows.items;
  sorted : IsNonDecreasingBy (λ p. p.first) l.rows.items;
}
