use Rattle.std.proofs.Common.{◌≡◌, ◌+◌, ◌≤◌, drop}
use Rattle.goo_ranges_rows.specs.Rows.{with_each}
use Rattle.goo_core_pages.specs.Paging.{InOrder}
use Rattle.goo_core_list.proofs.row_edits.put_in_each.Given as goal

abbrev pub invariant-loop-row : goal.invariant-loop-row
invariant-loop-row l = record {
  rows : with_each (drop l.row-index l.more) l.rows.rows ≡ with_each l.more l.fn.rows.rows;
  order : InOrder 0 l.rows.rows;
  room : l.fn.rows.room ≤ l.rows.room + l.row-index;
}
