use Rattle.std.proofs.Common.{◌≡◌, ◌≤◌, drop}
use Rattle.goo_ranges_rows.specs.Rows.{without_each}
use Rattle.goo_core_pages.specs.Paging.{InOrder}
use Rattle.goo_core_list.proofs.row_edits.take_out_each.Given as goal

abbrev pub invariant-loop-first : goal.invariant-loop-first
invariant-loop-first l = record {
  rows : without_each (drop l.first-index l.firsts) l.rows.rows ≡ without_each l.firsts l.fn.rows.rows;
  order : InOrder 0 l.rows.rows;
  room : l.fn.rows.room ≤ l.rows.room;
}
