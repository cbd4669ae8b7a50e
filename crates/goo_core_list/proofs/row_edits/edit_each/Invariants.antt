use Rattle.std.proofs.Common.{◌≡◌, ◌≤◌, drop}
use Rattle.goo_ranges_rows.specs.Rows.{edited_all}
use Rattle.goo_core_pages.specs.Paging.{InOrder}
use Rattle.goo_core_list.specs.Rows.{inserts}
use Rattle.goo_core_list.proofs.row_edits.edit_each.Given as goal

abbrev pub invariant-loop-edit : goal.invariant-loop-edit
invariant-loop-edit l = record {
  rows : edited_all (drop l.edit-index l.edits) l.rows.rows ≡ edited_all l.edits l.fn.rows.rows;
  order : InOrder 0 l.rows.rows;
  room : inserts (drop l.edit-index l.edits) ≤ l.rows.room;
}
