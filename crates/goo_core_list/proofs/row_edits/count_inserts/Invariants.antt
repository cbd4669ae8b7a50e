use Rattle.std.proofs.Common.{◌≡◌, take}
use Rattle.goo_core_list.specs.Rows.{inserts}
use Rattle.goo_core_list.proofs.row_edits.count_inserts.Given as goal

abbrev pub invariant-loop-edit : goal.invariant-loop-edit
invariant-loop-edit l = l.count ≡ inserts (take l.edit-index l.edits)
