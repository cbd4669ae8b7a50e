use Rattle.std.proofs.Common.{◌≡◌, ◌++◌, take}
use Rattle.goo_core_shelf.specs.Rows.{naming_account}
use Rattle.goo_core_list.proofs.rows.add_naming.Given as goal

abbrev pub invariant-loop-row : goal.invariant-loop-row
invariant-loop-row l = l.met.items ≡ l.fn.met.items ++ naming_account l.account (take l.row-index l.rows)
