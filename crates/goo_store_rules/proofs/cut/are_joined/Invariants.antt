use Rattle.std.proofs.Common.{◌≡◌, None, drop}
use Rattle.goo_store_rules.specs.WellKept.{are_joined as have_none_to_join}
use Rattle.goo_store_rules.proofs.cut.are_joined.Given as goal

abbrev pub invariant-loop-row : goal.invariant-loop-row
invariant-loop-row l = have_none_to_join None l.rows ≡ have_none_to_join l.last (drop l.row-index l.rows)
