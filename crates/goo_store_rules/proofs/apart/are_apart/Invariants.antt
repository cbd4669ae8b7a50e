use Rattle.std.proofs.Common.{◌≡◌, None, drop}
use Rattle.goo_store_rules.specs.WellKept.{are_apart as have_none_in_common}
use Rattle.goo_store_rules.proofs.apart.are_apart.Given as goal

abbrev pub invariant-loop-row : goal.invariant-loop-row
invariant-loop-row l = have_none_in_common None l.rows ≡ have_none_in_common l.last (drop l.row-index l.rows)
