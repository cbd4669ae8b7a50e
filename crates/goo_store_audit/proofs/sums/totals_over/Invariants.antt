use Rattle.std.proofs.Common.{◌≡◌, ◌++◌, map, drop}
use Rattle.goo_store_audit.specs.Summing.{total_in}
use Rattle.goo_store_audit.proofs.sums.totals_over.Given as goal

abbrev pub invariant-loop-device : goal.invariant-loop-device
invariant-loop-device l = l.totals.items ++ map (total_in l.declared l.lowered l.tally) (drop l.device-index l.devices) ≡ map (total_in l.declared l.lowered l.tally) l.devices
