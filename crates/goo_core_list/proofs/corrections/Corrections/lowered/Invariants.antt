use Rattle.std.proofs.Common.{◌≡◌, sum_by, take, ◌*◌, ◌^◌, ◌≤◌}
use Rattle.goo_spec.specs.Energy.{less_of}
use Rattle.goo_core_list.proofs.corrections.Corrections.lowered.Given as goal

abbrev pub invariant-loop-correction : goal.invariant-loop-correction
invariant-loop-correction l = (l.sum ≡ sum_by (less_of l.device) (take l.correction-index l.self)) × (l.sum ≤ 10 ^ 15 * l.correction-index)
