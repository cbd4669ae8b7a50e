use Rattle.std.proofs.Common.{◌≡◌, sum_by, take, ◌*◌, ◌^◌, ◌≤◌}
use Rattle.goo_spec.specs.Energy.{less_from}
use Rattle.goo_store.proofs.lowering.lowered_by.Given as goal

abbrev pub invariant-loop-correction : goal.invariant-loop-correction
invariant-loop-correction l = (l.sum ≡ sum_by (less_from l.declaration) (take l.correction-index l.corrections)) × (l.sum ≤ 10 ^ 15 * l.correction-index)
