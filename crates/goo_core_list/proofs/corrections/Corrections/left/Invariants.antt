use Rattle.std.proofs.Common.{◌≡◌, take, find, None}
use Rattle.goo_spec.specs.Energy.{begins}
use Rattle.goo_core_list.proofs.corrections.Corrections.left.Given as goal

abbrev pub invariant-loop-declaration : goal.invariant-loop-declaration
invariant-loop-declaration l = find (begins l.device l.first_day) (take l.declaration-index l.declarations) ≡ None
