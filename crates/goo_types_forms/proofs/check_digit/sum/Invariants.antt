use Rattle.goo_types_forms.proofs.SumLemmas.{IsSummedTo}
use Rattle.goo_types_forms.proofs.check_digit.sum.Given as goal

abbrev pub invariant-loop-digit : goal.invariant-loop-digit
invariant-loop-digit l = IsSummedTo l.text l.digit-index l.sum l.weight
