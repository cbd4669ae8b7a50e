use Rattle.std.proofs.Common.{refl}
use Rattle.goo_types_forms.proofs.SumLemmas.{IsSummedTo-start, IsSummedTo-step, IsSummedTo-end}
use Rattle.goo_types_forms.proofs.check_digit.sum.Goals as goal

pub loop-digit-init : goal.loop-digit-init
loop-digit-init c = IsSummedTo-start _

pub loop-digit-preserved : goal.loop-digit-preserved
loop-digit-preserved c = IsSummedTo-step c.args.text.now c.loop-digit.digit-index c.loop-digit.sum c.loop-digit.weight _ c.loop-digit-test.true refl c.requires.digits c.loop-digit.invariant

pub returns : goal.returns
returns c = IsSummedTo-end c.args.text.now _ _ _ c.requires.whole c.loop-digit-test.false c.loop-digit.invariant
