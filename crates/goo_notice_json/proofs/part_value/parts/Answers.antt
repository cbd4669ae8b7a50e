use Rattle.std.proofs.lemmas.Result.{err_from_is_err_and}
use Rattle.goo_notice_json.proofs.LoopLemmas.{parts_on, parts_err, parts_end, parts_begin}
use Rattle.goo_notice_json.proofs.part_value.parts.Goals as goal

pub loop-value-init : goal.loop-value-init
loop-value-init c = rw c.new-parts.ensures.items (parts_begin _)

pub loop-value-preserved : goal.loop-value-preserved
loop-value-preserved c =
    rw c.in_ok-push.ensures.items (parts_on c.args.carried c.loop-value.parts.items c.args.values.now c.loop-value.value-index _ _ _ c.loop-value-test.true c.value-item.is c.in_ok-part.ensures c.loop-value.invariant)

pub returns-in_err-part : goal.returns-in_err-part
returns-in_err-part c =
    let p = err_from_is_err_and c.from_residual.result c.from_residual.ensures.1 in
    rw (p.1, p.2) (parts_err c.args.carried c.loop-value.parts.items c.args.values.now c.loop-value.value-index _ _ _ c.loop-value-test.true c.value-item.is c.in_err-part.ensures c.loop-value.invariant)

pub returns : goal.returns
returns c = parts_end c.args.carried _ c.args.values.now c.loop-value.value-index _ c.loop-value-test.false c.loop-value.invariant
