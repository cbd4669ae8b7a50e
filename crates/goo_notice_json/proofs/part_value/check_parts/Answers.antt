use Rattle.std.proofs.lemmas.Result.{err_from_is_err_and}
use Rattle.goo_notice_json.proofs.LoopLemmas.{shapes_on, shapes_err, shapes_end}
use Rattle.goo_notice_json.proofs.part_value.check_parts.Goals as goal

pub loop-value-preserved : goal.loop-value-preserved
loop-value-preserved c = shapes_on c.args.carried c.args.values.now c.loop-value.value-index _ _ _ c.loop-value-test.true c.value-item.is c.in_ok-check_part.ensures c.loop-value.invariant

pub returns-in_err-check_part : goal.returns-in_err-check_part
returns-in_err-check_part c =
    let p = err_from_is_err_and c.from_residual.result c.from_residual.ensures.1 in
    rw (p.1, p.2) (shapes_err c.args.carried c.args.values.now c.loop-value.value-index _ _ _ c.loop-value-test.true c.value-item.is c.in_err-check_part.ensures c.loop-value.invariant)

pub returns : goal.returns
returns c = shapes_end c.args.carried c.args.values.now c.loop-value.value-index _ c.loop-value-test.false c.loop-value.invariant
