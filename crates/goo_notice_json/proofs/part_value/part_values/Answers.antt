use Rattle.goo_notice_json.proofs.LoopLemmas.{values_on, limits_on}
use Rattle.goo_notice_json.proofs.part_value.part_values.Goals as goal

pub loop-part-preserved : goal.loop-part-preserved
loop-part-preserved c =
    let lt = c.loop-part-test.true in (
      rw c.in_ok-push.ensures.items (values_on c.args.carried c.loop-part.values.items c.args.parts.now c.loop-part.part-index _ _ lt c.part-item.is c.in_ok-part_value.ensures.value c.loop-part.invariant.0),
      limits_on c.args.parts.now c.loop-part.part-index _ lt c.part-item.is c.in_ok-part_value.ensures.limits c.loop-part.invariant.1,
    )
