use Rattle.goo_core_judges.proofs.Joining.{joined_longer, other_longer}
use Rattle.goo_core_judges.proofs.parts.push_part.Goals as goal

pub returns-in_ok-push-in-Some-joined : goal.returns-in_ok-push-in-Some-joined
returns-in_ok-push-in-Some-joined c =
    let found = c.in-Some-joined.ensures in
    joined_longer _ _ _ c.in-Some.last c.in-Some-joined.longer c.args.range c.args.lot c.in-Some.ensures.items c.in_ok-push-in-Some-joined.ensures.items found.lot.0 found.lot.1 found.range.0 found.range.1

pub returns-in_ok-push-in-None-2 : goal.returns-in_ok-push-in-None-2
returns-in_ok-push-in-None-2 c =
    other_longer _ _ _ _ c.in-Some.last c.args.range c.args.lot c.in-Some.ensures.items c.in_ok-push-in-None.ensures.items c.in_ok-push-in-None-2.ensures.items (c.joined.ensures.other c.in-None.is)
