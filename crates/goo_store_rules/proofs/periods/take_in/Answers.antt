use Rattle.std.proofs.Common.{rules, ap, ◌∙◌, cond, Some}
use Rattle.std.specs.BTreeMap.{get}
use Rattle.std.specs.Ordering.{eq_by_cmp}
use Rattle.goo_spec.specs.State.{text_cmp}
use Rattle.goo_store_rules.proofs.periods.take_in.Goals as goal

pub returns-in-Some-clause-taken : goal.returns-in-Some-clause-taken
returns-in-Some-clause-taken c = ((c.get_mut.follows.holds c.args.period.now.last_day).3 (search rules)).0

pub returns-clause-taken : goal.returns-clause-taken
returns-clause-taken c = λ q.
    c.in_ok-insert.ensures.updates.0 q ∙ ap (λ m. cond (eq_by_cmp text_cmp c.args.period.now.device q) (Some c.args.period.now.last_day) (get text_cmp m q)) c.get_mut.follows.holds-at-none
