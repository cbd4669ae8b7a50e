use Rattle.std.proofs.Common.{rules, ◌+◌, ap, ◌∙◌, cond, Some}
use Rattle.std.specs.BTreeMap.{get}
use Rattle.std.specs.Ordering.{eq_by_cmp}
use Rattle.goo_spec.specs.State.{text_cmp}
use Rattle.goo_store_rules.proofs.SumLemmas.{added}
use Rattle.goo_store_rules.proofs.sums.add_to.Goals as goal

pub returns-in-Some : goal.returns-in-Some
returns-in-Some c =
    let sum = c.in-Some.sum.now + c.args.more in
    added c.args.sums.now c.args.device sum c.args.more (search rules) (c.get_mut.follows.lender sum) ((c.get_mut.follows.holds sum).3 (search rules)).0

pub returns : goal.returns
returns c =
    added c.args.sums.now c.args.device c.args.more c.args.more (search rules) c.insert.new.self
    (λ q. c.in_ok-insert.ensures.updates.0 q ∙ ap (λ m. cond (eq_by_cmp text_cmp c.args.device q) (Some c.args.more) (get text_cmp m q)) c.get_mut.follows.holds-at-none)
