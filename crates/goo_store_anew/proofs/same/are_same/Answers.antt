use Rattle.std.proofs.Common.{◌≡◌, ◌∙◌, length, refl, arith, rules, sym}
use Rattle.std.proofs.lemmas.List.{take_all}
use Rattle.goo_store_anew.proofs.Rows.{same_more}
use Rattle.goo_store_anew.proofs.same.are_same.Goals as goal

pub loop-at-init : goal.loop-at-init
loop-at-init c = refl

pub loop-at-preserved : goal.loop-at-preserved
loop-at-preserved c =
    same_more c.args.ones.now c.args.others.now c.loop-at.at c.index-ones-at.result c.index-others-at.result (omega (arith, c.loop-at-test.true)) (search rules) (sym c.index-ones-at.is) (sym c.index-others-at.is) (search rules) c.loop-at.invariant

pub returns : goal.returns
returns c it =
    let long : length c.args.ones.now ≡ length c.args.others.now = search rules in
    sym (take_all c.loop-at.at c.args.ones.now (omega (arith, c.loop-at-test.false))) ∙ c.loop-at.invariant ∙ take_all c.loop-at.at c.args.others.now (omega (arith, long, c.loop-at-test.false))
