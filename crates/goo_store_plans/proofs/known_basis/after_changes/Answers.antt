use Rattle.std.proofs.Common.{◌<◌, ◌∙◌, take, length, ap, subst, arith}
use Rattle.std.proofs.lemmas.List.{take_all}
use Rattle.goo_tables_rows.proofs.Inside.{fold_more}
use Rattle.goo_store_changes.specs.Changes.{made, made_all}
use Rattle.goo_store_plans.specs.Found.{AreNumbered, IsBasisOf}
use Rattle.goo_store_plans.proofs.Numbered.{numbered_still}
use Rattle.goo_store_plans.proofs.known_basis.after_changes.Goals as goal

pub loop-change-init : goal.loop-change-init
loop-change-init c = record {
  numbered = λ t order. record { declarations = order.declarations; lots = order.lots; corrections = order.corrections };
  known = λ t order is. is;
}

pub loop-change-preserved : goal.loop-change-preserved
loop-change-preserved c =
    let xs = c.args.changes.now in
    let i = c.loop-change.change-index in
    let item = c.change-item.result in
    let low : i < length xs = omega (arith, c.loop-change-test.true) in
    record {
      numbered = λ t order.
          subst AreNumbered (ap (made (made_all t (take i xs))) c.change-item.is ∙ fold_more made t xs i item low) (numbered_still (made_all t (take i xs)) item (c.loop-change.invariant.numbered t order));
      known = λ t order is.
          subst (IsBasisOf c.after_change-after.result) (ap (made (made_all t (take i xs))) c.change-item.is ∙ fold_more made t xs i item low)
          (c.after_change-after.ensures (made_all t (take i xs)) (c.loop-change.invariant.numbered t order) (c.loop-change.invariant.known t order is));
    }

pub returns : goal.returns
returns c t order is =
    subst (λ xs. IsBasisOf c.loop-change.after (made_all t xs)) (take_all c.loop-change.change-index c.args.changes.now (omega (arith, c.loop-change-test.false))) (c.loop-change.invariant.known t order is)
