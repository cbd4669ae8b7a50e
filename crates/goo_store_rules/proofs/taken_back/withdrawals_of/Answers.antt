use Rattle.std.proofs.Common.{rules, ◌≡◌, ◌<◌, ◌+◌, Some, None, take, length, arith, sym, subst}
use Rattle.goo_store_rules.specs.Correcting.{AreTakenBack}
use Rattle.goo_store_rules.proofs.CorrectingLemmas.{made_one, made_none}
use Rattle.goo_store_rules.proofs.taken_back.withdrawals_of.Goals as goal
use Rattle.goo_store_rules.proofs.taken_back.withdrawals_of.Goals.{in-Some+in_ok-insert, in_default}

pub loop-correction-preserved : goal.loop-correction-preserved
loop-correction-preserved c =
    let cs = c.args.corrected.now in
    let i = c.loop-correction.correction-index in
    let x = c.correction-item.result in
    let low : i < length cs = omega (arith, c.loop-correction-test.true) in
    let device_is : c.correction.inside.device ≡ x.device = search rules in
    elim c.match-correction.branch [
      | in-Some+in_ok-insert w ↦
          let made : x.withdrawal ≡ Some w.in-Some.act = search rules in
          subst (AreTakenBack (take (i + 1) cs)) (sym w.set-is)
          (λ device act. made_one cs i x low c.correction-item.is device act _ _ w.in-Some.act made (c.loop-correction.invariant device act) (rw (w.get.ensures.value, device_is) at (w.in_ok-insert.ensures.updates.0 (device, act))))
      | in_default w ↦
          let none : x.withdrawal ≡ None = search rules in
          subst (AreTakenBack (take (i + 1) cs)) (sym w.set-is)
          (λ device act. made_none cs i x low c.correction-item.is device act _ none (c.loop-correction.invariant device act))
    ]
