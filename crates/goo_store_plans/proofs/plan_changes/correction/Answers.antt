use Rattle.sqlite.specs.Held.{state}
use Rattle.std.proofs.Common.{◌≡◌, ℕ, None, Ok, Err, Option, ap, subst, sym, ◌∙◌, rules}
use Rattle.goo_types.specs.declared.command.Command.TheVariants as command
use Rattle.goo_spec.specs.Step.{refusal, reply_to}
use Rattle.goo_spec.proofs.Again.{accepted_reply}
use Rattle.goo_spec.proofs.Stepping.{accepted_passes}
use Rattle.goo_spec_tables.specs.States.{state_of}
use Rattle.goo_types.specs.declared.reply.Reply.TheVariants.{Corrected}
use Rattle.goo_store_plans.specs.Carrying.{CarriesOut}
use Rattle.goo_store_plans.specs.Correcting.{CanBeCorrected}
use Rattle.goo_store_values.specs.declared.statement_fault.StatementFault.TheVariants.{Refused}
use Rattle.goo_store_plans.proofs.Joining.{carried_without}
use Rattle.goo_store_plans.proofs.LookUps.{looks_made}
use Rattle.goo_store_plans.proofs.Refusing.{blames_err, blames_made, blames_none, blames_so}
use Rattle.goo_store_plans.proofs.plan_changes.correction.Goals as goal

carry_same : (a b k l : ℕ) (m n : Option ℕ) → Corrected a k m ≡ Corrected b l n → a ≡ b
carry_same a b k l m n is = cc

pub returns-in_ok-changes-in-Corrected-clause-looks : goal.returns-in_ok-changes-in-Corrected-clause-looks
returns-in_ok-changes-in-Corrected-clause-looks g c =
    looks_made (state g.S.Store c.args.conn.now) (state g.S.Store c.correct_changes.new.conn) c.in_ok-changes-in-Corrected.changes (Ok c.without_lots.result) _ _ c.in_ok-changes-in-Corrected.ensures.looks
    (λ t it does q is told known order accepted.
    let x = c.args.accepted.now in
    let passes = subst (λ d. refusal (state_of t) q.caller d ≡ None) is (accepted_passes (state_of t) q c.args.reply accepted.accepted) in
    let replied = ap (reply_to (state_of t)) (sym is) ∙ accepted_reply (state_of t) q c.args.reply accepted.accepted ∙ c.in-Corrected.is in
    subst (λ d. CarriesOut t d c.without_lots.result) (sym is)
    (carried_without t (command.Correct x) c.in_ok-changes-in-Corrected.changes.items c.without_lots.result (ap (λ v. v.items) c.without_lots.ensures.changes) c.without_lots.ensures.added
    (does c.in-Corrected.count told known replied accepted.kept order q.caller passes)))

pub returns-in_err-changes-in-Corrected-clause-blames : goal.returns-in_err-changes-in-Corrected-clause-blames
returns-in_err-changes-in-Corrected-clause-blames g c =
    let s0 = state g.S.Store c.args.conn.now in
    let s1 = state g.S.Store c.correct_changes.new.conn in
    let same : c.from_residual.result ≡ Err c.in_err-changes-in-Corrected.field-0.0 = search rules in
    blames_err s0 s1 c.in_err-changes-in-Corrected.field-0.0 c.from_residual.result _ same
    (blames_so s0 s1 (Err c.in_err-changes-in-Corrected.field-0.0) _ _ c.in_err-changes-in-Corrected.ensures.blames
    (λ t stands kept needs. subst (CanBeCorrected t c.args.basis c.args.meta.now c.args.accepted.now) (carry_same needs.carry c.in-Corrected.carry needs.count c.in-Corrected.count needs.withdrawal c.in-Corrected.withdrawal (sym needs.reply_is ∙ c.in-Corrected.is)) needs.can))

pub returns-in_ok-changes-in-Corrected-clause-blames : goal.returns-in_ok-changes-in-Corrected-clause-blames
returns-in_ok-changes-in-Corrected-clause-blames g c =
    let s0 = state g.S.Store c.args.conn.now in
    let s1 = state g.S.Store c.correct_changes.new.conn in
    blames_made s0 s1 c.in_ok-changes-in-Corrected.changes _ c.in_ok-changes-in-Corrected.ensures.looks _ c.in_ok-changes-in-Corrected.ensures.blames (Ok c.without_lots.result) _ (λ t stands kept needs first. tt)

pub returns-in_default-clause-blames : goal.returns-in_default-clause-blames
returns-in_default-clause-blames g c = blames_none (state g.S.Store c.args.conn.now) (Err Refused) _ (λ t stands kept needs. absurd (c.in_default.not-Corrected needs.carry needs.count needs.withdrawal needs.reply_is))
