-- From a ruling to what the request comes to.
use Rattle.std.proofs.Common.{◌≡◌, ◌∙◌, List, Option, Some, None, refl, ap, sym, subst, arith, []}
use Rattle.std.specs.FinMap.{get}
use Rattle.goo_types.specs.Obeys.{Obeys}
use Rattle.goo_types.specs.declared.outcome.Outcome.TheVariants as outcome_of
use Rattle.goo_types.specs.declared.piece.Piece.{Piece}
use Rattle.goo_types.specs.declared.refusal.Refusal.{Refusal}
use Rattle.goo_types.specs.declared.reply.Reply.{Reply}
use Rattle.goo_types.specs.declared.request.Request.{Request}
use Rattle.goo_spec.specs.Lots.{Certificates}
use Rattle.goo_spec.specs.Sound.{IsSound}
use Rattle.goo_spec.specs.State.{State}
use Rattle.goo_spec.specs.Step.{outcome, keyed_outcome, fresh_outcome, accept}
use Rattle.goo_ranges_rows.specs.Rows.{AreRowsOf}
use Rattle.goo_core_shelf.specs.declared.plan.Plan.{Plan}
use Rattle.goo_core_rules.specs.Decision.{plan_of, IsDecisionBy}
use Rattle.goo_core_judges.specs.Decision.{IsPlanOf, IsDecision, IsRulingWithoutEdits}
use Rattle.goo_core_moves.specs.Ruling.{Meaning, IsPassed, IsRuling, plain_meaning, meaning_of}
use Rattle.goo_core_judges.specs.Verdict.{verdict_of}
use Rattle.goo_core_rules.specs.declared.decision.Decision.{Decision}
use Rattle.goo_core_rules.specs.declared.ruling.Change.{Change}
use Rattle.goo_core_rules.specs.declared.ruling.Ruling.{Ruling}
use Rattle.goo_core_rules.specs.declared.ruling.Ruling.TheVariants.{Refused, Repeated, Passed}
use Rattle.goo_core_judges.specs.declared.verdict.Verdict.{Verdict}
use Rattle.goo_core_judges.specs.declared.verdict.Verdict.TheVariants.{Fails, Passes}
use Rattle.goo_core_moves.proofs.Changing.{unturned}
use Rattle.goo_core_judges.proofs.KnownLots.{known_lots}

-- a command that leaves the rows as they are
quiet_by : (refused : Option Refusal) (reply : Reply) (at : Certificates) (rows : List Piece) (verdict : Verdict) (ruling : Ruling) → AreRowsOf at rows → verdict ≡ verdict_of refused reply → IsRulingWithoutEdits verdict ruling
    → IsRuling (plain_meaning refused reply at (λ rows. 0) []) rows ruling
quiet_by (Some r) reply at rows (Fails q) ruling kept is quiet = subst (IsRuling (plain_meaning (Some r) reply at (λ rows. 0) []) rows) (sym quiet) (refl, cc)
quiet_by (Some r) reply at rows (Passes q) ruling kept is quiet = absurd (cc)
quiet_by None reply at rows (Fails q) ruling kept is quiet = absurd (cc)
quiet_by None reply at rows (Passes q) ruling kept is quiet =
    let change = quiet.0 in
    let same : q ≡ reply = cc in
    let none = unturned [] at rows kept in
    let passed : IsPassed (plain_meaning None reply at (λ rows. 0) []) rows change = record {
      fresh = refl;
      allowed = refl;
      answered = quiet.2.answered ∙ same;
      sent = quiet.2.sent;
      rising = rw quiet.2.edits none.rising;
      turned = rw quiet.2.edits none.turned;
      few = rw quiet.2.edits (omega arith);
      small = rw quiet.2.edits none.small;
      lots = rw quiet.2.edits none.lots;
    } in
    subst (IsRuling (plain_meaning None reply at (λ rows. 0) []) rows) (sym quiet.1) passed

pub quiet_ruled : (refused : Option Refusal) (reply : Reply) (at after : Certificates) (rows : List Piece) (verdict : Verdict) (ruling : Ruling) → AreRowsOf at rows → after ≡ at → verdict ≡ verdict_of refused reply → IsRulingWithoutEdits verdict ruling
    → IsRuling (plain_meaning refused reply after (λ rows. 0) []) rows ruling
quiet_ruled refused reply at after rows verdict ruling kept same is quiet =
    subst (λ (m : Certificates). IsRuling (plain_meaning refused reply m (λ rows. 0) []) rows ruling) (sym same) (quiet_by refused reply at rows verdict ruling kept is quiet)

-- a request whose key isn't kept
fresh : (s : State) (q : Request) → get s.receipts (q.caller, q.key) ≡ None → (meaning : Meaning) → meaning_of s q.caller q.command ≡ meaning → outcome s q ≡ fresh_outcome meaning.repeated meaning.refused meaning.reply
fresh s q none meaning is =
    ap (λ o. keyed_outcome o q.command (fresh_outcome (meaning_of s q.caller q.command).repeated (meaning_of s q.caller q.command).refused (meaning_of s q.caller q.command).reply)) none
    ∙ ap (λ (m : Meaning). fresh_outcome m.repeated m.refused m.reply) is

pub decided_refused : (s : State) (rows : List Piece) (q : Request) (r : Refusal) → get s.receipts (q.caller, q.key) ≡ None → IsRuling (meaning_of s q.caller q.command) rows (Refused r) → outcome s q ≡ outcome_of.Refused r
decided_refused s rows q r none ruled =
    let m = meaning_of s q.caller q.command in
    fresh s q none m refl ∙ ap (λ o. fresh_outcome o m.refused m.reply) ruled.0 ∙ ap (λ o. fresh_outcome None o m.reply) ruled.1

pub decided_repeated : (s : State) (rows : List Piece) (q : Request) (reply : Reply) → get s.receipts (q.caller, q.key) ≡ None → IsRuling (meaning_of s q.caller q.command) rows (Repeated reply) → outcome s q ≡ outcome_of.Repeated reply
decided_repeated s rows q reply none ruled =
    let m = meaning_of s q.caller q.command in
    fresh s q none m refl ∙ ap (λ o. fresh_outcome o m.refused m.reply) ruled

pub decided_plan : (s : State) (rows : List Piece) (q : Request) (plan : Plan) (change : Change) → Obeys q.command → IsSound s → AreRowsOf s.at rows → get s.receipts (q.caller, q.key) ≡ None
    → IsRuling (meaning_of s q.caller q.command) rows (Passed change) → plan.request ≡ q → plan.reply ≡ change.reply → plan.edits ≡ change.edits → plan.notice ≡ change.notice → IsPlanOf s rows q plan change.reply
unfolding accept
decided_plan s rows q plan change obeys sound kept none ruled request reply edits notice =
    let m = meaning_of s q.caller q.command in
    let accepted : outcome s q ≡ outcome_of.Accepted plan.reply =
    fresh s q none m refl ∙ ap (λ o. fresh_outcome o m.refused m.reply) ruled.fresh ∙ ap (λ o. fresh_outcome None o m.reply) ruled.allowed
    ∙ ap outcome_of.Accepted (sym ruled.answered ∙ sym reply) in
    record {
      request = request;
      reply_is = reply;
      fits = record {
        sound = sound;
        before = kept;
        accepted = rw request accepted;
        sent = notice ∙ ruled.sent ∙ rw request refl;
        rising = rw edits ruled.rising;
        turned = rw (edits, request) ruled.turned;
        known = rw (edits, request) (known_lots s q plan.reply obeys sound accepted rows change.edits.items kept ruled.lots);
      };
      few = rw edits ruled.few;
      small = rw edits ruled.small;
    }

-- what the ruling on a request's command makes of it
pub decided : (s : State) (rows : List Piece) (q : Request) (ruling : Ruling) (decision : Decision) → Obeys q.command → IsSound s → AreRowsOf s.at rows → get s.receipts (q.caller, q.key) ≡ None
    → IsRuling (meaning_of s q.caller q.command) rows ruling → IsDecisionBy q ruling decision → IsDecision s rows q decision
decided s rows q (Refused r) decision obeys sound kept none ruled is = subst (IsDecision s rows q) (sym is) (decided_refused s rows q r none ruled)
decided s rows q (Repeated reply) decision obeys sound kept none ruled is = subst (IsDecision s rows q) (sym is) (decided_repeated s rows q reply none ruled)
decided s rows q (Passed change) decision obeys sound kept none ruled is = subst (IsDecision s rows q) (sym is) (decided_plan s rows q (plan_of q change) change obeys sound kept none ruled refl refl refl refl)
