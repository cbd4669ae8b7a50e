-- What a receipt says of a request.
use Rattle.std.proofs.Common.{◌≡◌, List, Option, Some, None, true, false, cond, refl, subst}
use Rattle.std.specs.FinMap.{get}
use Rattle.goo_types.specs.declared.command.Command.{Command}
use Rattle.goo_types.specs.declared.outcome.Outcome.{Outcome}
use Rattle.goo_types.specs.declared.outcome.Outcome.TheVariants as outcome_of
use Rattle.goo_types.specs.declared.piece.Piece.{Piece}
use Rattle.goo_types.specs.declared.refusal.Refusal.TheVariants.{KeyReused}
use Rattle.goo_types.specs.declared.reply.Reply.{Reply}
use Rattle.goo_types.specs.declared.request.Request.{Request}
use Rattle.goo_spec.specs.State.{State}
use Rattle.goo_spec.specs.Step.{keyed_outcome, is_kept}
use Rattle.goo_core_shelf.specs.Shelf.{receipt_of}
use Rattle.goo_core_shelf.specs.declared.found.Receipt.{Receipt}
use Rattle.goo_core_shelf.specs.declared.found.Receipt.TheVariants as receipt
use Rattle.goo_core_rules.specs.declared.decision.Decision.{Decision}
use Rattle.goo_core_rules.specs.declared.decision.Decision.TheVariants as decided_as
use Rattle.goo_core_reads.specs.Requests.{decision_kept}
use Rattle.goo_core_judges.specs.Decision.{IsDecision}

kept_same : (o : Option (Option Command × Reply)) (command : Command) (reply : Reply) (fresh : Outcome) → receipt.Same reply ≡ receipt_of o command → keyed_outcome o command fresh ≡ outcome_of.Repeated reply
kept_same None command reply fresh is = absurd (cc)
kept_same (Some kept) command reply fresh is =
    elim (is_kept kept.0 command) as (λ b. receipt.Same reply ≡ cond b (receipt.Same kept.1) receipt.Other → cond b (outcome_of.Repeated kept.1) (outcome_of.Refused KeyReused) ≡ outcome_of.Repeated reply) [ true ↦ λ e. cc | false ↦ λ e. absurd (cc) ] is

kept_other : (o : Option (Option Command × Reply)) (command : Command) (fresh : Outcome) → receipt.Other ≡ receipt_of o command → keyed_outcome o command fresh ≡ outcome_of.Refused KeyReused
kept_other None command fresh is = absurd (cc)
kept_other (Some kept) command fresh is =
    elim (is_kept kept.0 command) as (λ b. receipt.Other ≡ cond b (receipt.Same kept.1) receipt.Other → cond b (outcome_of.Repeated kept.1) (outcome_of.Refused KeyReused) ≡ outcome_of.Refused KeyReused) [ true ↦ λ e. absurd (cc) | false ↦ λ e. refl ] is

kept_absent : (o : Option (Option Command × Reply)) (command : Command) → receipt.Absent ≡ receipt_of o command → o ≡ None
kept_absent None command is = refl
kept_absent (Some kept) command is = elim (is_kept kept.0 command) as (λ b. receipt.Absent ≡ cond b (receipt.Same kept.1) receipt.Other → Some kept ≡ None) [ true ↦ λ e. absurd (cc) | false ↦ λ e. absurd (cc) ] is

-- what a kept key answers is what the request comes to
pub kept_decided : (s : State) (rows : List Piece) (q : Request) (r : Receipt) (decision : Decision) → Some decision ≡ decision_kept r → r ≡ receipt_of (get s.receipts (q.caller, q.key)) q.command → IsDecision s rows q decision
kept_decided s rows q receipt.Absent decision is found = absurd (cc)
kept_decided s rows q (receipt.Same reply) decision is found =
    let same : decided_as.Repeated reply ≡ decision = cc in
    subst (IsDecision s rows q) same (kept_same (get s.receipts (q.caller, q.key)) q.command reply _ found)
kept_decided s rows q receipt.Other decision is found =
    let same : decided_as.Refused KeyReused ≡ decision = cc in
    subst (IsDecision s rows q) same (kept_other (get s.receipts (q.caller, q.key)) q.command _ found)

-- and a key that answers nothing isn't kept
pub kept_by_none : (o : Option (Option Command × Reply)) (command : Command) (r : Receipt) → None ≡ decision_kept r → r ≡ receipt_of o command → o ≡ None
kept_by_none o command receipt.Absent is found = kept_absent o command found
kept_by_none o command (receipt.Same reply) is found = absurd (cc)
kept_by_none o command receipt.Other is found = absurd (cc)
