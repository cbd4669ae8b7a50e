-- What a request comes to.
use Rattle.std.specs.Prelude.{◌≡◌, ◌≤◌, List, length, [], None}
use Rattle.goo_types.specs.declared.outcome.Outcome.TheVariants as outcome_of
use Rattle.goo_types.specs.declared.piece.Piece.{Piece}
use Rattle.goo_types.specs.declared.reply.Reply.{Reply}
use Rattle.goo_types.specs.declared.request.Request.{Request}
use Rattle.goo_spec.specs.State.{State}
use Rattle.goo_spec.specs.Step.{outcome}
use Rattle.goo_core_shelf.specs.Plan.{Fits}
use Rattle.goo_core_shelf.specs.declared.plan.Plan.{Plan}
use Rattle.goo_core_moves.specs.Edits.{most_edits, edited_ranges}
use Rattle.goo_core_rules.specs.Changes.{AreSmall}
use Rattle.goo_core_rules.specs.declared.decision.Decision.{Decision}
use Rattle.goo_core_rules.specs.declared.decision.Decision.TheVariants as decided
use Rattle.goo_core_rules.specs.declared.ruling.Change.{Change}
use Rattle.goo_core_rules.specs.declared.ruling.Ruling.{Ruling}
use Rattle.goo_core_rules.specs.declared.ruling.Ruling.TheVariants.{Refused, Passed}
use Rattle.goo_core_judges.specs.declared.verdict.Verdict.{Verdict}
use Rattle.goo_core_judges.specs.declared.verdict.Verdict.TheVariants.{Fails, Passes}

-- a plan of the request, with its reply, that may be committed, whose edits are few, and each of few rows
pub record IsPlanOf (s : State) (rows : List Piece) (q : Request) (plan : Plan) (reply : Reply) : Type 0 where
  pub request : plan.request ≡ q
  pub reply_is : plan.reply ≡ reply
  pub fits : Fits s rows plan
  pub few : length plan.edits.items ≤ most_edits s rows q.command
  pub small : AreSmall (edited_ranges s q.command) rows plan.edits.items

-- a decision is what the request comes to by the definitions, and its plan fits
abbrev pub IsDecision : State → List Piece → Request → Decision → Type 0
IsDecision s rows q (decided.Refused refusal) = outcome s q ≡ outcome_of.Refused refusal
IsDecision s rows q (decided.Repeated reply) = outcome s q ≡ outcome_of.Repeated reply
IsDecision s rows q (decided.Accept plan reply) = IsPlanOf s rows q plan reply

-- a change with that reply and nothing else
pub record IsQuiet (reply : Reply) (change : Change) : Type 0 where
  pub answered : change.reply ≡ reply
  pub edits : change.edits.items ≡ []
  pub sent : change.notice ≡ None

-- a verdict of a command that leaves the rows as they are
abbrev pub IsRulingWithoutEdits : Verdict → Ruling → Type 0
IsRulingWithoutEdits (Fails refusal) ruling = ruling ≡ Refused refusal
IsRulingWithoutEdits (Passes reply) ruling = (change : Change) × (ruling ≡ Passed change) × IsQuiet reply change
