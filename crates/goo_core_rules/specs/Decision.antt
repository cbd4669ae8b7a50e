-- What a request comes to by the ruling on its command.
use Rattle.std.specs.Prelude.{◌≡◌}
use Rattle.goo_types.specs.declared.request.Request.{Request}
use Rattle.goo_core_shelf.specs.declared.plan.Plan.{Plan}
use Rattle.goo_core_rules.specs.declared.decision.Decision.{Decision}
use Rattle.goo_core_rules.specs.declared.decision.Decision.TheVariants as decided
use Rattle.goo_core_rules.specs.declared.ruling.Change.{Change}
use Rattle.goo_core_rules.specs.declared.ruling.Ruling.{Ruling}
use Rattle.goo_core_rules.specs.declared.ruling.Ruling.TheVariants.{Refused, Repeated, Passed}

-- the plan of a request by the change that its command comes to
abbrev pub plan_of : Request → Change → Plan
plan_of q change = record { request = q; reply = change.reply; edits = change.edits; notice = change.notice }

-- what is refused or repeated is so decided, and what passes is accepted by the plan of its change
abbrev pub IsDecisionBy : Request → Ruling → Decision → Type 0
IsDecisionBy q (Refused refusal) decision = decision ≡ decided.Refused refusal
IsDecisionBy q (Repeated reply) decision = decision ≡ decided.Repeated reply
IsDecisionBy q (Passed change) decision = decision ≡ decided.Accept (plan_of q change) change.reply
