-- The answer to a line.
use Rattle.std.specs.Prelude.{ℕ, Bool, true, false, List, [], ◌∷◌, ◌++◌, Result, Ok, Err}
use Rattle.goo_types.specs.declared.outcome.Outcome.{Outcome}
use Rattle.goo_types.specs.declared.outcome.Outcome.TheVariants.{Accepted, Repeated, Refused}
use Rattle.goo_types.specs.declared.request.Request.{Request}
use Rattle.goo_spec.specs.State.{State}
use Rattle.goo_spec.specs.Step.{outcome, next}
use Rattle.goo_desk_outcome.specs.Texts.{outcome_text}
use Rattle.goo_desk_outcome.specs.Unreadable.{unreadable_text}
use Rattle.goo_desk_outcome.specs.declared.unreadable.Unreadable.{Unreadable}
use Rattle.goo_desk_lines.specs.Lines.{request_in}
use Rattle.goo_desk_lines.specs.declared.answer.LineAnswer.{LineAnswer}
use Rattle.goo_desk_lines.specs.declared.answer.LineAnswer.TheVariants as answer

-- a request is answered by its outcome, and a line without one by the reason
abbrev pub answer_by : State → Result Request Unreadable → LineAnswer
answer_by s (Ok request) = answer.Decided (outcome s request)
answer_by s (Err reason) = answer.Unreadable reason

abbrev pub state_by : State → Result Request Unreadable → State
state_by s (Ok request) = next s request
state_by s (Err reason) = s

-- what a line is answered, and the state that it leaves
unfoldable pub answer_to : State → List ℕ → LineAnswer
answer_to s line = answer_by s (request_in line)

unfoldable pub state_after : State → List ℕ → State
state_after s line = state_by s (request_in line)

-- the text of an answer, and the line that holds it
abbrev pub answer_text : LineAnswer → List ℕ
answer_text (answer.Decided o) = outcome_text o
answer_text (answer.Unreadable reason) = unreadable_text reason

unfoldable pub answer_line : LineAnswer → List ℕ
answer_line a = answer_text a ++ 10 ∷ []

abbrev pub is_carried_out : Outcome → Bool
is_carried_out (Accepted reply) = true
is_carried_out (Repeated reply) = true
is_carried_out (Refused refusal) = false

-- accepted, now or before
abbrev pub is_good : LineAnswer → Bool
is_good (answer.Decided o) = is_carried_out o
is_good (answer.Unreadable reason) = false
