-- What bytes ask a registry to show, and registries that answer them alike.
use Rattle.std.specs.Prelude.{◌≡◌, ℕ, List, Ok}
use Rattle.goo_spec.specs.State.{State}
use Rattle.goo_desk_heads.specs.Requests.{Decides, Parts}
use Rattle.goo_desk_responses.specs.declared.status.Status.{Status}
use Rattle.goo_desk_routes.specs.declared.task.Subject.{Subject}
use Rattle.goo_desk_routes.specs.declared.task.Task.TheVariants.{Show}
use Rattle.goo_desk_backend.specs.Showing.{shown_by, imported_by}
use Rattle.goo_desk_answers.specs.Handling.{handling_of}
use Rattle.goo_desk_answers.specs.Responds.{Responds}
use Rattle.goo_desk_answers.specs.declared.handling.Handling.TheVariants.{Own}

-- the bytes are a whole request by which this caller asks to be shown this
pub record Asks (bytes caller : List ℕ) (subject : Subject) : Type 0 where
  pub parts : Parts
  pub decides : Decides bytes (Ok parts)
  pub handled : handling_of parts ≡ Own caller (Show subject)

-- a registry in this state answers the bytes with this status and this text, head and body
abbrev pub Answers : State → List ℕ → Status → List ℕ → Type 0
Answers s bytes status text = (after : State) × Responds shown_by imported_by s bytes status text after

-- two states answer them with one status and one text
abbrev pub AnswerAlike : List ℕ → State → State → Type 0
AnswerAlike bytes s t = (one other : Status) (text as_well : List ℕ) → Answers s bytes one text → Answers t bytes other as_well → (one ≡ other) × (text ≡ as_well)
