-- What a caller gets over HTTP who is denied what he asks for.
use Rattle.std.specs.Prelude.{◌≡◌, ◌⊎◌, ℕ, List, false, None, Option, Ok, Err}
use Rattle.goo_spec.specs.State.{State}
use Rattle.goo_core_reads.specs.declared.denial.Denial.{Denial}
use Rattle.goo_core_shelf.specs.Desk.{Seen}
use Rattle.goo_desk_heads.specs.Requests.{Decides, Parts, is_for_head}
use Rattle.goo_desk_responses.specs.Responses.{response_text, fixed}
use Rattle.goo_desk_responses.specs.declared.status.Status.{Status}
use Rattle.goo_desk_responses.specs.declared.status.Status.TheVariants.{Unavailable}
use Rattle.goo_desk_routes.specs.declared.task.Subject.{Subject}
use Rattle.goo_desk_routes.specs.declared.task.Task.TheVariants.{Show}
use Rattle.goo_desk_backend.specs.Showing.{shown_by, imported_by, begun_by}
use Rattle.goo_desk_answers.specs.Handling.{handling_of}
use Rattle.goo_desk_answers.specs.Responds.{status_of_denial}
use Rattle.goo_desk_answers.specs.declared.handling.Handling.TheVariants.{Own}
use Rattle.goo_desk_listener.specs.Clients.{Closed}
use Rattle.goo_desk_server.specs.ConnectionEnds.{IsSent}
use Rattle.goo_desk_server.specs.ConnectionServed.{IsServed, unread_text}
use Rattle.goo_desk_server.specs.Connects.{Connects}

-- these bytes ask a registry in this state for a subject that its caller is denied
pub record IsDeniedTo (s : State) (bytes : List ℕ) (parts : Parts) (why : Denial) : Type 0 where
  pub decides : Decides bytes (Ok parts)
  pub caller : List ℕ
  pub subject : Subject
  pub asks : handling_of parts ≡ Own caller (Show subject)
  pub denied : shown_by s caller subject (Err why)

-- the text of the denial, or that of a fault: both say no more than their status
abbrev pub TellsNothing : Parts → Denial → List ℕ → Type 0
TellsNothing parts why text = (text ≡ response_text false (fixed (status_of_denial why) None)) ⊎ (text ≡ response_text (is_for_head parts.method) (fixed Unavailable None))

-- whatever such bytes are answered, the text tells nothing of the subject
abbrev pub DeniedSeeNothing : Type 0
DeniedSeeNothing =
    (old : Seen) (bytes : List ℕ) (parts : Parts) (why : Denial) (status : Status) (text : List ℕ) (new : Seen)
    → IsDeniedTo old.state bytes parts why → IsServed shown_by imported_by begun_by old bytes status text new → new.corruptions ≡ 0 → TellsNothing parts why text

-- and so the client of a connection is sent nothing of it: a text that tells nothing, or a beginning of one
abbrev pub DeniedAreSentNothing : Type 0
DeniedAreSentNothing =
    (known fresh : Option (List ℕ)) (closed : Closed) (old new : Seen) (one : Connects shown_by imported_by begun_by known fresh closed old new) (parts : Parts) (why : Denial)
    → IsDeniedTo old.state one.bytes parts why → new.corruptions ≡ 0 → (text : List ℕ) × (TellsNothing parts why text ⊎ (text ≡ unread_text)) × IsSent fresh closed.held closed.failed text
