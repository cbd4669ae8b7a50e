-- What bytes are answered, and the state that this leaves.
use Rattle.std.specs.Prelude.{◌≡◌, ◌⊎◌, ℕ, Bool, false, List, Option, Some, None, Result, Ok, Err}
use Rattle.goo_types.specs.declared.outcome.Outcome.{Outcome}
use Rattle.goo_types.specs.declared.outcome.Outcome.TheVariants.{Accepted, Repeated, Refused}
use Rattle.goo_types.specs.declared.refusal.Refusal.{Refusal}
use Rattle.goo_types.specs.declared.refusal.Refusal.TheVariants.{NotAllowed}
use Rattle.goo_spec.specs.State.{State}
use Rattle.goo_desk_body.specs.Body.{body_of}
use Rattle.goo_desk_lines.specs.Answers.{answer_by, state_by, answer_text}
use Rattle.goo_desk_lines.specs.Lines.{body_reading}
use Rattle.goo_desk_lines.specs.declared.answer.LineAnswer.{LineAnswer}
use Rattle.goo_desk_lines.specs.declared.answer.LineAnswer.TheVariants as answer
use Rattle.goo_desk_heads.specs.Requests.{Decides, Parts, is_for_head}
use Rattle.goo_desk_heads.specs.declared.refusal.HeadFault.{HeadFault as HeadRefusal}
use Rattle.goo_desk_heads.specs.declared.refusal.HeadFault.TheVariants as head
use Rattle.goo_desk_heads.specs.declared.request.RefusedHead.{RefusedHead}
use Rattle.goo_desk_responses.specs.Responses.{Response, response_of, response_text, fixed}
use Rattle.goo_desk_responses.specs.declared.content.Content.{Content}
use Rattle.goo_desk_responses.specs.declared.content.Content.TheVariants.{Json, Text}
use Rattle.goo_desk_responses.specs.declared.status.Status.{Status}
use Rattle.goo_desk_responses.specs.declared.status.Status.TheVariants as status
use Rattle.goo_desk_routes.specs.declared.task.Subject.{Subject}
use Rattle.goo_desk_routes.specs.declared.task.Subject.TheVariants.{Statement, Certificate, Cancellation, Notice, Audit}
use Rattle.goo_desk_routes.specs.declared.task.Task.{Task}
use Rattle.goo_desk_routes.specs.declared.task.Task.TheVariants.{Apply, Import, Show}
use Rattle.goo_desk_backend.specs.Backends.{Showing, Importing, Beginning}
use Rattle.goo_desk_answers.specs.Handling.{handling_of}
use Rattle.goo_core_reads.specs.declared.denial.Denial.{Denial}
use Rattle.goo_core_reads.specs.declared.denial.Denial.TheVariants as denial
use Rattle.goo_desk_answers.specs.declared.handling.Handling.{Handling}
use Rattle.goo_desk_answers.specs.declared.handling.Handling.TheVariants.{Fixed, Own}

-- ---- a request that is applied

abbrev pub status_of_refusal : Refusal → Status
status_of_refusal NotAllowed = status.Forbidden
status_of_refusal _ = status.Conflict

abbrev pub status_of_outcome : Outcome → Status
status_of_outcome (Accepted reply) = status.Done
status_of_outcome (Repeated reply) = status.Done
status_of_outcome (Refused refusal) = status_of_refusal refusal

abbrev pub status_of_answer : LineAnswer → Status
status_of_answer (answer.Decided outcome) = status_of_outcome outcome
status_of_answer (answer.Unreadable reason) = status.BadRequest

-- what the body of a caller's request is answered, and the state after it: as a line of these
unfoldable pub applied : State → List ℕ → List ℕ → LineAnswer
applied s caller body = answer_by s (body_reading (body_of caller body))

unfoldable pub state_applied : State → List ℕ → List ℕ → State
state_applied s caller body = state_by s (body_reading (body_of caller body))

abbrev pub apply_response : LineAnswer → Response
apply_response given = response_of (status_of_answer given) Json (answer_text given)

-- ---- what is shown

abbrev pub content_of : Subject → Content
content_of (Statement account) = Text
content_of (Certificate number) = Json
content_of (Cancellation act) = Text
content_of (Notice act) = Json
content_of Audit = Text

abbrev pub status_of_denial : Denial → Status
status_of_denial denial.NotAllowed = status.Forbidden
status_of_denial denial.Unknown = status.NotFound

abbrev pub show_response : Subject → Result (List ℕ) Denial → Response
show_response subject (Ok text) = response_of status.Done (content_of subject) text
show_response subject (Err why) = fixed (status_of_denial why) None

-- ---- an import

abbrev pub import_response : Option (List ℕ) → Response
import_response (Some report) = response_of status.Done Text report
import_response None = fixed status.BadRequest None

-- ---- all of it

abbrev pub status_of_head : HeadRefusal → Status
status_of_head head.BadRequest = status.BadRequest
status_of_head head.TooLarge = status.TooLarge
status_of_head head.NotImplemented = status.NotImplemented

-- this response, with its body or without, and the state as it was
pub record IsFixed (s : State) (for_head : Bool) (why : Status) (is : Response) (given : Status) (bytes : List ℕ) (after : State) : Type 0 where
  pub status : given ≡ why
  pub text : bytes ≡ response_text for_head is
  pub state : after ≡ s

-- this response, with its body
pub record IsGiven (is : Response) (given : Status) (bytes : List ℕ) : Type 0 where
  pub status : given ≡ is.status
  pub text : bytes ≡ response_text false is

module _ (shows : Showing) (imports : Importing) where
  -- the route's own answer
  abbrev pub Does : State → List ℕ → List ℕ → Task → Status → List ℕ → State → Type 0
  Does s caller body Apply given text after = IsGiven (apply_response (applied s caller body)) given text × (after ≡ state_applied s caller body)
  Does s caller body Import given text after = (report : Option (List ℕ)) × imports s caller body report after × IsGiven (import_response report) given text
  Does s caller body (Show subject) given text after = (shown : Result (List ℕ) Denial) × shows s caller subject shown × IsGiven (show_response subject shown) given text × (after ≡ s)

  abbrev pub Handles : State → Parts → Handling → Status → List ℕ → State → Type 0
  Handles s p (Fixed why allow) given text after = IsFixed s (is_for_head p.method) why (fixed why allow) given text after
  Handles s p (Own caller task) given text after = Does s caller p.body task given text after

  abbrev pub RespondsTo : State → Result Parts RefusedHead → Status → List ℕ → State → Type 0
  RespondsTo s (Err refused) given text after = IsFixed s refused.is_head (status_of_head refused.why) (fixed (status_of_head refused.why) None) given text after
  RespondsTo s (Ok p) given text after = Handles s p (handling_of p) given text after

  -- what all the bytes of a stream are answered, its status, and the state after it
  abbrev pub Responds : State → List ℕ → Status → List ℕ → State → Type 0
  Responds s bytes given text after = (d : Result Parts RefusedHead) × Decides bytes d × RespondsTo s d given text after

  -- bytes are answered in one way
  abbrev pub IsOneResponse : Type 0
  IsOneResponse =
      (s : State) (bytes : List ℕ) (a b : Status) (t u : List ℕ) (after next : State)
      → Responds s bytes a t after → Responds s bytes b u next → (a ≡ b) × (t ≡ u) × (after ≡ next)

module _ (imports : Importing) (begins : Beginning) where
  -- the state after a fault of an import: its first rows stand, or all of them
  abbrev pub Stopped : State → List ℕ → List ℕ → State → Type 0
  Stopped s caller body after = begins s caller body after ⊎ ((report : Option (List ℕ)) × imports s caller body report after)

  abbrev pub Stops : State → List ℕ → List ℕ → Task → State → Type 0
  Stops s caller body Apply after = after ≡ s
  Stops s caller body Import after = Stopped s caller body after
  Stops s caller body (Show subject) after = after ≡ s

  abbrev pub StopsIn : State → Parts → Handling → State → Type 0
  StopsIn s p (Fixed why allow) after = after ≡ s
  StopsIn s p (Own caller task) after = Stops s caller p.body task after

  abbrev pub StopsAt : State → Result Parts RefusedHead → State → Type 0
  StopsAt s (Err refused) after = after ≡ s
  StopsAt s (Ok p) after = (after ≡ s) ⊎ StopsIn s p (handling_of p) after

  -- the state after a fault: as it was, but for an import
  abbrev pub Fails : State → List ℕ → State → Type 0
  Fails s bytes after = (d : Result Parts RefusedHead) × Decides bytes d × StopsAt s d after
