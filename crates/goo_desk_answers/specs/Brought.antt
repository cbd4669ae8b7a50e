-- The requests that bytes bring.
use Rattle.std.specs.Prelude.{◌≡◌, ◌⊎◌, ℕ, List, [], ◌∷◌, Option, Some, Result, Ok, Err}
use Rattle.goo_types.specs.declared.fault.Fault.{Fault}
use Rattle.goo_types.specs.declared.request.Request.{Request}
use Rattle.goo_spec.specs.Promise.{IsPromised}
use Rattle.goo_spec.specs.Run.{final}
use Rattle.goo_spec.specs.State.{State}
use Rattle.goo_core_shelf.specs.Desk.{Seen}
use Rattle.goo_desk_body.specs.Body.{body_of}
use Rattle.goo_desk_outcome.specs.declared.unreadable.Unreadable.{Unreadable}
use Rattle.goo_desk_lines.specs.Lines.{body_reading}
use Rattle.goo_desk_heads.specs.Requests.{Decides, Parts}
use Rattle.goo_desk_heads.specs.declared.request.RefusedHead.{RefusedHead}
use Rattle.goo_desk_routes.specs.declared.task.Task.{Task}
use Rattle.goo_desk_routes.specs.declared.task.Task.TheVariants.{Apply, Import, Show}
use Rattle.goo_desk_backend.specs.Tables.{AreOfTable, BeginTable}
use Rattle.goo_desk_answers.specs.Handling.{handling_of}
use Rattle.goo_desk_answers.specs.declared.handling.Handling.{Handling}
use Rattle.goo_desk_answers.specs.declared.handling.Handling.TheVariants.{Fixed, Own}

-- the request that a body states, if it states one
abbrev pub request_if_any : Result Request Unreadable → List Request
request_if_any (Ok q) = q ∷ []
request_if_any (Err reason) = []

-- what a caller's task brings: a body's request, the requests of a table, or nothing where something is shown
abbrev pub Brings : List ℕ → List ℕ → Task → List Request → Type 0
Brings caller body Apply qs = qs ≡ request_if_any (body_reading (body_of caller body))
Brings caller body Import qs = AreOfTable caller body qs
Brings caller body (Show subject) qs = qs ≡ []

-- what stands of it after a fault: of a table the first rows, and nothing else
abbrev pub BringsFirst : List ℕ → List ℕ → Task → List Request → Type 0
BringsFirst caller body Apply qs = qs ≡ []
BringsFirst caller body Import qs = BeginTable caller body qs
BringsFirst caller body (Show subject) qs = qs ≡ []

-- all of it, or what stands of it after a fault
abbrev pub MayBring : List ℕ → List ℕ → Task → List Request → Type 0
MayBring caller body task qs = Brings caller body task qs ⊎ BringsFirst caller body task qs

-- only a whole request of a known caller brings any
abbrev pub BringsBy : (List ℕ → List ℕ → Task → List Request → Type 0) → Parts → Handling → List Request → Type 0
BringsBy of_task p (Fixed why allow) qs = qs ≡ []
BringsBy of_task p (Own caller task) qs = of_task caller p.body task qs

abbrev pub BringsIn : (List ℕ → List ℕ → Task → List Request → Type 0) → Result Parts RefusedHead → List Request → Type 0
BringsIn of_task (Err refused) qs = qs ≡ []
BringsIn of_task (Ok p) qs = BringsBy of_task p (handling_of p) qs

-- the requests that bytes bring
abbrev pub AreBrought : List ℕ → List Request → Type 0
AreBrought bytes qs = (d : Result Parts RefusedHead) × Decides bytes d × BringsIn Brings d qs

-- those of them that stand after a fault, if any
abbrev pub AreFirstBrought : List ℕ → List Request → Type 0
AreFirstBrought bytes qs = (qs ≡ []) ⊎ ((d : Result Parts RefusedHead) × Decides bytes d × BringsIn BringsFirst d qs)

-- what is promised of the requests that bytes bring, and after a fault of those that stand
abbrev pub KeepsPromise : {T : Type 0} → List ℕ → State → Seen → Result T Fault → Type 0
KeepsPromise bytes old new (Ok answer) = (qs : List Request) × AreBrought bytes qs × IsPromised old qs new.state
KeepsPromise bytes old new (Err fault) = new.defects ≡ 0 → (qs : List Request) × AreFirstBrought bytes qs × IsPromised old qs new.state

-- the requests of its bytes that a connection leaves applied, whatever its client does: all, or those that stand after a fault
abbrev pub AreLeft : List ℕ → List Request → Type 0
AreLeft bytes qs = AreBrought bytes qs ⊎ AreFirstBrought bytes qs

-- whatever a crash leaves, the next opening finds the state that some such requests lead to
abbrev pub FindsLed : (Option State → Type 0) → State → (List Request → Type 0) → Type 0
FindsLed leaves s are = (o : Option State) → leaves o → (qs : List Request) × are qs × (o ≡ Some (final s qs))

-- it finds the state that some of the requests of these bytes lead to: all, or those that stand after a fault
abbrev pub FindsLeft : (Option State → Type 0) → State → List ℕ → Type 0
FindsLeft leaves s bytes = FindsLed leaves s (AreLeft bytes)
