-- What a backend's calls say.
use Rattle.std.specs.Prelude.{◌≡◌, ℕ, List, Option, Some, None, Result, Ok, Err, IfOk, OnOk, OnErr}
use Rattle.goo_types.specs.declared.fault.Fault.{Fault}
use Rattle.goo_core_shelf.specs.Shelf.{IsTold}
use Rattle.goo_spec.specs.State.{State}
use Rattle.goo_core_shelf.specs.Desk.{Seen, StaysSure}
use Rattle.goo_desk_routes.specs.declared.task.Subject.{Subject}
use Rattle.goo_core_reads.specs.declared.denial.Denial.{Denial}
use Rattle.goo_desk_backend.specs.declared.backend.Shown.{Shown}
use Rattle.goo_desk_backend.specs.declared.backend.Shown.TheVariants as shown
use Rattle.goo_desk_backend.specs.declared.backend.Imported.{Imported}
use Rattle.goo_desk_backend.specs.declared.backend.Imported.TheVariants as imported

abbrev pub Showing : Type 1
Showing = State → List ℕ → Subject → Result (List ℕ) Denial → Type 0

abbrev pub Importing : Type 1
Importing = State → List ℕ → List ℕ → Option (List ℕ) → State → Type 0

abbrev pub Beginning : Type 1
Beginning = State → List ℕ → List ℕ → State → Type 0

abbrev pub text_shown : Shown → Result (List ℕ) Denial
text_shown (shown.Text text) = Ok text.items
text_shown (shown.Denied denial) = Err denial

abbrev pub report_of : Imported → Option (List ℕ)
report_of (imported.Report report) = Some report.items
report_of imported.NoHeader = None

-- what is shown is right, and nothing changes; no defect and no corruption is forgotten, and only a failed call brings a defect
pub record Shows (shows : Showing) (old new : Seen) (caller : List ℕ) (subject : Subject) (result : Result Shown Fault) : Type 0 where
  pub text : new.defects ≡ 0 → IfOk result (λ given. shows old.state caller subject (text_shown given))
  pub same : new.defects ≡ 0 → new.state ≡ old.state
  pub works : OnOk result (new.corruptions ≡ 0 → new.defects ≡ 0)
  pub defects_stay : new.defects ≡ 0 → old.defects ≡ 0
  pub corruptions_stay : new.corruptions ≡ 0 → old.corruptions ≡ 0
  pub told : IsTold result new.refusals
  pub stays : new.corruptions ≡ 0 → old.defects ≡ 0 → StaysSure old new

-- The report and the state are right, where nothing was corrupted and while there is no defect; after a fault the first rows stand. Only a
-- failed call brings a defect.
pub record Imports (imports : Importing) (begins : Beginning) (old new : Seen) (caller rows : List ℕ) (result : Result Imported Fault) : Type 0 where
  pub report : new.corruptions ≡ 0 → IfOk result (λ given. imports old.state caller rows (report_of given) new.state)
  pub sure : new.defects ≡ 0 → IfOk result (λ given. imports old.state caller rows (report_of given) new.state)
  pub part : new.defects ≡ 0 → OnErr result (begins old.state caller rows new.state)
  pub defects_stay : new.defects ≡ 0 → old.defects ≡ 0
  pub corruptions_stay : new.corruptions ≡ 0 → old.corruptions ≡ 0
  pub told : old.refusals ≡ 0 → IsTold result new.refusals
  pub works : new.corruptions ≡ 0 → old.defects ≡ 0 → OnOk result (new.defects ≡ 0)
  pub stays : new.corruptions ≡ 0 → old.defects ≡ 0 → StaysSure old new

-- a subject is shown in one way
abbrev pub ShowsOne : Showing → Type 0
ShowsOne shows = (s : State) (caller : List ℕ) (subject : Subject) (x y : Result (List ℕ) Denial) → shows s caller subject x → shows s caller subject y → x ≡ y

-- an import comes to one report and one state
abbrev pub ImportsOne : Importing → Type 0
ImportsOne imports = (s : State) (caller rows : List ℕ) (x y : Option (List ℕ)) (after next : State) → imports s caller rows x after → imports s caller rows y next → (x ≡ y) × (after ≡ next)
