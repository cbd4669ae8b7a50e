-- The requests of a caller's table of declarations, and imports as runs of them.
use Rattle.std.specs.Prelude.{◌≡◌, ◌⊎◌, ℕ, List, [], Option}
use Rattle.goo_types.specs.declared.request.Request.{Request}
use Rattle.goo_spec.specs.Run.{final}
use Rattle.goo_spec.specs.State.{State}
use Rattle.goo_files_import.specs.Import.{requests_of}
use Rattle.goo_files_import.specs.Table.{LacksHeader, AreRows, AreFirstRows}
use Rattle.goo_desk_backend.specs.Backends.{Importing, Beginning}

-- those of all rows, or none where there is no header
abbrev pub AreOfTable : List ℕ → List ℕ → List Request → Type 0
AreOfTable caller input qs = ((rows : List (List (List ℕ))) × AreRows input rows × (qs ≡ requests_of caller rows)) ⊎ (LacksHeader input × (qs ≡ []))

-- those of the first rows, or of all
abbrev pub BeginTable : List ℕ → List ℕ → List Request → Type 0
BeginTable caller input qs = (rows : List (List (List ℕ))) × (AreFirstRows input rows ⊎ AreRows input rows) × (qs ≡ requests_of caller rows)

-- an import is a run of its table's requests, and one that stopped is a run of the first of them
pub record ImportsAreRuns (imports : Importing) (begins : Beginning) : Type 0 where
  pub whole : (s : State) (caller input : List ℕ) (report : Option (List ℕ)) (after : State) → imports s caller input report after → (qs : List Request) × AreOfTable caller input qs × (after ≡ final s qs)
  pub begun : (s : State) (caller input : List ℕ) (after : State) → begins s caller input after → (qs : List Request) × BeginTable caller input qs × (after ≡ final s qs)
