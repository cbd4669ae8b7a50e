-- What the rows of an import come to, one after another.
use Rattle.std.specs.Prelude.{ℕ, List, [], ◌∷◌, ◌++◌, Option, Some, None}
use Rattle.goo_types.specs.declared.request.Request.{Request}
use Rattle.goo_spec.specs.State.{State}
use Rattle.goo_spec.specs.Step.{outcome, next}
use Rattle.goo_files_csv.specs.Rows.{request_in}
use Rattle.goo_files_import.specs.Results.{result_of}
use Rattle.goo_files_import.specs.declared.row_result.RowResult.{RowResult}
use Rattle.goo_files_import.specs.declared.row_result.RowResult.TheVariants.{Unreadable}

-- a readable row is one request; any other changes nothing
abbrev pub result_by : State → Option Request → RowResult
result_by s None = Unreadable
result_by s (Some q) = result_of (outcome s q)

abbrev pub state_by : State → Option Request → State
state_by s None = s
state_by s (Some q) = next s q

-- what a row comes to, and the state that it leaves
unfoldable pub row_result : State → List ℕ → List (List ℕ) → RowResult
row_result s caller fields = result_by s (request_in caller fields)

unfoldable pub state_after : State → List ℕ → List (List ℕ) → State
state_after s caller fields = state_by s (request_in caller fields)

-- the lines of the report, and the state
pub record Imported : Type 0 where
  pub lines : List RowResult
  pub state : State

abbrev pub nothing_imported : State → Imported
nothing_imported s = record { lines = []; state = s }

abbrev pub with_row : List ℕ → Imported → List (List ℕ) → Imported
with_row caller a fields = record { lines = a.lines ++ row_result a.state caller fields ∷ []; state = state_after a.state caller fields }

unfoldable pub with_rows : List ℕ → Imported → List (List (List ℕ)) → Imported
with_rows caller a [] = a
with_rows caller a (row ∷ rows) = with_rows caller (with_row caller a row) rows

-- these rows in turn, as the caller's
abbrev pub importing : State → List ℕ → List (List (List ℕ)) → Imported
importing s caller rows = with_rows caller (nothing_imported s) rows

-- the requests of the readable rows
abbrev pub requests_with : Option Request → List Request → List Request
requests_with None qs = qs
requests_with (Some q) qs = q ∷ qs

abbrev pub requests_of : List ℕ → List (List (List ℕ)) → List Request
requests_of caller [] = []
requests_of caller (row ∷ rows) = requests_with (request_in caller row) (requests_of caller rows)
