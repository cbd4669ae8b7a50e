-- An import is a run of the requests of its rows; and a table that is sent again whole.
use Rattle.std.specs.Prelude.{◌≡◌, ℕ, List, [], ◌∷◌, ◌++◌, map, Option, Some, None}
use Rattle.goo_types.specs.declared.outcome.Outcome.{Outcome}
use Rattle.goo_types.specs.declared.refusal.Refusal.{Refusal}
use Rattle.goo_types.specs.declared.request.Request.{Request}
use Rattle.goo_spec.specs.Run.{outcomes, final}
use Rattle.goo_spec.specs.State.{State}
use Rattle.goo_spec_again.specs.Whole.{IsAsSentOnce}
use Rattle.goo_files_csv.specs.Rows.{request_in}
use Rattle.goo_files_import.specs.Import.{Imported, importing, requests_of}
use Rattle.goo_files_import.specs.Results.{result_of}
use Rattle.goo_files_import.specs.Table.{IsTable, LacksHeader, AreFirstRows, AreRows}
use Rattle.goo_files_import.specs.declared.row_result.RowResult.{RowResult}
use Rattle.goo_files_import.specs.declared.row_result.RowResult.TheVariants.{Accepted, Repeated, Refused, Unreadable}

-- the results of the requests, and each row that can't be read in its place
abbrev pub in_place : List (Option Request) → List Outcome → List RowResult
in_place [] os = []
in_place (None ∷ rest) os = Unreadable ∷ in_place rest os
in_place (Some q ∷ rest) [] = []
in_place (Some q ∷ rest) (o ∷ os) = result_of o ∷ in_place rest os

abbrev pub results_of : State → List ℕ → List (List (List ℕ)) → List RowResult
results_of s caller rows = in_place (map (request_in caller) rows) (outcomes s (requests_of caller rows))

-- rows came to the state of a run of their requests, and their report to its results
pub record IsRunOf (s : State) (caller : List ℕ) (rows : List (List (List ℕ))) (all : Imported) : Type 0 where
  pub state : all.state ≡ final s (requests_of caller rows)
  pub lines_are : all.lines ≡ results_of s caller rows

-- for every state, every caller and all rows: those of a table, or its first ones
abbrev pub IsARun : Type 0
IsARun = (s : State) (caller : List ℕ) (rows : List (List (List ℕ))) → IsRunOf s caller rows (importing s caller rows)

-- an input has one list of records
abbrev pub OneTable : Type 0
OneTable = (input : List ℕ) (rows others : List (List (List ℕ))) → IsTable input rows → IsTable input others → rows ≡ others

-- an input that lacks its header has no rows
abbrev pub HeaderOrRows : Type 0
HeaderOrRows = (input : List ℕ) (rows : List (List (List ℕ))) → LacksHeader input → AreRows input rows → ⊥

-- ---- a table that is sent again whole

-- the second result of a row: accepted rows are repeated, and refused ones refused, perhaps for another reason
abbrev pub IsAgain : (first second : RowResult) → Type 0
IsAgain Accepted second = second ≡ Repeated
IsAgain Repeated second = second ≡ Repeated
IsAgain (Refused refusal) second = (other : Refusal) × (second ≡ Refused other)
IsAgain Unreadable second = second ≡ Unreadable

-- the lines of a table imported once, and of the same table where the rows of its first part were imported before: these are answered
-- again, and the others alike
abbrev pub AreAgain : (part : List (List (List ℕ))) → (once again : List RowResult) → Type 0
AreAgain [] once again = again ≡ once
AreAgain (row ∷ part) [] again = ⊥
AreAgain (row ∷ part) (first ∷ once) [] = ⊥
AreAgain (row ∷ part) (first ∷ once) (second ∷ again) = IsAgain first second × AreAgain part once again

-- rows that are imported behind a part of them, from the first row on, come to what they come to without it: the same state, each row of
-- the part answered again, and each other row alike. The replies of their requests, too, are those of a list sent once
pub record IsAsImportedOnce (s : State) (caller : List ℕ) (part rest : List (List (List ℕ))) : Type 0 where
  pub state : (importing (importing s caller part).state caller (part ++ rest)).state ≡ (importing s caller (part ++ rest)).state
  pub lines_are : AreAgain part (importing s caller (part ++ rest)).lines (importing (importing s caller part).state caller (part ++ rest)).lines
  pub requests : IsAsSentOnce s (requests_of caller part) (requests_of caller rest)

-- for every state, every caller and all rows
abbrev pub RowsSentAgain : Type 0
RowsSentAgain = (s : State) (caller : List ℕ) (part rest : List (List (List ℕ))) → IsAsImportedOnce s caller part rest

-- the first rows of an input are a part of all its rows, which may be sent again
abbrev pub TableSentAgain : Type 0
TableSentAgain =
    (s : State) (caller input : List ℕ) (part rows : List (List (List ℕ))) → AreFirstRows input part → AreRows input rows
    → (rest : List (List (List ℕ))) × (rows ≡ part ++ rest) × IsAsImportedOnce s caller part rest
