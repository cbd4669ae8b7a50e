-- Rows, applied in turn, are a run of their requests.
use Rattle.std.proofs.Common.{◌≡◌, ◌∙◌, ℕ, List, [], ◌∷◌, ◌++◌, append_assoc, map, Option, Some, None, refl, ap, sym}
use Rattle.std.proofs.lemmas.List.{append-nil}
use Rattle.goo_types.specs.declared.request.Request.{Request}
use Rattle.goo_spec.specs.Run.{outcomes, final}
use Rattle.goo_spec.specs.State.{State}
use Rattle.goo_files_csv.specs.Rows.{request_in}
use Rattle.goo_files_import.specs.Import.{Imported, with_row, with_rows, nothing_imported, result_by, state_by, row_result, state_after, requests_with, requests_of}
use Rattle.goo_files_import.specs.Laws.{in_place, results_of, IsARun}
use Rattle.goo_files_import.specs.declared.row_result.RowResult.{RowResult}

by_request : (s : State) (o : Option Request) (qs : List Request) → final (state_by s o) qs ≡ final s (requests_with o qs)
by_request s None qs = refl
by_request s (Some q) qs = refl

after_rows : (caller : List ℕ) (a : Imported) (rows : List (List (List ℕ))) → (with_rows caller a rows).state ≡ final a.state (requests_of caller rows)
unfolding with_rows state_after
after_rows caller a [] = refl
after_rows caller a (row ∷ rows) = after_rows caller (with_row caller a row) rows ∙ by_request a.state (request_in caller row) (requests_of caller rows)

by_result : (s : State) (o : Option Request) (some : List (Option Request)) (qs : List Request) → result_by s o ∷ in_place some (outcomes (state_by s o) qs) ≡ in_place (o ∷ some) (outcomes s (requests_with o qs))
by_result s None some qs = refl
by_result s (Some q) some qs = refl

results_on : (caller : List ℕ) (a : Imported) (rows : List (List (List ℕ))) → (with_rows caller a rows).lines ≡ a.lines ++ results_of a.state caller rows
unfolding with_rows row_result state_after
results_on caller a [] = sym (append-nil a.lines)
results_on caller a (row ∷ rows) =
    let o = request_in caller row in
    let rest = results_of (state_by a.state o) caller rows in
    results_on caller (with_row caller a row) rows
    ∙ append_assoc a.lines (result_by a.state o ∷ []) rest
    ∙ ap (λ (l : List RowResult). a.lines ++ l) (by_result a.state o (map (request_in caller) rows) (requests_of caller rows))

pub a_run : IsARun
a_run s caller rows = record { state = after_rows caller (nothing_imported s) rows; lines_are = results_on caller (nothing_imported s) rows }
