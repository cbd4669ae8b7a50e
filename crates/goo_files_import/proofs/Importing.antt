-- Rows imported in turn.
use Rattle.std.proofs.Common.{◌≡◌, ◌∙◌, ℕ, List, [], ◌∷◌, ◌++◌, Option, Result, Ok, OnOk, refl, ap, sym, subst, arith, inl, inr}
use Rattle.goo_types.specs.declared.fault.Fault.{Fault}
use Rattle.goo_spec.specs.State.{State}
use Rattle.goo_core_shelf.specs.Desk.{Seen, StaysSure}
use Rattle.goo_files_import.specs.Import.{Imported, with_row, with_rows, importing, nothing_imported, row_result, state_after}
use Rattle.goo_files_import.specs.Runs.{ImportsRow, IsReliable}
use Rattle.goo_files_import.specs.declared.row_result.RowResult.{RowResult}

abbrev pub Fields : Type 0
Fields = List (List ℕ)

pub with-last : (caller : List ℕ) (a : Imported) (rows : List Fields) (row : Fields) → with_rows caller a (rows ++ row ∷ []) ≡ with_row caller (with_rows caller a rows) row
unfolding with_rows
with-last caller a [] row = refl
with-last caller a (first ∷ rows) row = with-last caller (with_row caller a first) rows row

-- the state and the lines after these rows
pub record AreImported (old new : State) (caller : List ℕ) (done : List Fields) (lines : List RowResult) : Type 0 where
  pub lines_are : lines ≡ (importing old caller done).lines
  pub state : new ≡ (importing old caller done).state

pub imported_none : (s : State) (caller : List ℕ) → AreImported s s caller [] []
unfolding with_rows
imported_none s caller = record { lines_are = refl; state = refl }

-- one more row
imported_more : (old mid new : State) (caller : List ℕ) (done : List Fields) (lines more : List RowResult) (row : Fields) → AreImported old mid caller done lines
    → more ≡ lines ++ row_result mid caller row ∷ [] → new ≡ state_after mid caller row → AreImported old new caller (done ++ row ∷ []) more
imported_more old mid new caller done lines more row so added state =
    let last : importing old caller (done ++ row ∷ []) ≡ with_row caller (importing old caller done) row = with-last caller (nothing_imported old) done row in
    record {
      lines_are = added ∙ (λ i. so.lines_are i ++ row_result (so.state i) caller row ∷ []) ∙ ap (λ (a : Imported). a.lines) (sym last);
      state = state ∙ ap (λ (s : State). state_after s caller row) so.state ∙ ap (λ (a : Imported). a.state) (sym last);
    }

-- nothing was called
pub stays_still : (m : Seen) → m.defects ≡ 0 → StaysSure m m
stays_still m none = record { counts = omega arith; sure = λ _. none }

-- one call after another
pub stays_both : (a b c : Seen) → StaysSure a b → StaysSure b c → StaysSure a c
stays_both a b c one two = record {
  counts = omega (arith, one.counts, two.counts);
  sure = λ unfailed. two.sure (λ failed. unfailed (omega (arith, one.counts, failed)));
}

-- these rows were applied, and no others
pub record IsImporting (old mid : Seen) (caller : List ℕ) (done : List Fields) (lines : List RowResult) : Type 0 where
  pub corruptions_stay : mid.corruptions ≡ 0 → old.corruptions ≡ 0
  pub defects_stay : mid.defects ≡ 0 → old.defects ≡ 0
  pub told : old.refusals ≡ 0 → mid.refusals ≡ 0
  pub are : IsReliable mid → AreImported old.state mid.state caller done lines
  pub works : mid.corruptions ≡ 0 → old.defects ≡ 0 → mid.defects ≡ 0
  pub stays : mid.corruptions ≡ 0 → old.defects ≡ 0 → StaysSure old mid

pub importing_start : (m : Seen) (caller : List ℕ) → IsImporting m m caller [] []
importing_start m caller = record {
  corruptions_stay = λ none. none;
  defects_stay = λ none. none;
  told = λ none. none;
  are = λ reliable. imported_none m.state caller;
  works = λ none sure. sure;
  stays = λ none sure. stays_still m sure;
}

pub reliable_before : (mid new : Seen) → (new.corruptions ≡ 0 → mid.corruptions ≡ 0) → (new.defects ≡ 0 → mid.defects ≡ 0) → IsReliable new → IsReliable mid
reliable_before mid new corruptions_stay defects_stay (inl honest) = inl (corruptions_stay honest)
reliable_before mid new corruptions_stay defects_stay (inr sure) = inr (defects_stay sure)

-- one more row
pub importing_on : (old mid new : Seen) (caller : List ℕ) (done : List Fields) (lines more : List RowResult) (row : Fields) (leaves : Option State → Type 0) (result : Result (Unit {0}) Fault) → IsImporting old mid caller done lines
    → ImportsRow caller row mid new leaves result (λ told. OnOk result (more ≡ lines ++ told ∷ [])) → result ≡ Ok tt → IsImporting old new caller (done ++ row ∷ []) more
importing_on old mid new caller done lines more row leaves result so did ok =
    let here = subst (λ (r : Result (Unit {0}) Fault). ImportsRow caller row mid new leaves r (λ told. OnOk r (more ≡ lines ++ told ∷ []))) ok did in
    record {
      corruptions_stay = λ none. so.corruptions_stay (here.corruptions_stay none);
      defects_stay = λ none. so.defects_stay (here.defects_stay none);
      told = λ none. here.told (so.told none);
      are = λ reliable. imported_more old.state mid.state new.state caller done lines more row (so.are (reliable_before mid new here.corruptions_stay here.defects_stay reliable)) (here.line reliable) (here.state reliable);
      works = λ none sure. here.works none (so.works (here.corruptions_stay none) sure);
      stays = λ none sure. stays_both old mid new (so.stays (here.corruptions_stay none) sure) (here.stays none (so.works (here.corruptions_stay none) sure));
    }

pub works_so : (old mid : Seen) (caller : List ℕ) (done : List Fields) (lines : List RowResult) → IsImporting old mid caller done lines → IsReliable mid → old.defects ≡ 0 → mid.defects ≡ 0
works_so old mid caller done lines so (inl honest) none = so.works honest none
works_so old mid caller done lines so (inr sure) none = sure
