-- What an import comes to, by the way that it ended.
use Rattle.std.proofs.Common.{◌≡◌, ◌∙◌, ℕ, List, [], ◌∷◌, ◌++◌, Option, Ok, Err, inl, inr, refl, sym, ap, subst}
use Rattle.goo_types.specs.declared.fault.Fault.{Fault}
use Rattle.goo_types.specs.declared.fault.Fault.TheVariants as fault
use Rattle.goo_spec.specs.State.{State}
use Rattle.goo_core_shelf.specs.Crash.{FindsOnly, FindsEither}
use Rattle.goo_core_shelf.specs.Shelf.{IsTold}
use Rattle.goo_core_shelf.specs.Desk.{Seen}
use Rattle.goo_files_csv.specs.Rows.{header}
use Rattle.goo_files_streams.specs.Streams.{IsBroken}
use Rattle.goo_files_streams.specs.declared.InputFault.{InputFault}
use Rattle.goo_files_import.specs.Import.{Imported, importing, nothing_imported, state_after, with_row, with_rows}
use Rattle.goo_files_import.specs.Results.{cause_of}
use Rattle.goo_files_import.specs.Runs.{IfKnownBy, ImportsFirst, ImportsRow, IsOfReading, IsReliable, IsToldBy, LeavesDesk, RunsRows, StopsBy}
use Rattle.goo_files_import.specs.Table.{AreFirstRows, AreRows, BeginsTable, LacksHeader}
use Rattle.goo_files_import.specs.declared.cause.Cause.{Cause}
use Rattle.goo_files_import.specs.declared.cause.Cause.TheVariants.{Header, Read, Store, Memory}
use Rattle.goo_files_import.specs.declared.cause.ImportFault.{ImportFault}
use Rattle.goo_files_import.specs.declared.report.Report.{Report}
use Rattle.goo_files_import.specs.declared.row_result.RowResult.{RowResult}
use Rattle.goo_files_import.proofs.Importing.{Fields, IsImporting, reliable_before, stays_both, stays_still, with-last, works_so}
use Rattle.goo_files_import.proofs.PromiseFacts.{rows_promised}

known : (cause : Cause) (new : Seen) (P : Type 0) → P → IfKnownBy cause new P
known Header new P p = p
known Read new P p = p
known Store new P p = λ sure. p
known Memory new P p = λ sure. p

known_so : (cause : Cause) (of : Fault) (new : Seen) (P : Type 0) → cause ≡ cause_of of → (new.defects ≡ 0 → P) → IfKnownBy cause new P
known_so cause fault.Store new P is so = subst (λ (c : Cause). IfKnownBy c new P) (sym is) so
known_so cause fault.Memory new P is so = subst (λ (c : Cause). IfKnownBy c new P) (sym is) so

module _ (caller input : List ℕ) (leaves : Option State → Type 0) where
  -- none was applied
  pub imports_none : (m : Seen) (f : ImportFault) → f.report.lines.items ≡ [] → (m.defects ≡ 0 → FindsOnly leaves m.state) → ImportsFirst caller m m leaves (Err f) input
  unfolding with_rows
  imports_none m f none settled = record {
    rows = [];
    upto = [];
    are = record { are_first = inl refl; next = inl refl };
    all = tt;
    lines_are = none;
    state = known f.cause m _ refl;
    promised = rows_promised m.state caller [];
    found = λ sure o may. inl (settled sure o may);
  }

  -- these rows were applied, and no other was begun
  pub imports_these : (old new : Seen) (done : List Fields) (lines : List RowResult) (f : ImportFault) → IsImporting old new caller done lines → IsReliable new → AreFirstRows input done → f.report.lines.items ≡ lines → (new.defects ≡ 0 → FindsOnly leaves new.state)
      → ImportsFirst caller old new leaves (Err f) input
  imports_these old new done lines f so reliable first same settled =
      let are = so.are reliable in
      record {
        rows = done;
        upto = done;
        are = record { are_first = first; next = inl refl };
        all = tt;
        lines_are = same ∙ are.lines_are;
        state = known f.cause new _ are.state;
        promised = rows_promised old.state caller done;
        found = λ sure o may. inl (subst (FindsOnly leaves) are.state (settled (works_so old new caller done lines so reliable sure)) o may);
      }

  -- all rows were
  pub imports_all : (old new : Seen) (done : List Fields) (report : Report) → IsImporting old new caller done report.lines.items → IsReliable new → AreFirstRows input done → AreRows input done → (new.defects ≡ 0 → FindsOnly leaves new.state)
      → ImportsFirst caller old new leaves (Ok report) input
  imports_all old new done report so reliable first rows settled =
      let are = so.are reliable in
      record {
        rows = done;
        upto = done;
        are = record { are_first = first; next = inl refl };
        all = rows;
        lines_are = are.lines_are;
        state = are.state;
        promised = rows_promised old.state caller done;
        found = λ sure o may. inl (subst (FindsOnly leaves) are.state (settled (works_so old new caller done report.lines.items so reliable sure)) o may);
      }

  either_found : (mid new : Seen) (t : State) → IsReliable new → (new.defects ≡ 0 → new.state ≡ mid.state) → (new.corruptions ≡ 0 → mid.defects ≡ 0 → FindsEither leaves mid.state t) → (new.defects ≡ 0 → FindsOnly leaves new.state) → mid.defects ≡ 0 → FindsEither leaves mid.state t
  either_found mid new t (inl honest) same crash settled none = crash honest none
  either_found mid new t (inr sure) same crash settled none = λ o may. inl (subst (FindsOnly leaves) (same sure) (settled sure) o may)

  -- a fault came at the next one
  pub imports_next : (Tells : RowResult → Type 0) (old mid new : Seen) (done : List Fields) (lines : List RowResult) (row : Fields) (of : Fault) (f : ImportFault) → IsImporting old mid caller done lines → IsReliable new
      → ImportsRow {T = Unit {0}} caller row mid new leaves (Err of) Tells
      → AreFirstRows input done → BeginsTable input (header ∷ (done ++ row ∷ [])) → f.report.lines.items ≡ lines → f.cause ≡ cause_of of
      → (new.defects ≡ 0 → FindsOnly leaves new.state) → ImportsFirst caller old new leaves (Err f) input
  imports_next Tells old mid new done lines row of f so reliable did first more same why settled =
      let before = reliable_before mid new did.corruptions_stay did.defects_stay reliable in
      let are = so.are before in
      let last : importing old.state caller (done ++ row ∷ []) ≡ with_row caller (importing old.state caller done) row = with-last caller (nothing_imported old.state) done row in
      let leaves_it : state_after mid.state caller row ≡ (importing old.state caller (done ++ row ∷ [])).state = ap (λ (s : State). state_after s caller row) are.state ∙ ap (λ (a : Imported). a.state) (sym last) in
      record {
        rows = done;
        upto = done ++ row ∷ [];
        are = record { are_first = first; next = inr (row, refl, inr more) };
        all = tt;
        lines_are = same ∙ are.lines_are;
        state = known_so f.cause of new _ why (λ sure. did.unchanged sure ∙ are.state);
        promised = rows_promised old.state caller done;
        found = λ sure. subst (λ u. FindsEither leaves u (importing old.state caller (done ++ row ∷ [])).state) are.state
            (subst (FindsEither leaves mid.state) leaves_it (either_found mid new (state_after mid.state caller row) reliable did.unchanged did.crash settled (works_so old mid caller done lines so before sure)));
      }

-- why it stopped
pub stops_headless : (input : List ℕ) (m : Seen) (lines : List RowResult) (cause : Cause) → cause ≡ Header → LacksHeader input → lines ≡ [] → StopsBy input m m lines cause
stops_headless input m lines cause is lacks none = subst (λ (c : Cause). StopsBy input m m lines c) (sym is) (record { lacks = lacks; seen = refl; none = none })

pub stops_memory : (input : List ℕ) (old new : Seen) (lines : List RowResult) (cause : Cause) → cause ≡ Memory → StopsBy input old new lines cause
stops_memory input old new lines cause is = subst (λ (c : Cause). StopsBy input old new lines c) (sym is) tt

pub stops_row : (input : List ℕ) (old new : Seen) (lines : List RowResult) (cause : Cause) (of : Fault) → cause ≡ cause_of of → ¬ LacksHeader input → StopsBy input old new lines cause
stops_row input old new lines cause fault.Store is has = subst (λ (c : Cause). StopsBy input old new lines c) (sym is) has
stops_row input old new lines cause fault.Memory is has = subst (λ (c : Cause). StopsBy input old new lines c) (sym is) tt

-- what became of the desk where no call was made, or after some rows
not_store : (cause : Cause) (refusals : ℕ) → (cause ≡ Store → ⊥) → refusals ≡ 0 → IsToldBy cause refusals
not_store Header refusals other none = none
not_store Read refusals other none = none
not_store Memory refusals other none = none
not_store Store refusals other none = absurd (other refl)

pub desk_still : (m : Seen) (f : ImportFault) → (f.cause ≡ Store → ⊥) → LeavesDesk m m (Err f)
desk_still m f other = record { corruptions_stay = λ none. none; defects_stay = λ none. none; told = λ none. not_store f.cause m.refusals other none; works = λ _ _. tt; stays = λ honest none. stays_still m none }

pub desk_rows : (old new : Seen) (caller : List ℕ) (done : List Fields) (lines : List RowResult) (f : ImportFault) → IsImporting old new caller done lines → (f.cause ≡ Store → ⊥) → LeavesDesk old new (Err f)
desk_rows old new caller done lines f so other = record { corruptions_stay = so.corruptions_stay; defects_stay = so.defects_stay; told = λ none. not_store f.cause new.refusals other (so.told none); works = λ _ _. tt; stays = so.stays }

pub desk_all : (old new : Seen) (caller : List ℕ) (done : List Fields) (report : Report) → IsImporting old new caller done report.lines.items → LeavesDesk old new (Ok report)
desk_all old new caller done report so = record { corruptions_stay = so.corruptions_stay; defects_stay = so.defects_stay; told = so.told; works = so.works; stays = so.stays }

told_row : (T : Type 0) (of : Fault) (cause : Cause) (refusals : ℕ) → cause ≡ cause_of of → IsTold {T = T} (Err of) refusals → IsToldBy cause refusals
told_row T fault.Store cause refusals is told = subst (λ (c : Cause). IsToldBy c refusals) (sym is) told
told_row T fault.Memory cause refusals is told = subst (λ (c : Cause). IsToldBy c refusals) (sym is) told

-- and where a row's request failed
pub desk_next : (Tells : RowResult → Type 0) (leaves : Option State → Type 0) (old mid new : Seen) (caller : List ℕ) (done : List Fields) (lines : List RowResult) (row : Fields) (of : Fault) (f : ImportFault) → IsImporting old mid caller done lines → f.cause ≡ cause_of of
    → ImportsRow {T = Unit {0}} caller row mid new leaves (Err of) Tells → LeavesDesk old new (Err f)
desk_next Tells leaves old mid new caller done lines row of f so why did = record {
  corruptions_stay = λ none. so.corruptions_stay (did.corruptions_stay none);
  defects_stay = λ none. so.defects_stay (did.defects_stay none);
  told = λ none. told_row (Unit {0}) of f.cause new.refusals why (did.told (so.told none));
  works = λ _ _. tt;
  stays = λ honest none. let before = did.corruptions_stay honest in stays_both old mid new (so.stays before none) (did.stays honest (so.works before none));
}

-- the input was turned down
pub turned_down : (caller : List ℕ) (m : Seen) (leaves : Option State → Type 0) (before after : Option (List ℕ)) (limit : ℕ) (of : InputFault) (f : ImportFault) → IsBroken before after limit of → IsOfReading f.cause → f.report.lines.items ≡ []
    → RunsRows caller m m leaves (Err f) before after limit
turned_down caller m leaves before after limit of f broken why none = inr (record { begun = broken.begun; given = broken.given; seen = refl; down = record { cause = why; none = none } })
