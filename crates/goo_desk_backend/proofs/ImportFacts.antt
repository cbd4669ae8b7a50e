-- What an import comes to, as it is reported.
use Rattle.std.proofs.Common.{◌≡◌, ℕ, List, Option, Some, Result, Ok, Err, IfOk, IfErr, sym, subst, ap, refl, inl, inr}
use Rattle.goo_types.specs.declared.fault.Fault.{Fault}
use Rattle.goo_types.specs.declared.fault.Fault.TheVariants.{Memory}
use Rattle.goo_core_shelf.specs.Shelf.{IsTold}
use Rattle.goo_core_shelf.specs.Desk.{Seen, StaysSure}
use Rattle.goo_files_import.specs.Report.{report_text}
use Rattle.goo_files_import.specs.Import.{importing}
use Rattle.goo_files_import.specs.Runs.{IfKnownBy, ImportsFirst, IsImported, IsReliable, IsToldBy, LeavesDesk, StopsBy}
use Rattle.goo_files_import.specs.Table.{AreFirstRows}
use Rattle.goo_files_import.specs.declared.cause.Cause.{Cause}
use Rattle.goo_files_import.specs.declared.cause.Cause.TheVariants as cause
use Rattle.goo_files_import.specs.declared.cause.ImportFault.{ImportFault}
use Rattle.goo_files_import.specs.declared.report.Report.{Report}
use Rattle.goo_files_import.specs.declared.row_result.RowResult.{RowResult}
use Rattle.goo_spec.specs.State.{State}
use Rattle.goo_desk_backend.specs.Backends.{Imports, report_of}
use Rattle.goo_desk_backend.specs.Results.{stopped_as}
use Rattle.goo_desk_backend.specs.Showing.{imported_by, begun_by}
use Rattle.goo_desk_backend.specs.declared.backend.Imported.{Imported}

-- an import that came to its end
whole : (old new : Seen) (caller input : List ℕ) (leaves : Option State → Type 0) (report : Report) → ImportsFirst caller old new leaves (Ok report) input → IsImported caller input old.state new.state report.lines.items
whole old new caller input leaves report it = record { rows = it.rows; are_rows = it.all; lines_are = it.lines_are; state = it.state }

pub imports-made : (old new : Seen) (caller input : List ℕ) (leaves : Option State → Type 0) (report : Report) (made : Result Imported Fault)
    → IfOk made (λ imported. report_of imported ≡ Some (report_text report.lines.items)) → IfErr made (λ fault. fault ≡ Memory)
    → (IsReliable new → ImportsFirst caller old new leaves (Ok report) input) → LeavesDesk old new (Ok report) → Imports imported_by begun_by old new caller input made
imports-made old new caller input leaves report (Ok imported) text fault first desk = record {
  report = λ honest. subst (λ r. imported_by old.state caller input r new.state) (sym text) (report.lines.items, whole old new caller input leaves report (first (inl honest)), refl);
  sure = λ fine. subst (λ r. imported_by old.state caller input r new.state) (sym text) (report.lines.items, whole old new caller input leaves report (first (inr fine)), refl);
  part = λ fine. tt;
  defects_stay = desk.defects_stay;
  corruptions_stay = desk.corruptions_stay;
  told = desk.told;
  works = desk.works;
  stays = desk.stays;
}
imports-made old new caller input leaves report (Err e) text fault first desk = record {
  report = λ honest. tt;
  sure = λ fine. tt;
  part = λ fine. let it = first (inr fine) in (it.rows, inr it.all, it.state);
  defects_stay = desk.defects_stay;
  corruptions_stay = desk.corruptions_stay;
  told = λ fresh. subst (λ f. IsTold {T = Imported} (Err f) new.refusals) (sym fault) (desk.told fresh);
  works = λ honest none. tt;
  stays = desk.stays;
}

-- the first rows, and what is known of the state after them
abbrev Began : (old new : Seen) (caller input : List ℕ) → Cause → Type 0
Began old new caller input why = (rows : List (List (List ℕ))) × AreFirstRows input rows × IfKnownBy why new (new.state ≡ (importing old.state caller rows).state)

by_cause : (old new : Seen) (caller input : List ℕ) (why : Cause) (lines : List RowResult) → StopsBy input old new lines why → (new.defects ≡ 0 → Began old new caller input why)
    → (new.defects ≡ 0 → old.defects ≡ 0) → (new.corruptions ≡ 0 → old.corruptions ≡ 0) → (old.refusals ≡ 0 → IsToldBy why new.refusals)
    → (new.corruptions ≡ 0 → old.defects ≡ 0 → StaysSure old new) → Imports imported_by begun_by old new caller input (stopped_as why)
by_cause old new caller input cause.Header lines stops part defects_stay corruptions_stay told stays = record {
  report = λ honest. (stops.lacks, ap (λ (m : Seen). m.state) stops.seen);
  sure = λ fine. (stops.lacks, ap (λ (m : Seen). m.state) stops.seen);
  part = λ fine. tt;
  defects_stay = defects_stay;
  corruptions_stay = corruptions_stay;
  told = told;
  works = λ honest none. subst (λ (m : Seen). m.defects ≡ 0) (sym stops.seen) none;
  stays = stays;
}
by_cause old new caller input cause.Read lines stops part defects_stay corruptions_stay told stays = absurd stops
by_cause old new caller input cause.Store lines stops part defects_stay corruptions_stay told stays = record {
  report = λ honest. tt;
  sure = λ fine. tt;
  part = λ fine. let it = part fine in (it.0, inl it.1, it.2 fine);
  defects_stay = defects_stay;
  corruptions_stay = corruptions_stay;
  told = told;
  works = λ honest none. tt;
  stays = stays;
}
by_cause old new caller input cause.Memory lines stops part defects_stay corruptions_stay told stays = record {
  report = λ honest. tt;
  sure = λ fine. tt;
  part = λ fine. let it = part fine in (it.0, inl it.1, it.2 fine);
  defects_stay = defects_stay;
  corruptions_stay = corruptions_stay;
  told = told;
  works = λ honest none. tt;
  stays = stays;
}

-- an import that stopped
pub imports-stopped : (old new : Seen) (caller input : List ℕ) (leaves : Option State → Type 0) (f : ImportFault) → StopsBy input old new f.report.lines.items f.cause → (IsReliable new → ImportsFirst caller old new leaves (Err f) input) → LeavesDesk old new (Err f)
    → Imports imported_by begun_by old new caller input (stopped_as f.cause)
imports-stopped old new caller input leaves f stops first desk =
    by_cause old new caller input f.cause f.report.lines.items stops (λ fine. let it = first (inr fine) in (it.rows, it.are.are_first, it.state)) desk.defects_stay desk.corruptions_stay desk.told desk.stays
