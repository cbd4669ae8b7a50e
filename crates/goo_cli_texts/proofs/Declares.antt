-- An import and its report, by how it ended.
use Rattle.std.proofs.Common.{◌≡◌, ◌∙◌, ℕ, List, [], Bool, true, false, Option, Some, None, Result, Ok, Err, inl, inr, refl, sym, ap, subst}
use Rattle.std.specs.Io.KnownBytes.{Appends}
use Rattle.goo_spec.specs.Checks.{issuer}
use Rattle.goo_spec.specs.State.{State}
use Rattle.goo_core_shelf.specs.Crash.{FindsOnly}
use Rattle.goo_core_shelf.specs.Desk.{Seen}
use Rattle.goo_files_streams.specs.Streams.{AppendsPrefix, IsWhole}
use Rattle.goo_files_import.specs.Import.{importing, with_rows}
use Rattle.goo_files_import.specs.Report.{report_text}
use Rattle.goo_files_import.specs.Runs.{IfKnownBy, ImportsFirst, IsOfReading, RunsRows, StopsBy, TurnsDown}
use Rattle.goo_files_import.specs.declared.cause.Cause.{Cause}
use Rattle.goo_files_import.specs.declared.cause.Cause.TheVariants.{Header, Memory, Read, Store}
use Rattle.goo_files_import.specs.declared.cause.ImportFault.{ImportFault}
use Rattle.goo_files_import.specs.declared.report.Report.{Report}
use Rattle.goo_files_import.specs.declared.row_result.RowResult.{RowResult}
use Rattle.goo_files_import.proofs.PromiseFacts.{rows_promised}
use Rattle.goo_cli_ending.specs.Runs.{HasState, MayFind}
use Rattle.goo_cli_ending.specs.declared.ending.Ending.{Ending}
use Rattle.goo_cli_texts.specs.Declaring.{DeclaresRows, IsUntouched, Sends}
use Rattle.goo_cli_texts.specs.Endings.{all_stand, ending_of_import}

text_as : (had has : Option (List ℕ)) (rows others : List RowResult) → rows ≡ others → AppendsPrefix had has (report_text rows) → AppendsPrefix had has (report_text others)
text_as had has rows others same begun = subst (λ (l : List RowResult). AppendsPrefix had has (report_text l)) same begun

whole_as : (had has : Option (List ℕ)) (rows others : List RowResult) → rows ≡ others → Appends had has (report_text rows) → Appends had has (report_text others)
whole_as had has rows others same whole = subst (λ (l : List RowResult). Appends had has (report_text l)) same whole

module _ (old new : Seen) (had has : Option (List ℕ)) (leaves : Option State → Type 0) (before after : Option (List ℕ)) (settled : new.defects ≡ 0 → FindsOnly leaves new.state) where
  abbrev Declared : Ending → Type 0
  Declared told = DeclaresRows told old.state had has (HasState told new) (MayFind old leaves) before after

  -- an import that came to its end
  came : (report : Report) (input : List ℕ) (all out : Bool) → all ≡ all_stand report.lines.items → IsWhole before after 16777216 input → ImportsFirst issuer old new leaves (Ok report) input
      → (out ≡ true → Appends had has (report_text report.lines.items)) → AppendsPrefix had has (report_text report.lines.items) → Declared (ending_of_import None all out)
  came report input all false same read it whole begun = record {
    input = input;
    given = read.given;
    rows = it.rows;
    upto = it.upto;
    are = inl (read, it.are, it.all);
    tells = tt;
    written = text_as had has _ _ it.lines_are begun;
    holds = it.state;
    promised = it.promised;
    found = it.found;
  }
  came report input true true same read it whole begun = record {
    input = input;
    given = read.given;
    rows = it.rows;
    upto = it.upto;
    are = inl (read, it.are, it.all);
    tells = ap all_stand (sym it.lines_are) ∙ sym same;
    written = whole_as had has _ _ it.lines_are (whole refl);
    holds = it.state;
    promised = it.promised;
    found = it.found;
  }
  came report input false true same read it whole begun = record {
    input = input;
    given = read.given;
    rows = it.rows;
    upto = it.upto;
    are = inl (read, it.are, it.all);
    tells = ap all_stand (sym it.lines_are) ∙ sym same;
    written = whole_as had has _ _ it.lines_are (whole refl);
    holds = it.state;
    promised = it.promised;
    found = it.found;
  }

  -- one that a fault stopped
  stopped : (cause : Cause) (fault : ImportFault) (input : List ℕ) (all out : Bool) → fault.cause ≡ cause → IsWhole before after 16777216 input → StopsBy input old new fault.report.lines.items cause → ImportsFirst issuer old new leaves (Err fault) input
      → AppendsPrefix had has (report_text fault.report.lines.items) → Declared (ending_of_import (Some cause) all out)
  unfolding with_rows
  stopped Header fault input all out is read stops it begun = record {
    input = input;
    given = read.given;
    rows = [];
    upto = [];
    are = inl (read, record { are_first = inl refl; next = inl refl }, (stops.lacks, refl, refl));
    tells = tt;
    written = text_as had has _ _ stops.none begun;
    holds = ap (λ (m : Seen). m.state) stops.seen;
    promised = rows_promised old.state issuer [];
    found = λ sure o may. inl (settled (ap (λ (m : Seen). m.defects) stops.seen ∙ sure) o may ∙ ap (λ (m : Seen). Some m.state) stops.seen);
  }
  stopped Read fault input all out is read stops it begun = absurd stops
  stopped Store fault input all out is read stops it begun = record {
    input = input;
    given = read.given;
    rows = it.rows;
    upto = it.upto;
    are = inl (read, it.are, tt);
    tells = tt;
    written = text_as had has _ _ it.lines_are begun;
    holds = subst (λ c. IfKnownBy c new (new.state ≡ (importing old.state issuer it.rows).state)) is it.state;
    promised = it.promised;
    found = it.found;
  }
  stopped Memory fault input all out is read stops it begun = record {
    input = input;
    given = read.given;
    rows = it.rows;
    upto = it.upto;
    are = inl (read, it.are, tt);
    tells = tt;
    written = text_as had has _ _ it.lines_are begun;
    holds = subst (λ c. IfKnownBy c new (new.state ≡ (importing old.state issuer it.rows).state)) is it.state;
    promised = it.promised;
    found = it.found;
  }

  -- one whose input was turned down
  down : (result : Result Report ImportFault) (cause : Cause) (fault : ImportFault) (all out : Bool) → TurnsDown issuer old new leaves result before after 16777216 → IsOfReading cause → fault.report.lines.items ≡ [] → AppendsPrefix had has (report_text fault.report.lines.items)
      → Declared (ending_of_import (Some cause) all out)
  unfolding with_rows
  down result Read fault all out it why none begun = record {
    input = it.begun;
    given = it.given;
    rows = [];
    upto = [];
    are = inr (tt, refl, refl);
    tells = tt;
    written = text_as had has _ _ none begun;
    holds = ap (λ (m : Seen). m.state) it.seen;
    promised = rows_promised old.state issuer [];
    found = λ sure o may. inl (settled (ap (λ (m : Seen). m.defects) it.seen ∙ sure) o may ∙ ap (λ (m : Seen). Some m.state) it.seen);
  }
  down result Memory fault all out it why none begun = record {
    input = it.begun;
    given = it.given;
    rows = [];
    upto = [];
    are = inr (tt, refl, refl);
    tells = tt;
    written = text_as had has _ _ none begun;
    holds = λ _. ap (λ (m : Seen). m.state) it.seen;
    promised = rows_promised old.state issuer [];
    found = λ sure o may. inl (settled (ap (λ (m : Seen). m.defects) it.seen ∙ sure) o may ∙ ap (λ (m : Seen). Some m.state) it.seen);
  }
  down result Header fault all out it why none begun = absurd why
  down result Store fault all out it why none begun = absurd why

  on_report : (report : Report) → RunsRows issuer old new leaves (Ok report) before after 16777216 → new.corruptions ≡ 0 → (told : Ending) → Sends None report.lines.items had has told → Declared told
  on_report report (inl it) honest told sent =
      subst (λ e. Declared e) (sym sent.tells) (came report it.input (all_stand report.lines.items) sent.out refl it.read (it.imports (inl honest)) sent.whole sent.begun)
  on_report report (inr it) honest told sent = absurd it.down

  on_fault : (fault : ImportFault) → RunsRows issuer old new leaves (Err fault) before after 16777216 → new.corruptions ≡ 0 → (told : Ending) → Sends (Some fault.cause) fault.report.lines.items had has told → Declared told
  on_fault fault (inl it) honest told sent =
      subst (λ e. Declared e) (sym sent.tells) (stopped fault.cause fault it.input (all_stand fault.report.lines.items) sent.out refl it.read it.stops (it.imports (inl honest)) sent.begun)
  on_fault fault (inr it) honest told sent =
      subst (λ e. Declared e) (sym sent.tells) (down (Err fault) fault.cause fault (all_stand fault.report.lines.items) sent.out it it.down.cause it.down.none sent.begun)

-- as the issuing body's
pub declares_report : (caller : List ℕ) → caller ≡ issuer → (old new : Seen) (had has : Option (List ℕ)) (leaves : Option State → Type 0) (before after : Option (List ℕ)) → (new.defects ≡ 0 → FindsOnly leaves new.state) → (report : Report)
    → RunsRows caller old new leaves (Ok report) before after 16777216 → new.corruptions ≡ 0 → (told : Ending) → Sends None report.lines.items had has told → DeclaresRows told old.state had has (HasState told new) (MayFind old leaves) before after
declares_report caller same old new had has leaves before after settled report runs honest told sent =
    on_report old new had has leaves before after settled report (subst (λ (c : List ℕ). RunsRows c old new leaves (Ok report) before after 16777216) same runs) honest told sent

pub declares_fault : (caller : List ℕ) → caller ≡ issuer → (old new : Seen) (had has : Option (List ℕ)) (leaves : Option State → Type 0) (before after : Option (List ℕ)) → (new.defects ≡ 0 → FindsOnly leaves new.state) → (fault : ImportFault)
    → RunsRows caller old new leaves (Err fault) before after 16777216 → new.corruptions ≡ 0 → (told : Ending) → Sends (Some fault.cause) fault.report.lines.items had has told → DeclaresRows told old.state had has (HasState told new) (MayFind old leaves) before after
declares_fault caller same old new had has leaves before after settled fault runs honest told sent =
    on_fault old new had has leaves before after settled fault (subst (λ (c : List ℕ). RunsRows c old new leaves (Err fault) before after 16777216) same runs) honest told sent

module _ (old new : Seen) where
  none_untouched : (all out : Bool) → IsUntouched (ending_of_import None all out) old new
  none_untouched all false = tt
  none_untouched true true = tt
  none_untouched false true = tt

  stop_untouched : (cause : Cause) (input : List ℕ) (lines : List RowResult) (all out : Bool) → StopsBy input old new lines cause → IsUntouched (ending_of_import (Some cause) all out) old new
  stop_untouched Header input lines all out stops = stops.seen
  stop_untouched Read input lines all out stops = absurd stops
  stop_untouched Store input lines all out stops = tt
  stop_untouched Memory input lines all out stops = tt

  down_untouched : (cause : Cause) (all out : Bool) → new ≡ old → IsOfReading cause → IsUntouched (ending_of_import (Some cause) all out) old new
  down_untouched Read all out same why = same
  down_untouched Memory all out same why = tt
  down_untouched Header all out same why = absurd why
  down_untouched Store all out same why = absurd why

  pub report_untouched : (had has : Option (List ℕ)) (report : Report) (told : Ending) → Sends None report.lines.items had has told → IsUntouched told old new
  report_untouched had has report told sent = subst (λ e. IsUntouched e old new) (sym sent.tells) (none_untouched (all_stand report.lines.items) sent.out)

  pub fault_untouched : (caller : List ℕ) (leaves : Option State → Type 0) (before after had has : Option (List ℕ)) (fault : ImportFault) → RunsRows caller old new leaves (Err fault) before after 16777216 → (told : Ending)
      → Sends (Some fault.cause) fault.report.lines.items had has told → IsUntouched told old new
  fault_untouched caller leaves before after had has fault (inl it) told sent =
      subst (λ e. IsUntouched e old new) (sym sent.tells) (stop_untouched fault.cause it.input fault.report.lines.items (all_stand fault.report.lines.items) sent.out it.stops)
  fault_untouched caller leaves before after had has fault (inr it) told sent =
      subst (λ e. IsUntouched e old new) (sym sent.tells) (down_untouched fault.cause (all_stand fault.report.lines.items) sent.out it.seen it.down.cause)
