-- What the statements on `correction` do and show.
use Rattle.std.proofs.Common.{◌≡◌, reverse, slice_get, ◌<◌, ◌^◌, None, ℕ, pos, List, [], ◌∷◌, map, codes, Option, option_map, Result, OnOk, refl, ◌∙◌, map-id}
use Rattle.std.specs.List.{AllZip}
use Rattle.sqlite_tied.specs.Compute.{everything}
use Rattle.sqlite.specs.declared.types.Value.TheVariants.{Null}
use Rattle.sqlite.specs.declared.error.Error.{Error}
use Rattle.sqlite.specs.Order.{Row}
use Rattle.sqlite.specs.Term.{Term, lit, col}
use Rattle.sqlite.specs.Query.{Query, IsAnswer}
use Rattle.sqlite.specs.Program.{overlay}
use Rattle.sqlite.specs.Listing.{understood}
use Rattle.sqlite.specs.State.{State, IsLive, Executes}
use Rattle.sqlite_typed.proofs.TestLemmas.{then_value}
use Rattle.goo_tables_rows.specs.Columns.{correction}
use Rattle.goo_tables_rows.specs.Rows.{Tables, Correction, correction_in, correction_columns, correction_row, correction_key}
use Rattle.goo_tables_rows.specs.declared.correction.CorrectionRow.{CorrectionRow}
use Rattle.goo_tables_rows.specs.Reads.{correction_reads}
use Rattle.goo_tables_rows.specs.Stands.{Stands, Keeps}
use Rattle.goo_tables_rows.specs.Asked.{FirstZip}
use Rattle.goo_tables_rows.proofs.Typed.{cast_int, cast_null}
use Rattle.goo_tables_rows.proofs.Alone.{corrections_stand}
use Rattle.goo_tables_rows.proofs.Living.{KeepsLive, keeps_live}
use Rattle.goo_tables_rows.proofs.Same.{correction_same}
use Rattle.goo_tables_accounts.specs.Changes.{with_correction}
use Rattle.goo_tables_accounts.proofs.Queries.{in_order, last_of}
use Rattle.goo_tables_rows.specs.Met.{HasOurTables}
use Rattle.goo_tables_rows.proofs.Meeting.{type_rules, shape_rules, no_number, int_same}
use Rattle.std.specs.Prelude.{⊤}
use Rattle.std.proofs.lemmas.Iterator.Adapters.{option_map_id}
use Rattle.std.proofs.lemmas.Bool.{lt-ltb}
use Rattle.sqlite_keyed.specs.Keyed.{get_by}
use Rattle.sqlite_keyed.proofs.ListLemmas.{all_of}
use Rattle.goo_tables_rows.proofs.Stored.{correction_stored}
use Rattle.goo_tables_rows.specs.Refused.{IsTooBig, IsSmall}
use Rattle.goo_tables_accounts.proofs.Adding.{Adds, adds_row}
use Rattle.goo_tables_accounts.proofs.Failing.{FailsOnly, not_there, adding_fails}
use Rattle.goo_tables_accounts.proofs.AnyTable.{TableOf, shown, shows_each, IsListed, meets_listed, shows_top}
use Rattle.goo_tables_accounts.proofs.Asking.{Asks, Tells, Says}
use Rattle.goo_tables_accounts.proofs.Values.{whole_is, null_at_key}

-- ---- correction: the table

abbrev pub corrections : TableOf CorrectionRow Correction Correction
corrections = record {
  table = correction;
  row = correction_row;
  key = correction_key;
  keyed = λ _. refl;
  plain = λ _. refl;
  columns = col 1 0 ∷ col 1 2 ∷ col 1 3 ∷ col 1 4 ∷ col 1 5 ∷ [];
  show = correction_columns;
  shows = λ _ _. refl;
  reads = correction_reads;
  value = correction_in;
  of = λ x. x;
  same = correction_same;
}

-- ---- correction: a row is added

abbrev pub insert_text : List ℕ
insert_text = codes "INSERT INTO correction (id, device, first_day, less, withdrawal) VALUES (?1, ?2, ?3, ?4, ?5)"

abbrev insert_terms : List Term
insert_terms = col 0 0 ∷ lit Null ∷ col 0 1 ∷ col 0 2 ∷ col 0 3 ∷ col 0 4 ∷ []

insert_adds : Adds insert_text 13 insert_terms 6 5
unfolding understood everything
insert_adds = record { is = refl; plain = (refl, refl); whole = refl }

pub insert_live : KeepsLive insert_text
insert_live = keeps_live insert_text _ insert_adds.is insert_adds.plain refl

pub inserts_row : (old new : State) (t : Tables) (x : Correction) (r : Result ℕ Error) → Stands old.now t → Executes insert_text (correction_columns x) old new r → OnOk r (Stands new.now (with_correction t x))
inserts_row old new t x r it =
    adds_row insert_adds refl (λ _ _. refl) (correction_columns x) old new correction_row correction_key (λ _. refl) t.corrections x it.corrections it.schema (simp (cast_null, cast_int) refl) (with_correction t x)
    (λ schema others. corrections_stand old.now new.now t it schema others _) r

pub inserting_fails : (old new : State) (t : Tables) (x : Correction) → x.id < 2 ^ 63 → Stands old.now t → IsLive old → old.step_limit ≡ None → get_by correction_key t.corrections (pos x.id) ≡ None
    → FailsOnly (λ e. IsTooBig e × (IsSmall (correction_row x) → ⊥)) insert_text (correction_columns x) old new
inserting_fails old new t x small it live unlimited free =
    adding_fails insert_adds refl (λ _ _. refl) (correction_columns x) refl refl old new it.schema unlimited live (correction_row x) (simp (cast_null, cast_int) refl)
    (λ _. record { typed = refl; present = refl; checked = refl; free = not_there correction_row correction_key (λ _. refl) (old.now.trees 22) t.corrections x it.corrections.are free; unique = all_of _ (λ _. refl) _; keyed = refl })
    (correction_stored x) (lt-ltb _ _ small)

-- ---- correction: the whole table

abbrev pub all_text : List ℕ
all_text = codes "SELECT id, device, first_day, less, withdrawal FROM correction ORDER BY id"

abbrev pub all_query : Query
all_query = in_order 22 [] corrections.columns

pub all_asks : Asks all_text all_query (λ (_ : ⊤). [])
unfolding understood everything
all_asks = record { names = _; is = refl; plain = (refl, refl); unlisted = refl; suits = λ _. refl }

pub shown_all : (old : State) (t : Tables) → Stands old.now t → (rows : List Row) → IsAnswer all_query (overlay old.now.trees []) [] rows → rows ≡ map (λ (x : Correction). correction_columns x) t.corrections
shown_all old t it = shown corrections old it.corrections

pub shows_all : (old : State) → Says old all_query [] (λ (xs : List CorrectionRow) rows. AllZip correction_reads rows xs) (λ t xs. map correction_in xs ≡ t.corrections)
shows_all old t it xs rows answer read = shows_each corrections old it.corrections xs rows answer read ∙ map-id _

-- ---- correction: the last row

abbrev pub last_text : List ℕ
last_text = codes "SELECT id, device, first_day, less, withdrawal FROM correction ORDER BY id DESC LIMIT 1"

abbrev pub last_query : Query
last_query = last_of 22 corrections.columns

pub last_asks : Asks last_text last_query (λ (_ : ⊤). [])
unfolding understood everything
last_asks = record { names = _; is = refl; plain = (refl, refl); unlisted = refl; suits = λ _. refl }

pub shows_last : (old : State) → Says old last_query [] (λ (x : Option CorrectionRow) rows. FirstZip correction_reads rows x) (λ t x. option_map correction_in x ≡ slice_get (reverse t.corrections) 0)
shows_last old t it x rows answer read = shows_top corrections old it.corrections x rows answer read ∙ option_map_id _

-- ---- correction: the whole table, met as it is

correction_is : IsListed corrections
correction_is k x fits reads =
    (whole_is correction 4 refl k fits (λ none. no_number (none ∙ reads.4)) ∙ then_value reads.0 (then_value (null_at_key correction.columns k.1 fits) (then_value reads.1 (then_value reads.2 (then_value reads.3 (then_value reads.4 refl))))), int_same reads.0)

pub meets_all : (old : State) → HasOurTables old.now → Tells old all_query [] (λ (xs : List CorrectionRow) rows. AllZip correction_reads rows xs) (λ xs. Keeps (old.now.trees 22) correction_row correction_key (map correction_in xs))
meets_all old it = meets_listed corrections old (shape_rules old.now it).1.1.1.1.1.1.1.1.1.1.1.1.1.0 (type_rules old.now it).1.1.1.1.1.1.1.1.1.1.1.1.1.0 correction_is
