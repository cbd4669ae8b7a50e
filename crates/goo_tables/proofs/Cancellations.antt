-- What the statements on `cancellation` do and show.
use Rattle.std.proofs.Common.{◌≡◌, ◌<◌, ◌^◌, None, ℕ, pos, List, [], ◌∷◌, map, find, codes, false, Option, option_map, Result, OnOk, refl, ◌∙◌, int_eq, subst}
use Rattle.std.specs.List.{AllZip}
use Rattle.sqlite_tied.specs.Compute.{everything}
use Rattle.sqlite.specs.declared.types.Value.TheVariants.{Null, Int}
use Rattle.sqlite.specs.declared.error.Error.{Error}
use Rattle.sqlite.specs.Collation.TheVariants.{Binary}
use Rattle.sqlite.specs.Order.{Row}
use Rattle.sqlite.specs.Term.{Term, lit, col, op2}
use Rattle.sqlite.specs.Query.{Query, IsAnswer}
use Rattle.sqlite.specs.Program.{overlay}
use Rattle.sqlite.specs.Listing.{understood}
use Rattle.sqlite.specs.State.{State, IsLive, Executes}
use Rattle.sqlite_sql.specs.declared.ops.BinaryOp.TheVariants.{Compare}
use Rattle.sqlite_sql.specs.declared.ops.CompareOp.TheVariants.{Eq}
use Rattle.sqlite_typed.proofs.TestLemmas.{at_ints, last_term, then_value}
use Rattle.goo_tables_rows.specs.Columns.{cancellation}
use Rattle.goo_tables_rows.specs.Rows.{Tables, Cancellation, cancellation_in, cancellation_columns, cancellation_row, cancellation_key}
use Rattle.goo_tables_rows.specs.declared.cancellation.CancellationRow.{CancellationRow}
use Rattle.goo_tables_rows.specs.Reads.{cancellation_reads}
use Rattle.goo_tables_rows.specs.Stands.{Stands, Keeps}
use Rattle.goo_tables_rows.specs.Asked.{FirstZip}
use Rattle.goo_tables_rows.proofs.Typed.{cast_int, cast_null}
use Rattle.goo_tables_rows.proofs.Alone.{cancellations_stand}
use Rattle.goo_tables_rows.proofs.Living.{KeepsLive, keeps_live}
use Rattle.goo_tables_rows.proofs.Same.{cancellation_same}
use Rattle.goo_tables_accounts.specs.Changes.{with_cancellation}
use Rattle.goo_tables.specs.Cancellations.{ReadAsCancellations, KeepsCancellations}
use Rattle.goo_tables_accounts.proofs.Queries.{in_order}
use Rattle.goo_tables_rows.specs.First.{IsFirst, HasFirstTables}
use Rattle.goo_tables_rows.specs.Met.{HasOurTables}
use Rattle.goo_tables_rows.proofs.Meeting.{type_rules, shape_rules, first_type_rules, first_shape_rules, no_text, int_same}
use Rattle.std.specs.Prelude.{⊤}
use Rattle.std.proofs.lemmas.Iterator.Adapters.{option_map_id}
use Rattle.std.proofs.lemmas.Bool.{lt-ltb}
use Rattle.sqlite_keyed.specs.Keyed.{get_by}
use Rattle.sqlite_keyed.proofs.ListLemmas.{all_of}
use Rattle.goo_tables_rows.proofs.Stored.{cancellation_stored}
use Rattle.goo_tables_rows.specs.Refused.{IsTooBig, IsSmall}
use Rattle.goo_tables_accounts.proofs.Adding.{Adds, adds_row}
use Rattle.goo_tables_accounts.proofs.Failing.{FailsOnly, not_there, adding_fails}
use Rattle.goo_tables_accounts.proofs.AnyTable.{TableOf, shown, finds_one, IsListed, meets_listed}
use Rattle.goo_tables_accounts.proofs.Asking.{Asks, AsksFirst, SaysFirst, Tells, Says}
use Rattle.goo_tables_accounts.proofs.Values.{whole_is, null_at_key}

-- ---- cancellation: the table

abbrev pub cancellations : TableOf CancellationRow Cancellation Cancellation
cancellations = record {
  table = cancellation;
  row = cancellation_row;
  key = cancellation_key;
  keyed = λ _. refl;
  plain = λ _. refl;
  columns = col 1 0 ∷ col 1 2 ∷ col 1 3 ∷ col 1 4 ∷ col 1 5 ∷ col 1 6 ∷ col 1 7 ∷ col 1 8 ∷ [];
  show = cancellation_columns;
  shows = λ _ _. refl;
  reads = cancellation_reads;
  value = cancellation_in;
  of = λ x. x;
  same = cancellation_same;
}

-- ---- cancellation: a row is added

abbrev pub insert_text : List ℕ
insert_text = codes "INSERT INTO cancellation (number, account, first, last, beneficiary, use_first, use_last, day) VALUES (?1, ?2, ?3, ?4, ?5, ?6, ?7, ?8)"

abbrev insert_terms : List Term
insert_terms = col 0 0 ∷ lit Null ∷ col 0 1 ∷ col 0 2 ∷ col 0 3 ∷ col 0 4 ∷ col 0 5 ∷ col 0 6 ∷ col 0 7 ∷ []

insert_adds : Adds insert_text 9 insert_terms 9 8
unfolding understood everything
insert_adds = record { is = refl; plain = (refl, refl); whole = refl }

pub insert_live : KeepsLive insert_text
insert_live = keeps_live insert_text _ insert_adds.is insert_adds.plain refl

pub inserts_row : (old new : State) (t : Tables) (x : Cancellation) (r : Result ℕ Error) → Stands old.now t → Executes insert_text (cancellation_columns x) old new r → OnOk r (Stands new.now (with_cancellation t x))
inserts_row old new t x r it =
    adds_row insert_adds refl (λ _ _. refl) (cancellation_columns x) old new cancellation_row cancellation_key (λ _. refl) t.cancellations x it.cancellations it.schema (simp (cast_null, cast_int) refl) (with_cancellation t x)
    (λ schema others. cancellations_stand old.now new.now t it schema others _) r

pub inserting_fails : (old new : State) (t : Tables) (x : Cancellation) → x.number < 2 ^ 63 → Stands old.now t → IsLive old → old.step_limit ≡ None → get_by cancellation_key t.cancellations (pos x.number) ≡ None
    → FailsOnly (λ e. IsTooBig e × (IsSmall (cancellation_row x) → ⊥)) insert_text (cancellation_columns x) old new
inserting_fails old new t x small it live unlimited free =
    adding_fails insert_adds refl (λ _ _. refl) (cancellation_columns x) refl refl old new it.schema unlimited live (cancellation_row x) (simp (cast_null, cast_int) refl)
    (λ _. record { typed = refl; present = refl; checked = refl; free = not_there cancellation_row cancellation_key (λ _. refl) (old.now.trees 15) t.cancellations x it.cancellations.are free; unique = all_of _ (λ _. refl) _; keyed = refl })
    (cancellation_stored x) (lt-ltb _ _ small)

-- ---- cancellation: the row with a key

abbrev pub find_text : List ℕ
find_text = codes "SELECT number, account, first, last, beneficiary, use_first, use_last, day FROM cancellation WHERE number = ?1 ORDER BY number"

abbrev pub find_query : Query
find_query = in_order 15 (op2 (Compare Eq Binary) (col 1 0) (col 0 0) ∷ []) cancellations.columns

pub find_asks : Asks find_text find_query (λ (number : ℕ). Int (pos number) ∷ [])
unfolding understood everything
find_asks = record { names = _; is = refl; plain = (refl, refl); unlisted = refl; suits = λ _. refl }

pub finds : (old : State) (number : ℕ) → Says old find_query (Int (pos number) ∷ []) (λ (x : Option CancellationRow) rows. FirstZip cancellation_reads rows x)
    (λ t x. option_map cancellation_in x ≡ find (λ (x : Cancellation). int_eq (pos x.number) (pos number)) t.cancellations)
finds old number t it x rows answer read = finds_one cancellations old it.cancellations _ (Int (pos number) ∷ []) _ (λ x. last_term (at_ints false Eq (pos x.number) (pos number))) x rows answer read ∙ option_map_id _

-- ---- cancellation: the whole table

abbrev pub all_text : List ℕ
all_text = codes "SELECT number, account, first, last, beneficiary, use_first, use_last, day FROM cancellation ORDER BY number"

abbrev pub all_query : Query
all_query = in_order 15 [] cancellations.columns

pub all_asks : Asks all_text all_query (λ (_ : ⊤). [])
unfolding understood everything
all_asks = record { names = _; is = refl; plain = (refl, refl); unlisted = refl; suits = λ _. refl }

pub shown_all : (old : State) (t : Tables) → Stands old.now t → (rows : List Row) → IsAnswer all_query (overlay old.now.trees []) [] rows → rows ≡ map (λ (x : Cancellation). cancellation_columns x) t.cancellations
shown_all old t it = shown cancellations old it.cancellations

pub reads_all : {T : Type 0} (reads : Row → T → Type 0) (old : State) → Says old all_query [] (λ (xs : List T) rows. AllZip reads rows xs) (λ t xs. AllZip reads (map cancellation_columns t.cancellations) xs)
reads_all reads old t it xs rows answer read = subst (λ l. AllZip reads l xs) (shown_all old t it rows answer) read

-- ---- cancellation: the whole table, met as it is

cancellation_is : IsListed cancellations
cancellation_is k x fits reads =
    (whole_is cancellation 7 refl k fits (λ none. no_text (none ∙ reads.7)) ∙ then_value reads.0 (then_value (null_at_key cancellation.columns k.1 fits) (then_value reads.1 (then_value reads.2 (then_value reads.3 (then_value reads.4 (then_value reads.5 (then_value reads.6 (then_value reads.7 refl)))))))), int_same reads.0)

meets_all : (old : State) → HasOurTables old.now → Tells old all_query [] (λ (xs : List CancellationRow) rows. AllZip cancellation_reads rows xs) (λ xs. Keeps (old.now.trees 15) cancellation_row cancellation_key (map cancellation_in xs))
meets_all old it = meets_listed cancellations old (shape_rules old.now it).1.1.1.1.1.1.1.1.1.0 (type_rules old.now it).1.1.1.1.1.1.1.1.1.0 cancellation_is

-- what reads as cancellations too, as cancellations
as_cancellations : {T : Type 0} (reads : Row → T → Type 0) → ReadAsCancellations reads → (rows : List Row) (xs : List T) → AllZip reads rows xs → (cancellations : List CancellationRow) × AllZip cancellation_reads rows cancellations
as_cancellations reads are [] [] all = ([], tt)
as_cancellations reads are [] (x ∷ xs) all = absurd all
as_cancellations reads are (r ∷ rows) [] all = absurd all
as_cancellations reads are (r ∷ rows) (x ∷ xs) all =
    let one = are r x all.0 in
    let rest = as_cancellations reads are rows xs all.1 in
    (one.cancellation ∷ rest.0, (one.reads, rest.1))

-- rows that keep cancellations, whatever each was read as
kept_read : {T : Type 0} (reads : Row → T → Type 0) (old : State) (xs : List T) (rows : List Row) → IsAnswer all_query (overlay old.now.trees []) [] rows → AllZip reads rows xs → (listed : List CancellationRow)
    → Keeps (old.now.trees 15) cancellation_row cancellation_key (map cancellation_in listed) → KeepsCancellations (old.now.trees 15) reads xs
kept_read reads old xs rows answer read listed kept = (map cancellation_in listed, kept, subst (λ l. AllZip reads l xs) (shown cancellations old kept rows answer) read)

pub meets_read : {T : Type 0} (reads : Row → T → Type 0) → ReadAsCancellations reads → (old : State) → HasOurTables old.now → Tells old all_query [] (λ (xs : List T) rows. AllZip reads rows xs) (λ xs. KeepsCancellations (old.now.trees 15) reads xs)
meets_read reads are old it xs rows answer read =
    let them = as_cancellations reads are rows xs read in
    kept_read reads old xs rows answer read them.0 (meets_all old it them.0 rows answer them.1)

-- ---- cancellation: the whole table of version 1

pub first_asks : AsksFirst all_text all_query
unfolding understood everything
first_asks = record { names = _; is = refl; plain = (refl, refl); unlisted = refl; suits = refl }

pub shown_first : (old : State) (t : Tables) → IsFirst old.now t → (rows : List Row) → IsAnswer all_query (overlay old.now.trees []) [] rows → rows ≡ map (λ (x : Cancellation). cancellation_columns x) t.cancellations
shown_first old t it = shown cancellations old it.1.cancellations

pub first_reads : {T : Type 0} (reads : Row → T → Type 0) (old : State) → SaysFirst old all_query (λ (xs : List T) rows. AllZip reads rows xs) (λ t xs. AllZip reads (map cancellation_columns t.cancellations) xs)
first_reads reads old t it xs rows answer read = subst (λ l. AllZip reads l xs) (shown_first old t it rows answer) read

meets_first : (old : State) → HasFirstTables old.now → Tells old all_query [] (λ (xs : List CancellationRow) rows. AllZip cancellation_reads rows xs) (λ xs. Keeps (old.now.trees 15) cancellation_row cancellation_key (map cancellation_in xs))
meets_first old it = meets_listed cancellations old (first_shape_rules old.now it).1.1.1.1.1.1.1.1.1.0 (first_type_rules old.now it).1.1.1.1.1.1.1.1.1.0 cancellation_is

pub meets_read_first : {T : Type 0} (reads : Row → T → Type 0) → ReadAsCancellations reads → (old : State) → HasFirstTables old.now → Tells old all_query [] (λ (xs : List T) rows. AllZip reads rows xs) (λ xs. KeepsCancellations (old.now.trees 15) reads xs)
meets_read_first reads are old it xs rows answer read =
    let them = as_cancellations reads are rows xs read in
    kept_read reads old xs rows answer read them.0 (meets_first old it them.0 rows answer them.1)
