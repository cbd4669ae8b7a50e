-- What the statements on `holder` do and show.
use Rattle.std.proofs.Common.{◌≡◌, ℕ, List, [], ◌∷◌, map, find, codes, false, Option, option_map, Result, OnOk, refl, ◌∙◌, None, true, ◌&&◌, ap}
use Rattle.std.specs.List.{AllZip}
use Rattle.sqlite_tied.specs.Compute.{everything}
use Rattle.sqlite.specs.declared.types.Value.TheVariants.{Null, Text}
use Rattle.sqlite.specs.declared.error.Error.{Error}
use Rattle.sqlite.specs.Collation.TheVariants.{Binary}
use Rattle.sqlite.specs.Order.{Row}
use Rattle.sqlite.specs.Term.{Term, lit, col, op2}
use Rattle.sqlite.specs.Query.{Query, IsAnswer}
use Rattle.sqlite.specs.Program.{overlay}
use Rattle.sqlite.specs.Listing.{understood}
use Rattle.sqlite.specs.State.{State, IsLive, Executes}
use Rattle.sqlite_sql.specs.declared.ops.BinaryOp.TheVariants.{Compare}
use Rattle.sqlite_sql.specs.declared.ops.CompareOp.TheVariants.{Eq}
use Rattle.sqlite_typed.specs.Tests.{bytes_eq}
use Rattle.sqlite_typed.proofs.TestLemmas.{at_texts, last_term, then_value}
use Rattle.goo_tables_rows.specs.Columns.{holder}
use Rattle.goo_tables_rows.specs.Rows.{Tables, Kept, kept_key, Holder, holder_in, holder_columns, holder_row}
use Rattle.goo_tables_rows.specs.declared.holder.HolderRow.{HolderRow}
use Rattle.goo_tables_rows.specs.Reads.{holder_reads}
use Rattle.goo_tables_rows.specs.Stands.{Stands}
use Rattle.goo_tables_rows.specs.Asked.{FirstZip}
use Rattle.goo_tables_rows.proofs.Typed.{cast_null}
use Rattle.goo_tables_rows.proofs.Alone.{holders_stand}
use Rattle.goo_tables_rows.proofs.Living.{KeepsLive, keeps_live}
use Rattle.goo_tables_rows.proofs.Same.{holder_same}
use Rattle.goo_tables_accounts.specs.Changes.{with_holder}
use Rattle.goo_tables_accounts.proofs.Queries.{in_order}
use Rattle.goo_tables_rows.specs.First.{IsFirst, HasFirstTables}
use Rattle.goo_tables_rows.specs.Met.{HasOurTables, KeepsSome}
use Rattle.goo_tables_rows.proofs.Meeting.{type_rules, shape_rules, first_type_rules, first_shape_rules, no_text}
use Rattle.std.specs.Prelude.{⊤}
use Rattle.sqlite_keyed.specs.Keyed.{next_key}
use Rattle.sqlite_keyed.proofs.KeyedLemmas.{next_key_is_free}
use Rattle.goo_tables_rows.proofs.Stored.{holder_stored}
use Rattle.goo_tables_rows.specs.Refused.{IsTooBigOrFull, HasRoomFor}
use Rattle.goo_tables_rows.proofs.Distinct.{same_text, one_apart}
use Rattle.goo_tables_accounts.proofs.Failing.{FailsOnly, distinct_kept_fails, next_row}
use Rattle.goo_tables_accounts.proofs.Adding.{Adds, adds_kept}
use Rattle.goo_tables_accounts.proofs.AnyTable.{TableOf, shown, shows_each, finds_one, IsKept, meets_kept}
use Rattle.goo_tables_accounts.proofs.Asking.{Asks, AsksFirst, SaysFirst, Tells, Says}
use Rattle.goo_tables_accounts.proofs.Values.{whole_is}

-- ---- holder: the table

abbrev pub holders : TableOf HolderRow (Kept Holder) Holder
holders = record {
  table = holder;
  row = holder_row;
  key = kept_key;
  keyed = λ _. refl;
  plain = λ _. refl;
  columns = col 1 1 ∷ col 1 2 ∷ [];
  show = λ k. holder_columns k.1;
  shows = λ _ _. refl;
  reads = holder_reads;
  value = holder_in;
  of = λ k. k.1;
  same = λ k. holder_same k.1;
}

-- ---- holder: a row is added

abbrev pub insert_text : List ℕ
insert_text = codes "INSERT INTO holder (code, name) VALUES (?1, ?2)"

abbrev insert_terms : List Term
insert_terms = lit Null ∷ col 0 0 ∷ col 0 1 ∷ []

insert_adds : Adds insert_text 1 insert_terms 3 2
unfolding understood everything
insert_adds = record { is = refl; plain = (refl, refl); whole = refl }

pub insert_live : KeepsLive insert_text
insert_live = keeps_live insert_text _ insert_adds.is insert_adds.plain refl

pub inserts_row : (old new : State) (t : Tables) (x : Holder) (r : Result ℕ Error) → Stands old.now t → Executes insert_text (holder_columns x) old new r → OnOk r (Stands new.now (with_holder t x))
inserts_row old new t x r it =
    adds_kept insert_adds refl (λ _ _. refl) (holder_columns x) old new holder_columns t.holders x it.holders it.schema (simp (cast_null) refl) (with_holder t x)
    (λ schema others. holders_stand old.now new.now t it schema others _) r

pub inserting_fails : (old new : State) (t : Tables) (x : Holder) → Stands old.now t → IsLive old → old.step_limit ≡ None → find (λ (k : Kept Holder). bytes_eq k.1.code x.code) t.holders ≡ None
    → FailsOnly (λ e. IsTooBigOrFull e × (HasRoomFor holder_row t.holders x → ⊥)) insert_text (holder_columns x) old new
inserting_fails old new t x it live unlimited unmet =
    distinct_kept_fails insert_adds refl (λ _ _. refl) (holder_columns x) refl refl old new it.schema unlimited live (1 ∷ []) (λ _ _. refl) holder_row kept_key (λ _. refl) t.holders it.holders (λ (k : Kept Holder). bytes_eq k.1.code x.code) unmet
    (next_key kept_key t.holders, x) (simp (cast_null) refl ∙ next_row holder_columns (old.now.trees 1) t.holders x it.holders.are) (λ z h. ap (λ a. a && true) (same_text z.1.code x.code) ∙ one_apart _ h)
    (record { typed = refl; present = refl; checked = refl; keyed = refl }) (next_key_is_free kept_key t.holders it.holders.rise) (holder_stored (next_key kept_key t.holders, x))

-- ---- holder: the row with a key

abbrev pub find_text : List ℕ
find_text = codes "SELECT code, name FROM holder WHERE code = ?1 ORDER BY rowid"

abbrev pub find_query : Query
find_query = in_order 1 (op2 (Compare Eq Binary) (col 1 1) (col 0 0) ∷ []) holders.columns

pub find_asks : Asks find_text find_query (λ (code : List ℕ). Text code ∷ [])
unfolding understood everything
find_asks = record { names = _; is = refl; plain = (refl, refl); unlisted = refl; suits = λ _. refl }

pub finds : (old : State) (code : List ℕ) → Says old find_query (Text code ∷ []) (λ (x : Option HolderRow) rows. FirstZip holder_reads rows x)
    (λ t x. option_map holder_in x ≡ option_map (λ (k : (Kept Holder)). k.1) (find (λ (k : (Kept Holder)). bytes_eq k.1.code code) t.holders))
finds old code t it x rows answer read = finds_one holders old it.holders _ (Text code ∷ []) _ (λ k. last_term (at_texts false Eq k.1.code code)) x rows answer read

-- ---- holder: the whole table

abbrev pub all_text : List ℕ
all_text = codes "SELECT code, name FROM holder ORDER BY rowid"

abbrev pub all_query : Query
all_query = in_order 1 [] holders.columns

pub all_asks : Asks all_text all_query (λ (_ : ⊤). [])
unfolding understood everything
all_asks = record { names = _; is = refl; plain = (refl, refl); unlisted = refl; suits = λ _. refl }

pub shown_all : (old : State) (t : Tables) → Stands old.now t → (rows : List Row) → IsAnswer all_query (overlay old.now.trees []) [] rows → rows ≡ map (λ (k : (Kept Holder)). holder_columns k.1) t.holders
shown_all old t it = shown holders old it.holders

pub shows_all : (old : State) → Says old all_query [] (λ (xs : List HolderRow) rows. AllZip holder_reads rows xs) (λ t xs. map holder_in xs ≡ map (λ (k : (Kept Holder)). k.1) t.holders)
shows_all old t it xs rows answer read = shows_each holders old it.holders xs rows answer read

-- ---- holder: the whole table, met as it is

holder_is : IsKept holders
holder_is k x fits reads =
    whole_is holder 1 refl k fits (λ none. no_text (none ∙ reads.1)) ∙ then_value refl (then_value reads.0 (then_value reads.1 refl))

pub meets_all : (old : State) → HasOurTables old.now → Tells old all_query [] (λ (xs : List HolderRow) rows. AllZip holder_reads rows xs) (λ xs. KeepsSome (old.now.trees 1) holder_row (map holder_in xs))
meets_all old it = meets_kept holders old (shape_rules old.now it).1.0 (type_rules old.now it).1.0 holder_is

-- ---- holder: the whole table of version 1

pub first_asks : AsksFirst all_text all_query
unfolding understood everything
first_asks = record { names = _; is = refl; plain = (refl, refl); unlisted = refl; suits = refl }

pub shown_first : (old : State) (t : Tables) → IsFirst old.now t → (rows : List Row) → IsAnswer all_query (overlay old.now.trees []) [] rows → rows ≡ map (λ (k : (Kept Holder)). holder_columns k.1) t.holders
shown_first old t it = shown holders old it.1.holders

pub shows_first : (old : State) → SaysFirst old all_query (λ (xs : List HolderRow) rows. AllZip holder_reads rows xs) (λ t xs. map holder_in xs ≡ map (λ (k : (Kept Holder)). k.1) t.holders)
shows_first old t it xs rows answer read = shows_each holders old it.1.holders xs rows answer read

pub meets_first : (old : State) → HasFirstTables old.now → Tells old all_query [] (λ (xs : List HolderRow) rows. AllZip holder_reads rows xs) (λ xs. KeepsSome (old.now.trees 1) holder_row (map holder_in xs))
meets_first old it = meets_kept holders old (first_shape_rules old.now it).1.0 (first_type_rules old.now it).1.0 holder_is
