-- What the statements on `account` do and show.
use Rattle.std.proofs.lemmas.List.Elements.{recursion_from_All}
use Rattle.std.proofs.Common.{All, ◌≡◌, Bool, true, filter, sym, subst, ◌<◌, ◌^◌, None, ℕ, pos, List, [], ◌∷◌, map, find, codes, false, Option, option_map, Ok, Err, Result, OnOk, refl, ◌∙◌, map-id, int_eq}
use Rattle.std.specs.List.{AllZip}
use Rattle.sqlite_tied.specs.Compute.{everything}
use Rattle.sqlite.specs.declared.types.Value.TheVariants.{Null, Int}
use Rattle.sqlite.specs.declared.error.Error.{Error}
use Rattle.sqlite.specs.Collation.TheVariants.{Binary}
use Rattle.sqlite.specs.Order.{Row}
use Rattle.sqlite.specs.Term.{Term, lit, col, op2}
use Rattle.sqlite.specs.Query.{Query, IsAnswer}
use Rattle.sqlite.specs.Program.{overlay}
use Rattle.sqlite.specs.Command.TheVariants.{Update}
use Rattle.sqlite.specs.Listing.{understood}
use Rattle.sqlite.specs.State.{State, IsLive, Executes}
use Rattle.sqlite.proofs.Callers.{IsPlain, command_of}
use Rattle.sqlite_sql.specs.declared.ops.BinaryOp.TheVariants.{Compare}
use Rattle.sqlite_sql.specs.declared.ops.CompareOp.TheVariants.{Eq}
use Rattle.sqlite_typed.proofs.AnswerLemmas.{at_end, last_table}
use Rattle.sqlite_typed.proofs.TestLemmas.{at_ints, last_term, then_value}
use Rattle.goo_tables_rows.specs.Columns.{registry_schema, account}
use Rattle.goo_tables_rows.specs.Rows.{Tables, Account, account_in, account_columns, account_row, account_key}
use Rattle.goo_tables_rows.specs.declared.account.AccountRow.{AccountRow}
use Rattle.goo_tables_rows.specs.Reads.{account_reads}
use Rattle.goo_tables_rows.specs.Stands.{Stands, Keeps}
use Rattle.goo_tables_rows.specs.Asked.{FirstZip}
use Rattle.goo_tables_rows.proofs.Writing.{updates}
use Rattle.goo_tables_rows.proofs.Updating.{updated, IsKeyedBy-update_where}
use Rattle.goo_tables_rows.proofs.One.{answer_of_one, one_keyed}
use Rattle.sqlite_keyed.specs.Lists.{update_where}
use Rattle.goo_tables_rows.proofs.Typed.{cast_int, cast_null}
use Rattle.goo_tables_rows.proofs.Alone.{accounts_stand}
use Rattle.goo_tables_rows.proofs.Living.{KeepsLive, keeps_live}
use Rattle.goo_tables_rows.proofs.Same.{account_same}
use Rattle.goo_tables_accounts.specs.Changes.{with_account, with_closed}
use Rattle.goo_tables_accounts.proofs.Queries.{in_order, unordered}
use Rattle.goo_tables_rows.specs.First.{IsFirst, HasFirstTables}
use Rattle.goo_tables_rows.specs.Met.{HasOurTables}
use Rattle.goo_tables_rows.proofs.Meeting.{type_rules, shape_rules, first_type_rules, first_shape_rules, no_number, int_same}
use Rattle.std.specs.Prelude.{⊤}
use Rattle.std.proofs.lemmas.Iterator.Adapters.{option_map_id}
use Rattle.std.proofs.lemmas.Bool.{lt-ltb}
use Rattle.sqlite_keyed.specs.Keyed.{get_by}
use Rattle.sqlite_keyed.proofs.ListLemmas.{all_of}
use Rattle.goo_tables_rows.proofs.Stored.{account_stored}
use Rattle.goo_tables_rows.specs.Refused.{IsTooBig, IsSmall, is_suited}
use Rattle.goo_tables_accounts.proofs.Adding.{Adds, adds_row}
use Rattle.sqlite.specs.Effect.{Answers}
use Rattle.sqlite.specs.Ops.{fits_i64}
use Rattle.sqlite_keyed.proofs.KeyedLemmas.{same_int}
use Rattle.goo_tables_rows.proofs.Failing.{whole_query}
use Rattle.goo_tables_accounts.proofs.Altering.{updating_fails, update_obeys, update_small, update_stored}
use Rattle.goo_tables_accounts.proofs.Failing.{FailsOnly, not_there, adding_fails}
use Rattle.goo_tables_accounts.proofs.AnyTable.{TableOf, shown, shows_each, finds_one, IsListed, meets_listed}
use Rattle.goo_tables_accounts.proofs.Asking.{Asks, AsksFirst, SaysFirst, Tells, Says}
use Rattle.goo_tables_accounts.proofs.Values.{whole_is, null_at_key}

-- ---- account: the table

abbrev pub accounts : TableOf AccountRow Account Account
accounts = record {
  table = account;
  row = account_row;
  key = account_key;
  keyed = λ _. refl;
  plain = λ _. refl;
  columns = col 1 0 ∷ col 1 2 ∷ col 1 3 ∷ [];
  show = account_columns;
  shows = λ _ _. refl;
  reads = account_reads;
  value = account_in;
  of = λ x. x;
  same = account_same;
}

-- ---- account: a row is added

abbrev pub insert_text : List ℕ
insert_text = codes "INSERT INTO account (number, holder, closed) VALUES (?1, ?2, ?3)"

abbrev insert_terms : List Term
insert_terms = col 0 0 ∷ lit Null ∷ col 0 1 ∷ col 0 2 ∷ []

insert_adds : Adds insert_text 2 insert_terms 4 3
unfolding understood everything
insert_adds = record { is = refl; plain = (refl, refl); whole = refl }

pub insert_live : KeepsLive insert_text
insert_live = keeps_live insert_text _ insert_adds.is insert_adds.plain refl

pub inserts_row : (old new : State) (t : Tables) (x : Account) (r : Result ℕ Error) → Stands old.now t → Executes insert_text (account_columns x) old new r → OnOk r (Stands new.now (with_account t x))
inserts_row old new t x r it =
    adds_row insert_adds refl (λ _ _. refl) (account_columns x) old new account_row account_key (λ _. refl) t.accounts x it.accounts it.schema (simp (cast_null, cast_int) refl) (with_account t x)
    (λ schema others. accounts_stand old.now new.now t it schema others _) r

pub inserting_fails : (old new : State) (t : Tables) (x : Account) → x.number < 2 ^ 63 → Stands old.now t → IsLive old → old.step_limit ≡ None → get_by account_key t.accounts (pos x.number) ≡ None
    → FailsOnly (λ e. IsTooBig e × (IsSmall (account_row x) → ⊥)) insert_text (account_columns x) old new
inserting_fails old new t x small it live unlimited free =
    adding_fails insert_adds refl (λ _ _. refl) (account_columns x) refl refl old new it.schema unlimited live (account_row x) (simp (cast_null, cast_int) refl)
    (λ _. record { typed = refl; present = refl; checked = refl; free = not_there account_row account_key (λ _. refl) (old.now.trees 3) t.accounts x it.accounts.are free; unique = all_of _ (λ _. refl) _; keyed = refl })
    (account_stored x) (lt-ltb _ _ small)

-- ---- account: the row with a key

abbrev pub find_text : List ℕ
find_text = codes "SELECT number, holder, closed FROM account WHERE number = ?1 ORDER BY number"

abbrev pub find_query : Query
find_query = in_order 3 (op2 (Compare Eq Binary) (col 1 0) (col 0 0) ∷ []) accounts.columns

pub find_asks : Asks find_text find_query (λ (number : ℕ). Int (pos number) ∷ [])
unfolding understood everything
find_asks = record { names = _; is = refl; plain = (refl, refl); unlisted = refl; suits = λ _. refl }

pub finds : (old : State) (number : ℕ) → Says old find_query (Int (pos number) ∷ []) (λ (x : Option AccountRow) rows. FirstZip account_reads rows x)
    (λ t x. option_map account_in x ≡ find (λ (x : Account). int_eq (pos x.number) (pos number)) t.accounts)
finds old number t it x rows answer read = finds_one accounts old it.accounts _ (Int (pos number) ∷ []) _ (λ x. last_term (at_ints false Eq (pos x.number) (pos number))) x rows answer read ∙ option_map_id _

-- ---- account: the whole table

abbrev pub all_text : List ℕ
all_text = codes "SELECT number, holder, closed FROM account ORDER BY number"

abbrev pub all_query : Query
all_query = in_order 3 [] accounts.columns

pub all_asks : Asks all_text all_query (λ (_ : ⊤). [])
unfolding understood everything
all_asks = record { names = _; is = refl; plain = (refl, refl); unlisted = refl; suits = λ _. refl }

pub shown_all : (old : State) (t : Tables) → Stands old.now t → (rows : List Row) → IsAnswer all_query (overlay old.now.trees []) [] rows → rows ≡ map (λ (x : Account). account_columns x) t.accounts
shown_all old t it = shown accounts old it.accounts

pub shows_all : (old : State) → Says old all_query [] (λ (xs : List AccountRow) rows. AllZip account_reads rows xs) (λ t xs. map account_in xs ≡ t.accounts)
shows_all old t it xs rows answer read = shows_each accounts old it.accounts xs rows answer read ∙ map-id _

-- ---- account: a row is closed

abbrev pub close_text : List ℕ
close_text = codes "UPDATE account SET closed = 1 WHERE number = ?1"

abbrev close_query : Query
close_query = unordered 3 (op2 (Compare Eq Binary) (col 1 0) (col 0 0) ∷ []) (col 1 0 ∷ col 1 0 ∷ lit Null ∷ col 1 2 ∷ lit (Int (pos 1)) ∷ [])

close_is : command_of (understood registry_schema close_text) ≡ Update 2 (record { lets = []; body = close_query })
unfolding understood everything
close_is = refl

close_plain : IsPlain (understood registry_schema close_text)
unfolding understood everything
close_plain = (refl, refl)

pub close_live : KeepsLive close_text
close_live = keeps_live close_text _ close_is close_plain refl

abbrev closing : Account → Account
closing a = record a { closed = 1 }

abbrev has_number : ℕ → Account → Bool
has_number number a = int_eq (account_key a) (pos number)

closed_shown : (old : State) (t : Tables) (number : ℕ) → Keeps (old.now.trees 3) account_row account_key t.accounts → (rows : List Row) → Answers (record { schema = registry_schema; trees = old.now.trees }) (whole_query close_query) (Int (pos number) ∷ []) rows
    → rows ≡ map (λ a. Int (account_key a) ∷ account_row (closing a)) (filter (has_number number) t.accounts)
closed_shown old t number keeps rows answers =
    let db = overlay old.now.trees [] in
    let source = last_table db 3 account_row account_key t.accounts keeps.are keeps.rise (at_end db) in
    answer_of_one close_query db (Int (pos number) ∷ []) source (has_number number) (λ a. last_term (at_ints false Eq (account_key a) (pos number))) (λ a. Int (account_key a) ∷ account_row (closing a)) (λ _. refl) refl refl
    (one_keyed account_key (pos number) t.accounts keeps.rise) rows (answers.answer Null)

pub closes_row : (old new : State) (t : Tables) (number : ℕ) (r : Result ℕ Error) → Stands old.now t → Executes close_text (Int (pos number) ∷ []) old new r → OnOk r (Stands new.now (with_closed t number))
closes_row old new t number (Err e) it ran = tt
closes_row old new t number (Ok count) it ran =
    let params = Int (pos number) ∷ [] in
    let made = updates registry_schema 2 _ 3 _ _ _ _ _ refl (λ _ _. refl) close_text params old new it.schema close_plain (record { lets = []; body = close_query }) close_is count ran in
    let p = has_number number in
    let rows = closed_shown old t number it.accounts made.0 made.1 in
    accounts_stand old.now new.now t it made.2.schema_is made.2.applied.tables (update_where p closing t.accounts) (record {
      are = made.2.applied.rows ∙ updated account_key account_row (λ _. refl) account (λ a. simp (cast_null, cast_int) refl) p closing (λ _. refl) old.now.trees t.accounts it.accounts.are it.accounts.rise made.0 rows;
      rise = IsKeyedBy-update_where account_key p closing (λ _. refl) t.accounts it.accounts.rise;
    })

close_suits : (number : ℕ) → is_suited registry_schema close_text close_query (Int (pos number) ∷ []) ≡ true
unfolding understood everything
close_suits number = refl

pub closing_fails : (old new : State) (t : Tables) (number : ℕ) → number < 2 ^ 63 → Stands old.now t → IsLive old → old.step_limit ≡ None
    → FailsOnly (λ e. IsTooBig e × (All (λ a. IsSmall (account_row (closing a))) (filter (has_number number) t.accounts) → ⊥)) close_text (Int (pos number) ∷ []) old new
closing_fails old new t number small it live unlimited =
    let keeps = it.accounts in
    let p = has_number number in
    let once = one_keyed account_key (pos number) t.accounts keeps.rise in
    updating_fails close_text 2 close_query refl (λ _ _. refl) close_plain (Int (pos number) ∷ []) (close_suits number) old new it.schema unlimited live close_is
    (λ _ rows answers.
    update_obeys account_key account_row (λ _. refl) account refl (λ a. simp (cast_null, cast_int) refl) p closing (λ _. refl) old.now.trees t.accounts once rows (closed_shown old t number keeps rows answers)
    (λ a. record { typed = refl; present = refl; checked = refl; keyed = refl }) (all_of _ (λ _. refl) _) (λ _ _. all_of _ (λ _. refl) _))
    (All (λ a. IsSmall (account_row (closing a))) (filter p t.accounts))
    (λ room rows answers.
    update_stored account_key account_row (λ _. refl) account refl (λ a. simp (cast_null, cast_int) refl) p closing (λ _. refl) old.now.trees t.accounts once rows (closed_shown old t number keeps rows answers)
    (λ a. account_stored (closing a)) (recursion_from_All (λ a. IsSmall (account_row (closing a))) (filter p t.accounts) room))
    (λ rows answers.
    update_small account_key account_row (λ _. refl) account refl (λ a. simp (cast_null, cast_int) refl) p closing (λ _. refl) old.now.trees t.accounts once rows (closed_shown old t number keeps rows answers)
    (λ a has. subst (λ n. fits_i64 n ≡ true) (sym (same_int (account_key a) (pos number) has)) (lt-ltb _ _ small)))

-- ---- account: the whole table, met as it is

account_is : IsListed accounts
account_is k x fits reads =
    (whole_is account 2 refl k fits (λ none. no_number (none ∙ reads.2)) ∙ then_value reads.0 (then_value (null_at_key account.columns k.1 fits) (then_value reads.1 (then_value reads.2 refl))), int_same reads.0)

pub meets_all : (old : State) → HasOurTables old.now → Tells old all_query [] (λ (xs : List AccountRow) rows. AllZip account_reads rows xs) (λ xs. Keeps (old.now.trees 3) account_row account_key (map account_in xs))
meets_all old it = meets_listed accounts old (shape_rules old.now it).1.1.0 (type_rules old.now it).1.1.0 account_is

-- ---- account: the whole table of version 1

pub first_asks : AsksFirst all_text all_query
unfolding understood everything
first_asks = record { names = _; is = refl; plain = (refl, refl); unlisted = refl; suits = refl }

pub shown_first : (old : State) (t : Tables) → IsFirst old.now t → (rows : List Row) → IsAnswer all_query (overlay old.now.trees []) [] rows → rows ≡ map (λ (x : Account). account_columns x) t.accounts
shown_first old t it = shown accounts old it.1.accounts

pub shows_first : (old : State) → SaysFirst old all_query (λ (xs : List AccountRow) rows. AllZip account_reads rows xs) (λ t xs. map account_in xs ≡ t.accounts)
shows_first old t it xs rows answer read = shows_each accounts old it.1.accounts xs rows answer read ∙ map-id _

pub meets_first : (old : State) → HasFirstTables old.now → Tells old all_query [] (λ (xs : List AccountRow) rows. AllZip account_reads rows xs) (λ xs. Keeps (old.now.trees 3) account_row account_key (map account_in xs))
meets_first old it = meets_listed accounts old (first_shape_rules old.now it).1.1.0 (first_type_rules old.now it).1.1.0 account_is
