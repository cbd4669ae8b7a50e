-- What the statements on `piece` do and show.
use Rattle.std.proofs.Common.{◌≡◌, true, ◌<◌, ◌^◌, length, None, ℕ, pos, List, [], ◌∷◌, filter, codes, map, map-id, ◌&&◌, false, Ok, Err, Result, OnOk, IfOk, refl, sym, ap, subst, ◌∙◌, int_eq, find, Option}
use Rattle.std.specs.List.{AllZip}
use Rattle.sqlite_tied.specs.Compute.{everything}
use Rattle.sqlite.specs.declared.types.Value.TheVariants.{Null, Int}
use Rattle.sqlite.specs.declared.error.Error.{Error}
use Rattle.sqlite.specs.Collation.TheVariants.{Binary}
use Rattle.sqlite.specs.Order.{Row}
use Rattle.sqlite.specs.Term.{Term, lit, col, op2}
use Rattle.sqlite.specs.Query.{Query, IsAnswer}
use Rattle.sqlite.specs.Program.{overlay}
use Rattle.sqlite.specs.Command.TheVariants.{Delete, Update}
use Rattle.sqlite.specs.Edit.{without_all, id_in}
use Rattle.sqlite.specs.Tree.{rowid}
use Rattle.sqlite.specs.Listing.{understood}
use Rattle.sqlite.specs.State.{State, IsLive, Executes, ExecutesInside}
use Rattle.sqlite.proofs.Callers.{IsPlain, command_of}
use Rattle.sqlite_rules.specs.Calls.{ids_of}
use Rattle.sqlite_sql.specs.declared.ops.BinaryOp.TheVariants.{Compare}
use Rattle.sqlite_sql.specs.declared.ops.CompareOp.TheVariants.{Eq}
use Rattle.sqlite_typed.proofs.AnswerLemmas.{at_end, last_table}
use Rattle.sqlite_typed.proofs.TestLemmas.{at_ints, last_term, then_term, then_value}
use Rattle.sqlite_keyed.specs.Lists.{delete_where, update_where}
use Rattle.sqlite_keyed.proofs.ListLemmas.{map-map}
use Rattle.sqlite_keyed.proofs.KeyedLemmas.{IsKeyedBy-delete_where, same_int}
use Rattle.goo_tables_rows.specs.Columns.{registry_schema, piece}
use Rattle.goo_tables_rows.specs.Rows.{Tables, piece_columns, piece_row, piece_key}
use Rattle.goo_tables_rows.specs.declared.piece.PieceRow.{PieceRow}
use Rattle.goo_tables_rows.specs.Reads.{piece_reads}
use Rattle.std.proofs.lemmas.Iterator.Adapters.{option_map_id}
use Rattle.goo_tables_rows.specs.Asked.{FirstZip}
use Rattle.goo_tables_rows.proofs.Same.{piece_same}
use Rattle.goo_tables_rows.specs.Stands.{Stands, Keeps}
use Rattle.goo_tables_rows.proofs.Writing.{deletes, updates}
use Rattle.goo_tables_rows.proofs.Typed.{cast_int, cast_null, removes}
use Rattle.goo_tables_rows.proofs.One.{answer_of_one, one_keyed}
use Rattle.goo_tables_rows.proofs.Alone.{pieces_stand}
use Rattle.goo_tables_rows.proofs.Living.{KeepsLive, keeps_live}
use Rattle.goo_tables_accounts.specs.Changes.{begins_as, with_piece, with_piece_set, without_piece}
use Rattle.goo_tables_accounts.proofs.Queries.{in_order, first_in_order, unordered}
use Rattle.goo_tables_rows.specs.First.{IsFirst, HasFirstTables}
use Rattle.goo_tables_rows.specs.Met.{HasOurTables}
use Rattle.goo_tables_rows.proofs.Meeting.{type_rules, shape_rules, first_type_rules, first_shape_rules, no_number, int_same}
use Rattle.std.specs.Prelude.{⊤}
use Rattle.std.proofs.lemmas.Bool.{lt-ltb}
use Rattle.sqlite_keyed.specs.Keyed.{get_by}
use Rattle.sqlite_keyed.proofs.ListLemmas.{all_of, all_weaker}
use Rattle.goo_tables_rows.proofs.Stored.{piece_stored}
use Rattle.goo_tables_rows.specs.Refused.{IsTooBig, IsSmall, is_suited}
use Rattle.goo_tables_accounts.proofs.Adding.{Adds, adds_row}
use Rattle.goo_tables_accounts.proofs.Altering as any
use Rattle.goo_tables_accounts.proofs.Altering.{updating_fails, update_obeys, update_small, update_stored, kept_pass}
use Rattle.goo_tables_rows.proofs.Failing.{whole_query}
use Rattle.goo_tables_rows.proofs.Updating.{rows_put, updated, IsKeyedBy-update_where}
use Rattle.sqlite.specs.Effect.{Answers}
use Rattle.sqlite.specs.Ops.{fits_i64}
use Rattle.std.proofs.lemmas.List.{length-map}
use Rattle.goo_tables_accounts.proofs.Failing.{FailsOnly, not_there, adding_fails}
use Rattle.goo_tables_accounts.proofs.AnyTable.{TableOf, shown, shows_each, finds_one, finds_first, IsListed, meets_listed}
use Rattle.goo_tables_accounts.proofs.Asking.{Asks, AsksFirst, SaysFirst, Tells, Says}
use Rattle.goo_tables_accounts.proofs.Values.{whole_is, null_at_key}

-- ---- piece: the table

abbrev pub pieces : TableOf PieceRow PieceRow PieceRow
pieces = record {
  table = piece;
  row = piece_row;
  key = piece_key;
  keyed = λ _. refl;
  plain = λ _. refl;
  columns = col 1 0 ∷ col 1 2 ∷ col 1 3 ∷ col 1 4 ∷ col 1 5 ∷ col 1 6 ∷ [];
  show = piece_columns;
  shows = λ _ _. refl;
  reads = piece_reads;
  value = λ x. x;
  of = λ x. x;
  same = piece_same;
}

-- ---- piece: a row is added

abbrev pub insert_text : List ℕ
insert_text = codes "INSERT INTO piece (first, last, lot, kind, account, act) VALUES (?1, ?2, ?3, ?4, ?5, ?6)"

abbrev insert_terms : List Term
insert_terms = col 0 0 ∷ lit Null ∷ col 0 1 ∷ col 0 2 ∷ col 0 3 ∷ col 0 4 ∷ col 0 5 ∷ []

insert_adds : Adds insert_text 6 insert_terms 7 6
unfolding understood everything
insert_adds = record { is = refl; plain = (refl, refl); whole = refl }

pub insert_live : KeepsLive insert_text
insert_live = keeps_live insert_text _ insert_adds.is insert_adds.plain refl

pub inserts_row : (old new : State) (t : Tables) (x : PieceRow) (r : Result ℕ Error) → Stands old.now t → Executes insert_text (piece_columns x) old new r → OnOk r (Stands new.now (with_piece t x))
inserts_row old new t x r it =
    adds_row insert_adds refl (λ _ _. refl) (piece_columns x) old new piece_row piece_key (λ _. refl) t.pieces x it.pieces it.schema (simp (cast_null, cast_int) refl) (with_piece t x)
    (λ schema others. pieces_stand old.now new.now t it schema others _) r

pub inserting_fails : (old new : State) (t : Tables) (x : PieceRow) → x.first < 2 ^ 63 → Stands old.now t → IsLive old → old.step_limit ≡ None → get_by piece_key t.pieces (pos x.first) ≡ None
    → FailsOnly (λ e. IsTooBig e × (IsSmall (piece_row x) → ⊥)) insert_text (piece_columns x) old new
inserting_fails old new t x small it live unlimited free =
    adding_fails insert_adds refl (λ _ _. refl) (piece_columns x) refl refl old new it.schema unlimited live (piece_row x) (simp (cast_null, cast_int) refl)
    (λ _. record { typed = refl; present = refl; checked = refl; free = not_there piece_row piece_key (λ _. refl) (old.now.trees 10) t.pieces x it.pieces.are free; unique = all_of _ (λ _. refl) _; keyed = refl })
    (piece_stored x) (lt-ltb _ _ small)

-- ---- piece: a row is put in the place of another

abbrev pub set_text : List ℕ
set_text = codes "UPDATE piece SET last = ?2, lot = ?3, kind = ?4, account = ?5, act = ?6 WHERE first = ?1"

abbrev set_query : Query
set_query = unordered 10 (op2 (Compare Eq Binary) (col 1 0) (col 0 0) ∷ []) (col 1 0 ∷ col 1 0 ∷ lit Null ∷ col 0 1 ∷ col 0 2 ∷ col 0 3 ∷ col 0 4 ∷ col 0 5 ∷ [])

set_is : command_of (understood registry_schema set_text) ≡ Update 6 (record { lets = []; body = set_query })
unfolding understood everything
set_is = refl

set_plain : IsPlain (understood registry_schema set_text)
unfolding understood everything
set_plain = (refl, refl)

pub set_live : KeepsLive set_text
set_live = keeps_live set_text _ set_is set_plain refl

abbrev setting : PieceRow → PieceRow → PieceRow
setting x p = record x { first = p.first }

set_shown : (old : State) (t : Tables) (x : PieceRow) → Keeps (old.now.trees 10) piece_row piece_key t.pieces → (rows : List Row) → Answers (record { schema = registry_schema; trees = old.now.trees }) (whole_query set_query) (piece_columns x) rows
    → rows ≡ map (λ p. Int (piece_key p) ∷ piece_row (setting x p)) (filter (begins_as x) t.pieces)
set_shown old t x keeps rows answers =
    let db = overlay old.now.trees [] in
    let source = last_table db 10 piece_row piece_key t.pieces keeps.are keeps.rise (at_end db) in
    answer_of_one set_query db (piece_columns x) source (begins_as x) (λ p. last_term (at_ints false Eq (piece_key p) (pos x.first))) (λ p. Int (piece_key p) ∷ piece_row (setting x p)) (λ _. refl) refl refl
    (one_keyed piece_key (pos x.first) t.pieces keeps.rise) rows (answers.answer Null)

-- the tables then, and how many rows were changed
set_made : (old new : State) (t : Tables) (x : PieceRow) (count : ℕ) → Stands old.now t → Executes set_text (piece_columns x) old new (Ok count)
    → Stands new.now (with_piece_set t x) × (count ≡ length (filter (begins_as x) t.pieces))
set_made old new t x count it ran =
    let made = updates registry_schema 6 _ 10 _ _ _ _ _ refl (λ _ _. refl) set_text (piece_columns x) old new it.schema set_plain (record { lets = []; body = set_query }) set_is count ran in
    let p = begins_as x in
    let rows = set_shown old t x it.pieces made.0 made.1 in
    let put = rows_put piece_key piece_row (λ _. refl) piece (λ a. simp (cast_null, cast_int) refl) p (setting x) (λ _. refl) old.now.trees t.pieces made.0 rows in (
      pieces_stand old.now new.now t it made.2.schema_is made.2.applied.tables (update_where p (setting x) t.pieces) (record {
        are = made.2.applied.rows ∙ updated piece_key piece_row (λ _. refl) piece (λ a. simp (cast_null, cast_int) refl) p (setting x) (λ _. refl) old.now.trees t.pieces it.pieces.are it.pieces.rise made.0 rows;
        rise = IsKeyedBy-update_where piece_key p (setting x) (λ _. refl) t.pieces it.pieces.rise;
      }),
      made.3 ∙ ap length put ∙ length-map (map (setting x) (filter p t.pieces)) piece_row ∙ length-map (filter p t.pieces) (setting x),
    )

pub sets_row : (old new : State) (t : Tables) (x : PieceRow) (r : Result ℕ Error) → Stands old.now t → Executes set_text (piece_columns x) old new r → OnOk r (Stands new.now (with_piece_set t x))
sets_row old new t x (Err e) it ran = tt
sets_row old new t x (Ok count) it ran = (set_made old new t x count it ran).0

pub counts_set : (old new : State) (t : Tables) (x : PieceRow) (r : Result ℕ Error) → Stands old.now t → ExecutesInside 0 set_text (piece_columns x) old new r → IfOk r (λ count. count ≡ length (filter (begins_as x) t.pieces))
counts_set old new t x (Err e) it ran = tt
counts_set old new t x (Ok count) it ran = (set_made old new t x count it ran.0).1

set_suits : (x : PieceRow) → is_suited registry_schema set_text set_query (piece_columns x) ≡ true
unfolding understood everything
set_suits x = refl

pub setting_fails : (old new : State) (t : Tables) (x : PieceRow) → x.first < 2 ^ 63 → Stands old.now t → IsLive old → old.step_limit ≡ None
    → FailsOnly (λ e. IsTooBig e × (IsSmall (piece_row x) → ⊥)) set_text (piece_columns x) old new
setting_fails old new t x small it live unlimited =
    let keeps = it.pieces in
    let p = begins_as x in
    let once = one_keyed piece_key (pos x.first) t.pieces keeps.rise in
    let as_it = λ (y : PieceRow) (has : p y ≡ true). sym (same_int (piece_key y) (pos x.first) has) in
    updating_fails set_text 6 set_query refl (λ _ _. refl) set_plain (piece_columns x) (set_suits x) old new it.schema unlimited live set_is
    (λ _ rows answers.
    update_obeys piece_key piece_row (λ _. refl) piece refl (λ a. simp (cast_null, cast_int) refl) p (setting x) (λ _. refl) old.now.trees t.pieces once rows (set_shown old t x keeps rows answers)
    (λ a. record { typed = refl; present = refl; checked = refl; keyed = refl }) (all_of _ (λ _. refl) _) (λ _ _. all_of _ (λ _. refl) _))
    (IsSmall (piece_row x))
    (λ room rows answers.
    update_stored piece_key piece_row (λ _. refl) piece refl (λ a. simp (cast_null, cast_int) refl) p (setting x) (λ _. refl) old.now.trees t.pieces once rows (set_shown old t x keeps rows answers)
    (λ a. piece_stored (setting x a))
    (all_weaker (λ y. p y ≡ true) (λ y. IsSmall (piece_row (setting x y))) (λ y has. subst (λ k. IsSmall (Int k ∷ Null ∷ Int (pos x.last) ∷ Int (pos x.lot) ∷ Int (pos x.kind) ∷ Int (pos x.account) ∷ Int (pos x.act) ∷ [])) (as_it y has) room) _ (kept_pass p t.pieces)))
    (λ rows answers.
    update_small piece_key piece_row (λ _. refl) piece refl (λ a. simp (cast_null, cast_int) refl) p (setting x) (λ _. refl) old.now.trees t.pieces once rows (set_shown old t x keeps rows answers)
    (λ a has. subst (λ n. fits_i64 n ≡ true) (as_it a has) (lt-ltb _ _ small)))

-- ---- piece: a row is taken out

abbrev pub delete_text : List ℕ
delete_text = codes "DELETE FROM piece WHERE first = ?1"

abbrev delete_query : Query
delete_query = unordered 10 (op2 (Compare Eq Binary) (col 1 0) (col 0 0) ∷ []) (col 1 0 ∷ [])

delete_is : command_of (understood registry_schema delete_text) ≡ Delete 6 (record { lets = []; body = delete_query })
unfolding understood everything
delete_is = refl

delete_plain : IsPlain (understood registry_schema delete_text)
unfolding understood everything
delete_plain = (refl, refl)

pub delete_live : KeepsLive delete_text
delete_live = keeps_live delete_text _ delete_is delete_plain refl

pub deletes_row : (old new : State) (t : Tables) (first : ℕ) (r : Result ℕ Error) → Stands old.now t → Executes delete_text (Int (pos first) ∷ []) old new r → OnOk r (Stands new.now (without_piece t first))
deletes_row old new t first (Err e) it ran = tt
deletes_row old new t first (Ok count) it ran =
    let params = Int (pos first) ∷ [] in
    let made = deletes registry_schema 6 _ 10 _ _ _ _ _ refl (λ _ _. refl) delete_text params old new it.schema delete_plain (record { lets = []; body = delete_query }) delete_is count ran in
    let db = overlay old.now.trees [] in
    let p = λ (x : PieceRow). int_eq (piece_key x) (pos first) in
    let source = last_table db 10 piece_row piece_key t.pieces it.pieces.are it.pieces.rise (at_end db) in
    let rows = answer_of_one delete_query db params source p (λ x. last_term (at_ints false Eq (piece_key x) (pos first))) (λ x. Int (piece_key x) ∷ []) (λ _. refl) refl refl
    (one_keyed piece_key (pos first) t.pieces it.pieces.rise) made.0 (made.1.answer Null) in
    pieces_stand old.now new.now t it made.2.schema_is made.2.applied.tables (delete_where p t.pieces) (record {
      are = made.2.applied.rows ∙ ap (λ l. without_all (old.now.trees 10) (ids_of l)) rows ∙ ap (without_all (old.now.trees 10)) (map-map (λ (r : Row). id_in (rowid r)) (λ (x : PieceRow). Int (piece_key x) ∷ []) (filter p t.pieces))
          ∙ removes piece_key piece_row (λ _. refl) (old.now.trees 10) t.pieces p it.pieces.are it.pieces.rise;
      rise = IsKeyedBy-delete_where piece_key p t.pieces it.pieces.rise;
    })

delete_suits : (first : ℕ) → is_suited registry_schema delete_text delete_query (Int (pos first) ∷ []) ≡ true
unfolding understood everything
delete_suits first = refl

pub deleting_fails : (old new : State) (t : Tables) (first : ℕ) → Stands old.now t → IsLive old → old.step_limit ≡ None → FailsOnly (λ _. ⊥ × (⊤ → ⊥)) delete_text (Int (pos first) ∷ []) old new
deleting_fails old new t first it live unlimited =
    any.deleting_fails delete_text 6 delete_query refl (λ _ _. refl) delete_plain (Int (pos first) ∷ []) (delete_suits first) old new it.schema unlimited live delete_is (λ _. all_of _ (λ _. refl) _)

-- ---- piece: the row with a key

abbrev pub find_text : List ℕ
find_text = codes "SELECT first, last, lot, kind, account, act FROM piece WHERE first = ?1 ORDER BY first"

abbrev pub find_query : Query
find_query = in_order 10 (op2 (Compare Eq Binary) (col 1 0) (col 0 0) ∷ []) pieces.columns

pub find_asks : Asks find_text find_query (λ (first : ℕ). Int (pos first) ∷ [])
unfolding understood everything
find_asks = record { names = _; is = refl; plain = (refl, refl); unlisted = refl; suits = λ _. refl }

pub finds : (old : State) (first : ℕ) → Says old find_query (Int (pos first) ∷ []) (λ (x : Option PieceRow) rows. FirstZip piece_reads rows x)
    (λ t x. x ≡ find (λ (p : PieceRow). int_eq (piece_key p) (pos first)) t.pieces)
finds old first t it x rows answer read = sym (option_map_id x) ∙ finds_one pieces old it.pieces _ (Int (pos first) ∷ []) _ (λ x. last_term (at_ints false Eq (piece_key x) (pos first))) x rows answer read ∙ option_map_id _

-- ---- piece: the first row that an account holds

abbrev pub held_text : List ℕ
held_text = codes "SELECT first, last, lot, kind, account, act FROM piece WHERE account = ?1 AND kind = 1 ORDER BY first LIMIT 1"

abbrev pub held_where : List Term
held_where = op2 (Compare Eq Binary) (col 1 5) (col 0 0) ∷ op2 (Compare Eq Binary) (col 1 4) (lit (Int (pos 1))) ∷ []

abbrev pub held_query : Query
held_query = first_in_order 10 held_where pieces.columns

pub held_asks : Asks held_text held_query (λ (account : ℕ). Int (pos account) ∷ [])
unfolding understood everything
held_asks = record { names = _; is = refl; plain = (refl, refl); unlisted = refl; suits = λ _. refl }

pub finds_held : (old : State) (account : ℕ) → Says old held_query (Int (pos account) ∷ []) (λ (x : Option PieceRow) rows. FirstZip piece_reads rows x)
    (λ t x. x ≡ find (λ (p : PieceRow). int_eq (pos p.account) (pos account) && int_eq (pos p.kind) (pos 1)) t.pieces)
finds_held old account t it x rows answer read =
    sym (option_map_id x)
    ∙ finds_first pieces old it.pieces held_where (Int (pos account) ∷ []) _ (λ p. then_term (at_ints false Eq (pos p.account) (pos account)) (last_term (at_ints false Eq (pos p.kind) (pos 1)))) x rows answer read
    ∙ option_map_id _

-- ---- piece: the whole table

abbrev pub all_text : List ℕ
all_text = codes "SELECT first, last, lot, kind, account, act FROM piece ORDER BY first"

abbrev pub all_query : Query
all_query = in_order 10 [] pieces.columns

pub all_asks : Asks all_text all_query (λ (_ : ⊤). [])
unfolding understood everything
all_asks = record { names = _; is = refl; plain = (refl, refl); unlisted = refl; suits = λ _. refl }

pub shown_all : (old : State) (t : Tables) → Stands old.now t → (rows : List Row) → IsAnswer all_query (overlay old.now.trees []) [] rows → rows ≡ map piece_columns t.pieces
shown_all old t it = shown pieces old it.pieces

pub shows_all : (old : State) → Says old all_query [] (λ (xs : List PieceRow) rows. AllZip piece_reads rows xs) (λ t xs. xs ≡ t.pieces)
shows_all old t it xs rows answer read = sym (map-id xs) ∙ shows_each pieces old it.pieces xs rows answer read ∙ map-id _

-- ---- piece: the whole table, met as it is

piece_is : IsListed pieces
piece_is k x fits reads =
    (whole_is piece 5 refl k fits (λ none. no_number (none ∙ reads.5)) ∙ then_value reads.0 (then_value (null_at_key piece.columns k.1 fits) (then_value reads.1 (then_value reads.2 (then_value reads.3 (then_value reads.4 (then_value reads.5 refl)))))), int_same reads.0)

pub meets_all : (old : State) → HasOurTables old.now → Tells old all_query [] (λ (xs : List PieceRow) rows. AllZip piece_reads rows xs) (λ xs. Keeps (old.now.trees 10) piece_row piece_key xs)
meets_all old it xs rows answer read = subst (Keeps (old.now.trees 10) piece_row piece_key) (map-id xs) (meets_listed pieces old (shape_rules old.now it).1.1.1.1.1.1.0 (type_rules old.now it).1.1.1.1.1.1.0 piece_is xs rows answer read)

-- ---- piece: the whole table of version 1

pub first_asks : AsksFirst all_text all_query
unfolding understood everything
first_asks = record { names = _; is = refl; plain = (refl, refl); unlisted = refl; suits = refl }

pub shown_first : (old : State) (t : Tables) → IsFirst old.now t → (rows : List Row) → IsAnswer all_query (overlay old.now.trees []) [] rows → rows ≡ map piece_columns t.pieces
shown_first old t it = shown pieces old it.1.pieces

pub shows_first : (old : State) → SaysFirst old all_query (λ (xs : List PieceRow) rows. AllZip piece_reads rows xs) (λ t xs. xs ≡ t.pieces)
shows_first old t it xs rows answer read = sym (map-id xs) ∙ shows_each pieces old it.1.pieces xs rows answer read ∙ map-id _

pub meets_first : (old : State) → HasFirstTables old.now → Tells old all_query [] (λ (xs : List PieceRow) rows. AllZip piece_reads rows xs) (λ xs. Keeps (old.now.trees 10) piece_row piece_key xs)
meets_first old it xs rows answer read = subst (Keeps (old.now.trees 10) piece_row piece_key) (map-id xs) (meets_listed pieces old (first_shape_rules old.now it).1.1.1.1.1.1.0 (first_type_rules old.now it).1.1.1.1.1.1.0 piece_is xs rows answer read)
