-- What an INSERT of two rows makes of a table, and why it fails.
use Rattle.std.proofs.Common.{◌≡◌, ◌⊎◌, inl, inr, ◌<◌, ◌^◌, ◌/◌, ◌++◌, ℕ, ℤ, pos, List, [], ◌∷◌, codes, length, slice_get, Option, Some, None, Ok, Err, Result, OnOk, Bool, true, false, ◌&&◌, not, IsTrue, refl, sym, ap, subst, ◌∙◌, true≢false}
use Rattle.std.proofs.lemmas.Bool.{lt-ltb}
use Rattle.sqlite_tied.specs.Compute.{everything}
use Rattle.sqlite.specs.declared.error.Error.{Error}
use Rattle.sqlite.specs.declared.types.Value.TheVariants.{Null, Int}
use Rattle.sqlite.specs.Order.{Row}
use Rattle.sqlite.specs.Term.{Term, lit, col}
use Rattle.sqlite.specs.Table.{Table}
use Rattle.sqlite.specs.Tree.{Trees, rowid, put_row}
use Rattle.sqlite.specs.Source.TheVariants.{Values}
use Rattle.sqlite.specs.Command.TheVariants.{Insert}
use Rattle.sqlite.specs.Edit.{Edit, put_all, edit_of, edited}
use Rattle.sqlite.specs.Rowids.TheVariants.{Chosen}
use Rattle.sqlite.specs.Effect.{value_rows}
use Rattle.sqlite.specs.Listing.{understood}
use Rattle.sqlite.specs.Does.{Does, AtPlace, OnRows}
use Rattle.sqlite.specs.State.{State, IsLive, Executes, ExecutesInside}
use Rattle.sqlite_rules.specs.Action.{works}
use Rattle.sqlite_rules.specs.Lists.{Has}
use Rattle.sqlite_rules.specs.Edit.{IsOversized, are_fresh, is_taken}
use Rattle.sqlite_schema.specs.declared.schema.Column.{Column}
use Rattle.sqlite_schema.specs.declared.schema.Keys.TheVariants.{Enforced}
use Rattle.sqlite_typing.specs.Types.{accepts_terms}
use Rattle.sqlite_value.specs.declared.keys.Order.{Order}
use Rattle.sqlite_keyed.specs.Keyed.{get_by, insert_by}
use Rattle.sqlite_keyed.proofs.KeyedLemmas.{IsKeyedBy-insert_by}
use Rattle.sqlite_keyed.proofs.ListLemmas.{all_of}
use Rattle.goo_tables_rows.specs.Columns.{registry_schema, strict_table, piece}
use Rattle.goo_tables_rows.specs.Refused.{IsTooBig, IsSmall}
use Rattle.goo_tables_rows.specs.Rows.{Tables, piece_columns, piece_row, piece_key}
use Rattle.goo_tables_rows.specs.declared.piece.PieceRow.{PieceRow}
use Rattle.goo_tables_rows.specs.Stands.{Stands, Keeps}
use Rattle.goo_tables_rows.proofs.Alone.{IsAlone, pieces_stand}
use Rattle.goo_tables_rows.proofs.Failing.{Stops, inserting}
use Rattle.goo_tables_rows.proofs.Living.{KeepsLive, keeps_live}
use Rattle.goo_tables_rows.proofs.Obeying.{Obeys, MayStand, AreUnique, no_references, only_for_rowid, have_small_rowids}
use Rattle.goo_tables_rows.proofs.Stored.{piece_stored}
use Rattle.goo_tables_rows.proofs.Typed.{cast_int, cast_null, puts}
use Rattle.goo_tables_rows.proofs.Writing.{inserts}
use Rattle.goo_tables_accounts.specs.Changes.{with_piece}
use Rattle.goo_tables_accounts.proofs.Adding.{Adds}
use Rattle.goo_tables_accounts.proofs.Failing.{FailsOnly, rules_hold, not_there, adding_ends}

-- ---- what it makes

module _ {sql : List ℕ} {terms : List Term} {at width given : ℕ} (adds : Adds sql at terms width given) {tree : ℕ} {name : List ℕ} {key_column : Option ℕ} {primary : List ℕ} {uniques : List (List ℕ)} {orders : List Order} {columns : List Column}
    (found : slice_get registry_schema.tables at ≡ Some (strict_table name tree key_column primary uniques orders columns)) (childless : (olds news : List Row) → works registry_schema Enforced 0 tree olds news ≡ [])
    (params : Row) (old new : State) where
  -- the rows of the table with what the text adds to them
  abbrev grown : List Row
  grown = edited old.now.trees (edit_of old.now.trees (strict_table name tree key_column primary uniques orders columns) [] Chosen 0 (value_rows params width (length terms / width) terms))

  module _ {Y : Type 0} (row : Y → Row) (key : Y → ℤ) (keyed : (y : Y) → rowid (row y) ≡ Int (key y)) (ys : List Y) (x y : Y) (keeps : Keeps (old.now.trees tree) row key ys) (has : old.now.schema ≡ registry_schema) where
    pub adds_both : grown ≡ put_all (old.now.trees tree) (row x ∷ row y ∷ []) → (after : Tables)
        → (new.now.schema ≡ registry_schema → IsAlone tree old.now.trees new.now.trees → Keeps (new.now.trees tree) row key (insert_by key (insert_by key ys x) y) → Stands new.now after)
        → (r : Result ℕ Error) → Executes sql params old new r → OnOk r (Stands new.now after)
    adds_both is after stands (Err e) ran = tt
    adds_both is after stands (Ok count) ran =
        let made = inserts registry_schema at name tree key_column primary uniques orders columns found childless sql params old new has adds.plain terms width adds.is count ran in
        let one = puts key row keyed (old.now.trees tree) ys x keeps.are in
        let two = puts key row keyed (put_row (row x) (old.now.trees tree)) (insert_by key ys x) y one in
        stands made.schema_is made.applied.tables (record { are = made.applied.rows ∙ is ∙ two; rise = IsKeyedBy-insert_by key (insert_by key ys x) y (IsKeyedBy-insert_by key ys x keeps.rise) })

-- ---- why it fails

both_hold : (a b : Bool) → a ≡ true → b ≡ true → (a && (b && true)) ≡ true
both_hold a b one two = rw (one, two) refl

both_free : (a b : Bool) → a ≡ false → b ≡ false → (not a && (not b && true)) ≡ true
both_free a b one two = rw (one, two) refl

-- two rows that may be put in, one after the other
pub both_join : (db : Trees) (table : Table) (r s : Row) → table.references ≡ [] → MayStand db table r → MayStand db table s → is_taken (db table.tree) r ≡ false → is_taken (put_row r (db table.tree)) s ≡ false
    → AreUnique table.tree (put_all (db table.tree) (r ∷ s ∷ [])) → Obeys db (record { table = table; gone = []; news = r ∷ s ∷ [] })
both_join db table r s bare one two free later unique = record {
  typed = both_hold _ _ one.typed two.typed;
  present = both_hold _ _ one.present two.present;
  checked = both_hold _ _ one.checked two.checked;
  fresh = both_free _ _ free later;
  unique = unique;
  keyed = both_hold _ _ one.keyed two.keyed;
  referred = rw bare refl;
}

module _ {sql : List ℕ} {terms : List Term} {at width given : ℕ} (adds : Adds sql at terms width given) {tree : ℕ} {name : List ℕ} {key_column : Option ℕ} {primary : List ℕ} {uniques : List (List ℕ)} {orders : List Order} {columns : List Column}
    (found : slice_get registry_schema.tables at ≡ Some (strict_table name tree key_column primary uniques orders columns)) (childless : (olds news : List Row) → works registry_schema Enforced 0 tree olds news ≡ [])
    (params : Row) (are_given : length params ≡ given) (fits : accepts_terms terms params ≡ true) (old new : State) (has : old.now.schema ≡ registry_schema) (unlimited : old.step_limit ≡ None) (live : IsLive old) (r s : Row) where
  abbrev table : Table
  table = strict_table name tree key_column primary uniques orders columns

  abbrev trees : Trees
  trees = old.now.trees

  abbrev growing : Edit
  growing = inserting registry_schema no_references trees old.step_limit unlimited name tree key_column primary uniques orders columns params childless terms width

  abbrev adding : List Row → Edit
  adding news = record { table = table; gone = []; news = news }

  abbrev Stopped : Option Error → Type 0
  Stopped = Stops registry_schema no_references trees growing

  module _ (new_rows : growing.news ≡ r ∷ s ∷ []) (obeys : IsTrue old.is_open → Obeys trees (adding (r ∷ s ∷ []))) (one_stored : IsSmall r → ¬ IsOversized registry_schema table r) (two_stored : IsSmall s → ¬ IsOversized registry_schema table s) where
    too_big : Stopped None → IsSmall r × IsSmall s → ⊥
    too_big h small = elim (subst (λ news. Has news h.0) new_rows h.1) [
      | inl same ↦ one_stored small.0 (subst (IsOversized registry_schema table) same h.2)
      | inr (inl same) ↦ two_stored small.1 (subst (IsOversized registry_schema table) same h.2)
      | inr (inr none) ↦ none
    ]

    -- under rowids that a column keeps
    pub adding_both_fails : have_small_rowids (r ∷ s ∷ []) ≡ true → FailsOnly (λ e. IsTooBig e × (IsSmall r × IsSmall s → ⊥)) sql params old new
    adding_both_fails small (Ok count) ran = tt
    adding_both_fails small (Err e) ran = elim (adding_ends adds found childless params are_given fits old new has unlimited e ran) [
      | inl fault ↦ inl fault
      | inr (inl big) ↦ inr (big.0, too_big big.1)
      | inr (inr broken) ↦
          let why = only_for_rowid trees (adding growing.news) (rules_hold old has live broken.0) (subst (λ news. Obeys trees (adding news)) (sym new_rows) (obeys broken.0)) broken.1.0 broken.1.2 in
          absurd (true≢false (sym small ∙ subst (λ news. have_small_rowids news ≡ false) new_rows why.1))
    ]

-- ---- piece

abbrev pub pair_text : List ℕ
pair_text = codes "INSERT INTO piece (first, last, lot, kind, account, act) VALUES (?1, ?2, ?3, ?4, ?5, ?6), (?7, ?8, ?9, ?10, ?11, ?12)"

abbrev pair_terms : List Term
pair_terms = col 0 0 ∷ lit Null ∷ col 0 1 ∷ col 0 2 ∷ col 0 3 ∷ col 0 4 ∷ col 0 5 ∷ col 0 6 ∷ lit Null ∷ col 0 7 ∷ col 0 8 ∷ col 0 9 ∷ col 0 10 ∷ col 0 11 ∷ []

pair_adds : Adds pair_text 6 pair_terms 7 12
unfolding understood everything
pair_adds = record { is = refl; plain = (refl, refl); whole = refl }

pub pair_live : KeepsLive pair_text
pair_live = keeps_live pair_text _ pair_adds.is pair_adds.plain refl

abbrev pub pair_columns : PieceRow → PieceRow → Row
pair_columns x y = piece_columns x ++ piece_columns y

pub inserts_pair : (old new : State) (t : Tables) (x y : PieceRow) (r : Result ℕ Error) → Stands old.now t → Executes pair_text (pair_columns x y) old new r → OnOk r (Stands new.now (with_piece (with_piece t x) y))
inserts_pair old new t x y r it =
    adds_both pair_adds refl (λ _ _. refl) (pair_columns x y) old new piece_row piece_key (λ _. refl) t.pieces x y it.pieces it.schema (simp (cast_null, cast_int) refl) (with_piece (with_piece t x) y)
    (λ schema others. pieces_stand old.now new.now t it schema others _) r

may_stand : (db : Trees) (x : PieceRow) → MayStand db piece (piece_row x)
may_stand db x = record { typed = refl; present = refl; checked = refl; keyed = refl }

pub pair_fails : (old new : State) (t : Tables) (x y : PieceRow) → x.first < 2 ^ 63 → y.first < 2 ^ 63 → Stands old.now t → IsLive old → old.step_limit ≡ None
    → (get_by piece_key t.pieces (pos x.first) ≡ None) × (get_by piece_key (with_piece t x).pieces (pos y.first) ≡ None)
    → FailsOnly (λ e. IsTooBig e × (IsSmall (piece_row x) × IsSmall (piece_row y) → ⊥)) pair_text (pair_columns x y) old new
pair_fails old new t x y low high it live unlimited free =
    let rows = old.now.trees 10 in
    let one = not_there piece_row piece_key (λ _. refl) rows t.pieces x it.pieces.are free.0 in
    let two = not_there piece_row piece_key (λ _. refl) (put_row (piece_row x) rows) (insert_by piece_key t.pieces x) y (puts piece_key piece_row (λ _. refl) rows t.pieces x it.pieces.are) free.1 in
    adding_both_fails pair_adds refl (λ _ _. refl) (pair_columns x y) refl refl old new it.schema unlimited live (piece_row x) (piece_row y) (simp (cast_null, cast_int) refl)
    (λ _. both_join old.now.trees piece (piece_row x) (piece_row y) refl (may_stand _ x) (may_stand _ y) one two (all_of _ (λ _. refl) _))
    (piece_stored x) (piece_stored y) (both_hold _ _ (lt-ltb _ _ low) (lt-ltb _ _ high))
