-- Why a change of our tables fails.
use Rattle.std.proofs.Common.{◌≡◌, ◌⊎◌, inl, inr, ℕ, ℤ, List, [], ◌∷◌, map, length, slice_get, Option, Some, None, find, is_some, Ok, Err, Result, Bool, true, false, not, cond, ◌&&◌, IfErr, IsTrue, refl, sym, ap, ap₂, subst, ◌∙◌, int_eq, true≢false}
use Rattle.std.specs.List.{AllByRecursion}
use Rattle.std.specs.Ordering.{is_eq}
use Rattle.sqlite.specs.declared.error.Error.{Error}
use Rattle.sqlite.specs.declared.types.Value.TheVariants.{Int}
use Rattle.sqlite.specs.Order.{Row}
use Rattle.sqlite.specs.Term.{Term}
use Rattle.sqlite.specs.Table.{Table}
use Rattle.sqlite.specs.Tree.{Trees, rowid}
use Rattle.sqlite.specs.Source.TheVariants.{Values}
use Rattle.sqlite.specs.Command.TheVariants.{Insert}
use Rattle.sqlite.specs.Edit.{Edit, id_in, next_rowid}
use Rattle.sqlite.specs.Ops.{fits_i64}
use Rattle.sqlite.specs.Listing.{understood}
use Rattle.sqlite.specs.Rows.{Inserts}
use Rattle.sqlite.specs.Does.{Does, AtPlace, OnRows}
use Rattle.sqlite.specs.Effect.{edit_error}
use Rattle.sqlite.specs.declared.error.Error.TheVariants.{SqliteFailure}
use Rattle.sqlite.specs.declared.error.ErrorCode.TheVariants.{NoRowid}
use Rattle.sqlite.specs.State.{State, mode_of, IsLive, ExecutesInside}
use Rattle.sqlite_rules.specs.Action.{works}
use Rattle.sqlite_rules.specs.Lists.{Has}
use Rattle.sqlite_rules.specs.Edit.{is_taken, IsOversized}
use Rattle.sqlite_schema.specs.declared.schema.Column.{Column}
use Rattle.sqlite_schema.specs.declared.schema.Constraint.TheVariants.{Unique}
use Rattle.sqlite_schema.specs.declared.schema.Keys.TheVariants.{Enforced}
use Rattle.sqlite_schema.specs.declared.schema.Schema.{Schema}
use Rattle.sqlite_schema.specs.Rules.{Keeps as KeepsRule, agree, clashes}
use Rattle.sqlite_typing.specs.Types.{accepts_terms}
use Rattle.sqlite_value.specs.declared.keys.Order.{Order}
use Rattle.sqlite_value.specs.Order.{value_cmp}
use Rattle.sqlite_value.proofs.OrderLemmas.{value_cmp-Int}
use Rattle.sqlite_keyed.specs.Keyed.{get_by, has_key, next_key}
use Rattle.sqlite_keyed.proofs.ListLemmas.{all_map, all_weaker, all-slice_get}
use Rattle.sqlite_value.specs.Keys.{plain}
use Rattle.goo_tables_rows.specs.Columns.{registry_schema, strict_table}
use Rattle.goo_tables_rows.specs.Refused.{IsFault, IsTooBig, IsTooBigOrFull, IsSmall, CanBeKept, is_whole}
use Rattle.goo_tables_rows.proofs.Failing.{EndsBy, Stops, inserting, inserted, on_rows, failed}
use Rattle.goo_tables_rows.proofs.Obeying.{Obeys, MayJoin, MayStand, unique_among, AreUnique, no_references, joins, only_for_rowid, have_small_rowids}
use Rattle.goo_tables_rows.proofs.Distinct.{stays_apart}
use Rattle.goo_tables_rows.proofs.Typed.{next_is}
use Rattle.goo_tables_rows.specs.Rows.{Kept, kept_key}
use Rattle.goo_tables_rows.specs.Stands.{Keeps}
use Rattle.goo_tables_accounts.proofs.Adding.{Adds}

-- what the text answers, if not a count
abbrev pub FailsOnly : (Error → Type 0) → List ℕ → Row → State → State → Type 0
FailsOnly May sql params old new = (q : Result ℕ Error) → ExecutesInside 0 sql params old new q → IfErr q (λ e. IsFault old new e ⊎ May e)

-- the UNIQUE columns of an open database are unique
pub rules_hold : (s : State) → s.now.schema ≡ registry_schema → IsLive s → IsTrue s.is_open → KeepsRule Unique registry_schema s.now.trees
rules_hold s has live is_open = subst (λ (schema : Schema). KeepsRule Unique schema s.now.trees) has ((live is_open).0.obeys.rules Unique)

-- ---- a rowid that no row has

module _ {Y : Type 0} (row : Y → Row) (key : Y → ℤ) (keyed : (y : Y) → rowid (row y) ≡ Int (key y)) where
  same_rowid : (x y : Y) → is_eq (value_cmp (rowid (row x)) (rowid (row y))) ≡ int_eq (key x) (key y)
  same_rowid x y = ap is_eq (ap₂ value_cmp (keyed x) (keyed y) ∙ value_cmp-Int (key x) (key y))

  pub not_taken : (ys : List Y) (y : Y) → has_key key ys (key y) ≡ false → is_taken (map row ys) (row y) ≡ false
  not_taken [] y free = refl
  not_taken (x ∷ ys) y free = go (int_eq (key x) (key y)) refl free (not_taken ys y)
    where
      go : (b : Bool) → int_eq (key x) (key y) ≡ b → is_some (cond b (Some x) (get_by key ys (key y))) ≡ false → (has_key key ys (key y) ≡ false → is_taken (map row ys) (row y) ≡ false) → is_taken (map row (x ∷ ys)) (row y) ≡ false
      go true e h more = absurd (true≢false h)
      go false e h more = rw (same_rowid x y ∙ e) (more h)

  pub not_there : (rows : List Row) (ys : List Y) (y : Y) → rows ≡ map row ys → get_by key ys (key y) ≡ None → is_taken rows (row y) ≡ false
  not_there rows ys y are free = subst (λ l. is_taken l (row y) ≡ false) (sym are) (not_taken ys y (ap is_some free))

-- ---- values that no row has

pub none_pass : {Y : Type 0} (p : Y → Bool) (ys : List Y) → find p ys ≡ None → AllByRecursion (λ y. p y ≡ false) ys
none_pass p [] none = tt
none_pass {Y} p (y ∷ ys) none = go (p y) refl none (none_pass p ys)
  where
    go : (b : Bool) → p y ≡ b → cond b (Some y) (find p ys) ≡ None → (find p ys ≡ None → AllByRecursion (λ z. p z ≡ false) ys) → AllByRecursion (λ z. p z ≡ false) (y ∷ ys)
    go true e h more = absurd cc
    go false e h more = (e, more h)

no_twin : {Y : Type 0} (row : Y → Row) (places : List ℕ) (new : Row) (p : Y → Bool) → ((y : Y) → p y ≡ false → agree plain places (row y) places new ≡ false) → (rows : List Row) (ys : List Y) → rows ≡ map row ys → find p ys ≡ None
    → AllByRecursion (λ r. agree plain places r places new ≡ false) rows
no_twin row places new p apart rows ys are none =
    subst (AllByRecursion (λ r. agree plain places r places new ≡ false)) (sym are) (all_map _ row ys (all_weaker _ (λ y. agree plain places (row y) places new ≡ false) apart ys (none_pass p ys none)))

-- ---- INSERT

module _ {sql : List ℕ} {terms : List Term} {at width given : ℕ} (adds : Adds sql at terms width given) {tree : ℕ} {name : List ℕ} {key_column : Option ℕ} {primary : List ℕ} {uniques : List (List ℕ)} {orders : List Order} {columns : List Column}
    (found : slice_get registry_schema.tables at ≡ Some (strict_table name tree key_column primary uniques orders columns)) (childless : (olds news : List Row) → works registry_schema Enforced 0 tree olds news ≡ [])
    (params : Row) (are_given : length params ≡ given) (fits : accepts_terms terms params ≡ true) (old new : State) (has : old.now.schema ≡ registry_schema) (unlimited : old.step_limit ≡ None) where
  abbrev table : Table
  table = strict_table name tree key_column primary uniques orders columns

  abbrev trees : Trees
  trees = old.now.trees

  abbrev Stopped : Option Error → Type 0
  Stopped = Stops registry_schema no_references trees (inserting registry_schema no_references trees old.step_limit unlimited name tree key_column primary uniques orders columns params childless terms width)

  insert_stops : (text : List ℕ) (stop : Option Error) → Does old.step_limit (mode_of old) params (record old.now { schema = registry_schema }) text None (Insert at (Values terms width)) (Err stop) → Stopped stop
  insert_stops text stop h =
      on_rows registry_schema no_references trees old.step_limit unlimited name tree key_column primary uniques orders columns params childless (mode_of old)
      (Inserts (record { limit = old.step_limit; keys = Enforced; schema = registry_schema; table = table; params = params }) (Values terms width) trees) Stopped
      (inserted registry_schema no_references trees old.step_limit unlimited name tree key_column primary uniques orders columns params childless terms width fits) stop
      (subst (λ f. AtPlace (λ t. OnRows (record { limit = old.step_limit; keys = Enforced; schema = registry_schema; table = t; params = params }) (mode_of old) None (Insert at (Values terms width)) trees) f (Err stop)) found h)

  pub adding_ends : (e : Error) → ExecutesInside 0 sql params old new (Err e) → EndsBy old new Stopped e
  adding_ends =
      failed registry_schema sql params old new has adds.plain (subst (λ n. is_whole (length sql) n (understood registry_schema sql) ≡ true) (sym are_given) adds.whole) (Insert at (Values terms width)) adds.is refl Stopped insert_stops

  module _ (live : IsLive old) (row : Row) (new_row : (inserting registry_schema no_references trees old.step_limit unlimited name tree key_column primary uniques orders columns params childless terms width).news ≡ row ∷ []) (joining : IsTrue old.is_open → MayJoin trees table row)
      (stored : IsSmall row → ¬ IsOversized registry_schema table row) where
    abbrev adding : List Row → Edit
    adding news = record { table = table; gone = []; news = news }

    refused : (e : Error) → IsTrue old.is_open → Stopped (Some e) → (e ≡ SqliteFailure NoRowid) × (have_small_rowids (row ∷ []) ≡ false)
    refused e is_open h =
        let why = only_for_rowid trees (adding _) (rules_hold old has live is_open) (subst (λ news. Obeys trees (adding news)) (sym new_row) (joins trees table row refl (joining is_open))) h.0 h.2 in
        (h.1 ∙ ap edit_error why.0, subst (λ news. have_small_rowids news ≡ false) new_row why.1)

    too_big : Stopped None → IsSmall row → ⊥
    too_big h small = elim (subst (λ news. Has news h.0) new_row h.1) [ inl same ↦ stored small (subst (IsOversized registry_schema table) same h.2) | inr none ↦ none ]

    -- under a rowid that a column keeps
    pub adding_fails : fits_i64 (id_in (rowid row)) ≡ true → FailsOnly (λ e. IsTooBig e × (IsSmall row → ⊥)) sql params old new
    adding_fails small (Ok count) ran = tt
    adding_fails small (Err e) ran = elim (adding_ends e ran) [
      | inl fault ↦ inl fault
      | inr (inl big) ↦ inr (big.0, too_big big.1)
      | inr (inr broken) ↦ absurd (true≢false (sym (rw small refl) ∙ (refused e broken.0 broken.1).1))
    ]

    -- under the next rowid
    pub keeping_fails : FailsOnly (λ e. IsTooBigOrFull e × (CanBeKept row → ⊥)) sql params old new
    keeping_fails (Ok count) ran = tt
    keeping_fails (Err e) ran = elim (adding_ends e ran) [
      | inl fault ↦ inl fault
      | inr (inl big) ↦ inr (inl big.0, λ room. too_big big.1 room.0)
      | inr (inr broken) ↦ let why = refused e broken.0 broken.1 in inr (inr why.0, λ room. true≢false (sym (rw room.1 refl) ∙ why.1))
    ]

  -- into a table with one unique index, where no row has these values in its columns
  module _ (live : IsLive old) (places : List ℕ) (indexed : (rows : List Row) (r : Row) → unique_among rows tree r ≡ (not (clashes plain places rows r) && true)) {Y : Type 0} (to_row : Y → Row) (key : Y → ℤ)
      (keyed : (y : Y) → rowid (to_row y) ≡ Int (key y)) (ys : List Y) (keeps : Keeps (trees tree) to_row key ys) (p : Y → Bool) (unmet : find p ys ≡ None) where
    module _ (y : Y) (new_row : (inserting registry_schema no_references trees old.step_limit unlimited name tree key_column primary uniques orders columns params childless terms width).news ≡ to_row y ∷ [])
        (apart : (z : Y) → p z ≡ false → agree plain places (to_row z) places (to_row y) ≡ false) (stands : MayStand trees table (to_row y)) (free : has_key key ys (key y) ≡ false)
        (stored : IsSmall (to_row y) → ¬ IsOversized registry_schema table (to_row y)) where
      joining : IsTrue old.is_open → MayJoin trees table (to_row y)
      joining is_open = record {
        typed = stands.typed;
        present = stands.present;
        checked = stands.checked;
        free = subst (λ l. is_taken l (to_row y) ≡ false) (sym keeps.are) (not_taken to_row key keyed ys y free);
        unique = stays_apart places (to_row y) (key y) (keyed y) tree indexed (trees tree) (no_twin to_row places (to_row y) p apart (trees tree) ys keeps.are unmet)
            (all-slice_get (λ (t : Table). AreUnique t.tree (trees t.tree)) registry_schema.tables at table found (rules_hold old has live is_open));
        keyed = stands.keyed;
      }

      pub distinct_fails : fits_i64 (key y) ≡ true → FailsOnly (λ e. IsTooBig e × (IsSmall (to_row y) → ⊥)) sql params old new
      distinct_fails small = adding_fails live (to_row y) new_row joining stored (rw (keyed y) small)

      pub distinct_kept_fails : FailsOnly (λ e. IsTooBigOrFull e × (CanBeKept (to_row y) → ⊥)) sql params old new
      distinct_kept_fails = keeping_fails live (to_row y) new_row joining stored

-- the row under the next rowid
pub next_row : {X : Type 0} (shown : X → Row) (rows : List Row) (ks : List (Kept X)) (x : X) → rows ≡ map (λ (k : Kept X). Int k.0 ∷ shown k.1) ks → (Int (next_rowid rows) ∷ shown x) ∷ [] ≡ (Int (next_key kept_key ks) ∷ shown x) ∷ []
next_row {X} shown rows ks x are = ap (λ n. (Int n ∷ shown x) ∷ []) (ap next_rowid are ∙ next_is kept_key (λ (k : Kept X). Int k.0 ∷ shown k.1) (λ _. refl) ks)
