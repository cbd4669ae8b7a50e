-- Why an UPDATE or a DELETE of our tables fails, whose query finds one row at most.
use Rattle.std.proofs.Common.{◌≡◌, inl, inr, ℕ, ℤ, List, [], ◌∷◌, map, filter, cond, slice_get, Option, Some, None, Ok, Err, Bool, true, false, IsTrue, refl, sym, ap, subst, subst₂, ◌∙◌, true≢false}
use Rattle.std.specs.Prelude.{⊤}
use Rattle.std.specs.List.{AllByRecursion}
use Rattle.std.proofs.lemmas.Bool.{and_parts}
use Rattle.sqlite.specs.declared.error.Error.{Error}
use Rattle.sqlite.specs.declared.error.Error.TheVariants.{SqliteFailure}
use Rattle.sqlite.specs.declared.error.ErrorCode.TheVariants.{NoRowid}
use Rattle.sqlite.specs.declared.types.Value.TheVariants.{Int}
use Rattle.sqlite.specs.Order.{Row}
use Rattle.sqlite.specs.Query.{Query}
use Rattle.sqlite.specs.Table.{Table}
use Rattle.sqlite.specs.Tree.{Trees, rowid, put_row, without_rowid}
use Rattle.sqlite.specs.Command.TheVariants.{Update, Delete}
use Rattle.sqlite.specs.Edit.{Edit, id_in, edit_of, edited}
use Rattle.sqlite.specs.Rowids.TheVariants.{Given}
use Rattle.sqlite.specs.Ops.{fits_i64}
use Rattle.sqlite.specs.Listing.{understood}
use Rattle.sqlite.specs.Rows.{Updates, Deletes}
use Rattle.sqlite.specs.Does.{Does, AtPlace, OnRows}
use Rattle.sqlite.specs.Effect.{Answers, edit_error}
use Rattle.sqlite.specs.State.{State, mode_of, IsLive, ExecutesInside}
use Rattle.sqlite.proofs.Callers.{IsPlain, command_of}
use Rattle.sqlite_rules.specs.Action.{works}
use Rattle.sqlite_rules.specs.Calls.{ids_of}
use Rattle.sqlite_rules.specs.Lists.{Has}
use Rattle.sqlite_rules.specs.Edit.{IsOversized}
use Rattle.sqlite_rules.proofs.ListLemmas.{all_has, test_from}
use Rattle.sqlite_keyed.proofs.ListLemmas.{all_map, all_weaker}
use Rattle.sqlite_rules.specs.Cast.{cast_row}
use Rattle.sqlite_schema.specs.declared.schema.Column.{Column}
use Rattle.sqlite_schema.specs.declared.schema.Keys.TheVariants.{Enforced}
use Rattle.sqlite_value.specs.declared.keys.Order.{Order}
use Rattle.goo_tables_rows.specs.Columns.{registry_schema, strict_table}
use Rattle.goo_tables_rows.specs.Once.{IsOnce}
use Rattle.goo_tables_rows.specs.Refused.{IsTooBig, IsTooBigOrFull, IsSmall, is_suited}
use Rattle.goo_tables_rows.proofs.Failing.{EndsBy, StopsAt, whole_query, updated, deleted, on_rows, failed}
use Rattle.goo_tables_rows.proofs.Updating.{shown_update, ids_gone, rows_put}
use Rattle.goo_tables_rows.proofs.Obeying.{Obeys, MayStand, AreUnique, no_references, leaves, replaces, only_for_rowid, have_small_rowids}
use Rattle.goo_tables_accounts.proofs.Failing.{FailsOnly, rules_hold}

-- ---- an UPDATE of one row

pub kept_pass : {X : Type 0} (p : X → Bool) (xs : List X) → AllByRecursion (λ x. p x ≡ true) (filter p xs)
kept_pass p [] = tt
kept_pass {X} p (x ∷ xs) = go (p x) refl (kept_pass p xs)
  where
    go : (b : Bool) → p x ≡ b → AllByRecursion (λ y. p y ≡ true) (filter p xs) → AllByRecursion (λ y. p y ≡ true) (cond b (x ∷ filter p xs) (filter p xs))
    go true e more = (e, more)
    go false e more = more

module _ {X : Type 0} (key : X → ℤ) (to_row : X → Row) (keyed : (x : X) → rowid (to_row x) ≡ Int (key x)) (table : Table) (bare : table.references ≡ []) (casts : (x : X) → cast_row table (to_row x) ≡ to_row x)
    (p : X → Bool) (f : X → X) (keeps : (x : X) → key (f x) ≡ key x) (db : Trees) (xs : List X) (once : IsOnce (filter p xs)) (rows : List Row)
    (shown : rows ≡ map (shown_update key to_row keyed table casts p f keeps) (filter p xs)) where
  abbrev changing : List ℤ → List Row → Edit
  changing gone news = record { table = table; gone = gone; news = news }

  abbrev pub update_edit : Edit
  update_edit = edit_of db table (ids_of rows) Given 1 rows

  on_those : (P : List ℤ → List Row → Type 0) → P (map key (filter p xs)) (map to_row (map f (filter p xs))) → P (ids_of rows) update_edit.news
  on_those P h = subst₂ P (sym (ids_gone key to_row keyed table casts p f keeps xs rows shown)) (sym (rows_put key to_row keyed table casts p f keeps db xs rows shown)) h

  module _ (stands : (x : X) → MayStand db table (to_row (f x))) (was : AreUnique table.tree (db table.tree))
      (unique : (x : X) → filter p xs ≡ x ∷ [] → AreUnique table.tree (put_row (to_row (f x)) (without_rowid (key x) (db table.tree)))) where
    obeyed : IsOnce (filter p xs) → Obeys db (changing (map key (filter p xs)) (map to_row (map f (filter p xs))))
    obeyed (inl none) = subst (λ l. Obeys db (changing (map key l) (map to_row (map f l)))) (sym none) (leaves db table [] was)
    obeyed (inr (x, one)) =
        subst (λ l. Obeys db (changing (map key l) (map to_row (map f l)))) (sym one) (replaces db table (key x) (to_row (f x)) bare (keyed (f x) ∙ ap Int (keeps x)) (stands x) (unique x one))

    pub update_obeys : Obeys db update_edit
    update_obeys = on_those (λ gone news. Obeys db (changing gone news)) (obeyed once)

  -- the rowid is one that a column keeps
  pub update_small : ((x : X) → p x ≡ true → fits_i64 (key x) ≡ true) → have_small_rowids update_edit.news ≡ true
  update_small fits = on_those (λ gone news. have_small_rowids news ≡ true) (go (filter p xs) once (kept_pass p xs))
    where
      go : (ys : List X) → IsOnce ys → AllByRecursion (λ x. p x ≡ true) ys → have_small_rowids (map to_row (map f ys)) ≡ true
      go ys (inl none) pass = rw none refl
      go ys (inr (x, one)) pass =
          let small : fits_i64 (id_in (rowid (to_row (f x)))) ≡ true = rw (keyed (f x), keeps x) (fits x (subst (AllByRecursion (λ y. p y ≡ true)) one pass).0) in
          rw (one, small) refl

  -- each row is small as it will be
  pub update_stored : ((x : X) → IsSmall (to_row (f x)) → ¬ IsOversized registry_schema table (to_row (f x))) → AllByRecursion (λ x. IsSmall (to_row (f x))) (filter p xs) → (r : Row) → Has update_edit.news r → ¬ IsOversized registry_schema table r
  update_stored stored small r has =
      let fits : Row → Type 0 = λ r. ¬ IsOversized registry_schema table r in
      all_has fits update_edit.news r (on_those (λ gone news. AllByRecursion fits news) (all_map fits to_row _ (all_map (λ y. fits (to_row y)) f _ (all_weaker (λ x. IsSmall (to_row (f x))) (λ x. fits (to_row (f x))) stored _ small)))) has

  -- each rowid is one that a column keeps
  pub update_kept : AllByRecursion (λ x. fits_i64 (id_in (rowid (to_row (f x)))) ≡ true) (filter p xs) → have_small_rowids update_edit.news ≡ true
  update_kept fit =
      let fits : Row → Type 0 = λ r. fits_i64 (id_in (rowid r)) ≡ true in
      test_from (λ r. fits_i64 (id_in (rowid r))) update_edit.news (λ r has. all_has fits update_edit.news r (on_those (λ gone news. AllByRecursion fits news) (all_map fits to_row _ (all_map (λ y. fits (to_row y)) f _ fit))) has)

-- ---- the statements

module _ (sql : List ℕ) (at : ℕ) (q : Query) {tree : ℕ} {name : List ℕ} {key_column : Option ℕ} {primary : List ℕ} {uniques : List (List ℕ)} {orders : List Order} {columns : List Column}
    (found : slice_get registry_schema.tables at ≡ Some (strict_table name tree key_column primary uniques orders columns)) (childless : (olds news : List Row) → works registry_schema Enforced 0 tree olds news ≡ [])
    (plain : IsPlain (understood registry_schema sql)) (params : Row) (suits : is_suited registry_schema sql q params ≡ true) (old new : State) (has : old.now.schema ≡ registry_schema) (unlimited : old.step_limit ≡ None)
    (live : IsLive old) where
  abbrev table : Table
  table = strict_table name tree key_column primary uniques orders columns

  abbrev trees : Trees
  trees = old.now.trees

  abbrev Asked : List Row → Type 0
  Asked rows = Answers (record { schema = registry_schema; trees = trees }) (whole_query q) params rows

  abbrev Stopped : (List Row → Edit) → Option Error → Type 0
  Stopped = StopsAt registry_schema no_references trees old.step_limit unlimited name tree key_column primary uniques orders columns params childless q

  module _ (edit : List Row → Edit) (obeys : IsTrue old.is_open → (rows : List Row) → Asked rows → Obeys trees (edit rows)) where
    refused : (e : Error) → IsTrue old.is_open → (h : Stopped edit (Some e)) → (e ≡ SqliteFailure NoRowid) × (have_small_rowids (edit h.0).news ≡ false)
    refused e is_open h =
        let why = only_for_rowid trees (edit h.0) (rules_hold old has live is_open) (obeys is_open h.0 h.1) h.2.0 h.2.2 in
        (h.2.1 ∙ ap edit_error why.0, why.1)

  module _ (is : command_of (understood registry_schema sql) ≡ Update at (whole_query q)) where
    abbrev pub updating : List Row → Edit
    updating rows = edit_of trees table (ids_of rows) Given 1 rows

    update_stops : (text : List ℕ) (stop : Option Error) → Does old.step_limit (mode_of old) params (record old.now { schema = registry_schema }) text None (Update at (whole_query q)) (Err stop) → Stopped updating stop
    update_stops text stop h =
        let parts = and_parts _ _ (and_parts _ _ suits).1 in
        let shape = and_parts _ _ parts.1 in
        on_rows registry_schema no_references trees old.step_limit unlimited name tree key_column primary uniques orders columns params childless (mode_of old)
        (Updates (record { limit = old.step_limit; keys = Enforced; schema = registry_schema; table = table; params = params }) (whole_query q) params trees) (Stopped updating)
        (updated registry_schema no_references trees old.step_limit unlimited name tree key_column primary uniques orders columns params childless q parts.0 shape.0 shape.1) stop
        (subst (λ f. AtPlace (λ t. OnRows (record { limit = old.step_limit; keys = Enforced; schema = registry_schema; table = t; params = params }) (mode_of old) None (Update at (whole_query q)) trees) f (Err stop)) found h)

    updating_ends : (e : Error) → ExecutesInside 0 sql params old new (Err e) → EndsBy old new (Stopped updating) e
    updating_ends = failed registry_schema sql params old new has plain (and_parts _ _ suits).0 (Update at (whole_query q)) is refl (Stopped updating) update_stops

    module _ (obeys : IsTrue old.is_open → (rows : List Row) → Asked rows → Obeys trees (updating rows)) (Room : Type 0)
        (stored : Room → (rows : List Row) → Asked rows → (r : Row) → Has (updating rows).news r → ¬ IsOversized registry_schema table r) where
      too_big : Stopped updating None → Room → ⊥
      too_big h room = stored room h.0 h.1 h.2.0 h.2.1 h.2.2

      pub updating_fails : ((rows : List Row) → Asked rows → have_small_rowids (updating rows).news ≡ true) → FailsOnly (λ e. IsTooBig e × (Room → ⊥)) sql params old new
      updating_fails small (Ok count) ran = tt
      updating_fails small (Err e) ran = elim (updating_ends e ran) [
        | inl fault ↦ inl fault
        | inr (inl big) ↦ inr (big.0, too_big big.1)
        | inr (inr broken) ↦ absurd (true≢false (sym (small broken.1.0 broken.1.1) ∙ (refused updating obeys e broken.0 broken.1).1))
      ]

      -- under a rowid that a column may not keep
      pub updating_kept_fails : (Room → (rows : List Row) → Asked rows → have_small_rowids (updating rows).news ≡ true) → FailsOnly (λ e. IsTooBigOrFull e × (Room → ⊥)) sql params old new
      updating_kept_fails small (Ok count) ran = tt
      updating_kept_fails small (Err e) ran = elim (updating_ends e ran) [
        | inl fault ↦ inl fault
        | inr (inl big) ↦ inr (inl big.0, too_big big.1)
        | inr (inr broken) ↦ let why = refused updating obeys e broken.0 broken.1 in inr (inr why.0, λ room. true≢false (sym (small room broken.1.0 broken.1.1) ∙ why.1))
      ]

  module _ (is : command_of (understood registry_schema sql) ≡ Delete at (whole_query q)) where
    abbrev pub deleting : List Row → Edit
    deleting rows = edit_of trees table (ids_of rows) Given 0 []

    delete_stops : (text : List ℕ) (stop : Option Error) → Does old.step_limit (mode_of old) params (record old.now { schema = registry_schema }) text None (Delete at (whole_query q)) (Err stop) → Stopped deleting stop
    delete_stops text stop h =
        let parts = and_parts _ _ (and_parts _ _ suits).1 in
        let shape = and_parts _ _ parts.1 in
        on_rows registry_schema no_references trees old.step_limit unlimited name tree key_column primary uniques orders columns params childless (mode_of old)
        (Deletes (record { limit = old.step_limit; keys = Enforced; schema = registry_schema; table = table; params = params }) (whole_query q) trees) (Stopped deleting)
        (deleted registry_schema no_references trees old.step_limit unlimited name tree key_column primary uniques orders columns params childless q parts.0 shape.0 shape.1) stop
        (subst (λ f. AtPlace (λ t. OnRows (record { limit = old.step_limit; keys = Enforced; schema = registry_schema; table = t; params = params }) (mode_of old) None (Delete at (whole_query q)) trees) f (Err stop)) found h)

    deleting_ends : (e : Error) → ExecutesInside 0 sql params old new (Err e) → EndsBy old new (Stopped deleting) e
    deleting_ends = failed registry_schema sql params old new has plain (and_parts _ _ suits).0 (Delete at (whole_query q)) is refl (Stopped deleting) delete_stops

    pub deleting_fails : ((rows : List Row) → AreUnique tree (edited trees (deleting rows))) → FailsOnly (λ _. ⊥ × (⊤ → ⊥)) sql params old new
    deleting_fails unique (Ok count) ran = tt
    deleting_fails unique (Err e) ran = elim (deleting_ends e ran) [
      | inl fault ↦ inl fault
      | inr (inl big) ↦ absurd big.1.2.1
      | inr (inr broken) ↦ absurd (true≢false (refused deleting (λ _ rows _. leaves trees table (ids_of rows) (unique rows)) e broken.0 broken.1).1)
    ]
