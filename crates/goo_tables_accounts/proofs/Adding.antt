-- What an INSERT of one row makes of a table.
use Rattle.std.proofs.Common.{◌≡◌, ◌/◌, ℕ, ℤ, List, [], ◌∷◌, length, slice_get, Option, Some, Ok, Err, Result, OnOk, true, refl, ap, ◌∙◌}
use Rattle.sqlite.specs.declared.error.Error.{Error}
use Rattle.sqlite.specs.declared.types.Value.TheVariants.{Int}
use Rattle.sqlite.specs.Order.{Row}
use Rattle.sqlite.specs.Term.{Term}
use Rattle.sqlite.specs.Tree.{rowid}
use Rattle.sqlite.specs.Source.TheVariants.{Values}
use Rattle.sqlite.specs.Command.TheVariants.{Insert}
use Rattle.sqlite.specs.Edit.{put_all, next_rowid, edit_of, edited}
use Rattle.sqlite.specs.Rowids.TheVariants.{Chosen}
use Rattle.sqlite.specs.Effect.{value_rows}
use Rattle.sqlite.specs.Listing.{understood}
use Rattle.sqlite.specs.State.{State, Executes}
use Rattle.sqlite.proofs.Callers.{IsPlain, command_of}
use Rattle.sqlite_rules.specs.Action.{works}
use Rattle.sqlite_schema.specs.declared.schema.Column.{Column}
use Rattle.sqlite_schema.specs.declared.schema.Keys.TheVariants.{Enforced}
use Rattle.sqlite_value.specs.declared.keys.Order.{Order}
use Rattle.sqlite_keyed.specs.Keyed.{insert_by, next_key}
use Rattle.sqlite_keyed.proofs.KeyedLemmas.{IsKeyedBy-insert_by}
use Rattle.goo_tables_rows.specs.Columns.{registry_schema, strict_table}
use Rattle.goo_tables_rows.specs.Refused.{is_whole}
use Rattle.goo_tables_rows.specs.Rows.{Tables, Kept, kept_key}
use Rattle.goo_tables_rows.specs.Stands.{Stands, Keeps}
use Rattle.goo_tables_rows.proofs.Alone.{IsAlone}
use Rattle.goo_tables_rows.proofs.Typed.{puts, next_is}
use Rattle.goo_tables_rows.proofs.Writing.{inserts}
use Rattle.goo_tables_accounts.specs.Changes.{added}

-- the text adds a row of these values to the table at this place of the schema, for so many parameters
pub record Adds (sql : List ℕ) (at : ℕ) (terms : List Term) (width given : ℕ) : Type 0 where
  pub is : command_of (understood registry_schema sql) ≡ Insert at (Values terms width)
  pub plain : IsPlain (understood registry_schema sql)
  pub whole : is_whole (length sql) given (understood registry_schema sql) ≡ true

module _ {sql : List ℕ} {terms : List Term} {at width given : ℕ} (adds : Adds sql at terms width given) {tree : ℕ} {name : List ℕ} {key_column : Option ℕ} {primary : List ℕ} {uniques : List (List ℕ)} {orders : List Order} {columns : List Column}
    (found : slice_get registry_schema.tables at ≡ Some (strict_table name tree key_column primary uniques orders columns)) (childless : (olds news : List Row) → works registry_schema Enforced 0 tree olds news ≡ [])
    (params : Row) (old new : State) where
  -- the rows of the table with what the text adds to them
  abbrev grown : List Row
  grown = edited old.now.trees (edit_of old.now.trees (strict_table name tree key_column primary uniques orders columns) [] Chosen 0 (value_rows params width (length terms / width) terms))

  module _ {Y : Type 0} (row : Y → Row) (key : Y → ℤ) (keyed : (y : Y) → rowid (row y) ≡ Int (key y)) (ys : List Y) (y : Y) (keeps : Keeps (old.now.trees tree) row key ys) (has : old.now.schema ≡ registry_schema) where
    pub adds_row : grown ≡ put_all (old.now.trees tree) (row y ∷ []) → (after : Tables)
        → (new.now.schema ≡ registry_schema → IsAlone tree old.now.trees new.now.trees → Keeps (new.now.trees tree) row key (insert_by key ys y) → Stands new.now after)
        → (r : Result ℕ Error) → Executes sql params old new r → OnOk r (Stands new.now after)
    adds_row is after stands (Err e) ran = tt
    adds_row is after stands (Ok count) ran =
        let made = inserts registry_schema at name tree key_column primary uniques orders columns found childless sql params old new has adds.plain terms width adds.is count ran in
        stands made.schema_is made.applied.tables (record { are = made.applied.rows ∙ is ∙ puts key row keyed (old.now.trees tree) ys y keeps.are; rise = IsKeyedBy-insert_by key ys y keeps.rise })

  -- under the next rowid
  module _ {X : Type 0} (shown : X → Row) (ys : List (Kept X)) (x : X) (keeps : Keeps (old.now.trees tree) (λ (k : Kept X). Int k.0 ∷ shown k.1) kept_key ys) (has : old.now.schema ≡ registry_schema) where
    pub adds_kept : grown ≡ put_all (old.now.trees tree) ((Int (next_rowid (old.now.trees tree)) ∷ shown x) ∷ []) → (after : Tables)
        → (new.now.schema ≡ registry_schema → IsAlone tree old.now.trees new.now.trees → Keeps (new.now.trees tree) (λ (k : Kept X). Int k.0 ∷ shown k.1) kept_key (added ys x) → Stands new.now after)
        → (r : Result ℕ Error) → Executes sql params old new r → OnOk r (Stands new.now after)
    adds_kept is =
        let row = λ (k : Kept X). Int k.0 ∷ shown k.1 in
        let id = ap next_rowid keeps.are ∙ next_is kept_key row (λ _. refl) ys in
        adds_row row kept_key (λ _. refl) ys (next_key kept_key ys, x) keeps has (is ∙ ap (λ n. put_all (old.now.trees tree) ((Int n ∷ shown x) ∷ [])) id)
