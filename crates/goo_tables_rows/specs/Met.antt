-- Tables that are met as they are: what is asked of them, and when the rows read are theirs.
use Rattle.std.specs.Prelude.{◌≡◌, ℕ, ℤ, pos, List, [], ◌∷◌, map}
use Rattle.std.specs.List.{AllByRecursion}
use Rattle.sqlite.specs.declared.types.Value.TheVariants.{Int}
use Rattle.sqlite.specs.Order.{Row}
use Rattle.sqlite.specs.Table.{Table}
use Rattle.sqlite.specs.Effect.{Database, IsDatabase}
use Rattle.sqlite.specs.Edit.{id_in}
use Rattle.sqlite_trees.specs.declared.store.Shape.TheVariants as shape
use Rattle.sqlite_trees.specs.View.{IsShaped}
use Rattle.goo_tables_rows.specs.Columns.{registry_schema}
use Rattle.goo_tables_rows.specs.Rows.{Kept, kept_key}
use Rattle.goo_tables_rows.specs.Stands.{Keeps}

-- the rows of each table have rising rowids, as SQLite keeps them
abbrev pub IsInKeyOrder : Database → Type 0
IsInKeyOrder db = AllByRecursion (λ (t : Table). IsShaped shape.Table (db.trees t.tree)) db.schema.tables

-- The tables with the keys and checks that `create_tables` gives them, and whatever rows.
-- `sound` is what each open connection says of itself (`Connection::schema`).
pub record HasOurTables (db : Database) : Type 0 where
  pub schema : db.schema ≡ registry_schema
  pub ordered : IsInKeyOrder db
  pub sound : IsDatabase db

-- a row as its rowid and its columns
abbrev pub Keyed : Type 0
Keyed = ℤ × Row

abbrev pub whole : Keyed → Row
whole k = Int k.0 ∷ k.1

abbrev pub keyed_of : Row → Keyed
keyed_of [] = (pos 0, [])
keyed_of (v ∷ vs) = (id_in v, vs)

abbrev pub all_keyed : Database → ℕ → List Keyed
all_keyed db tree = map keyed_of (db.trees tree)

-- the rows of a table are these, under some rowids that rise
abbrev pub KeepsSome : {X : Type 0} → List Row → (Kept X → Row) → List X → Type 0
KeepsSome {X} rows to_row xs = (ks : List (Kept X)) × Keeps rows to_row kept_key ks × (map (λ (k : Kept X). k.1) ks ≡ xs)
