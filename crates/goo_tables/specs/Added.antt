-- A database of version 1, after each text that adds a table to it.
use Rattle.std.specs.Prelude.{◌≡◌, [], drop, take}
use Rattle.std.specs.List.{AllByRecursion}
use Rattle.sqlite.specs.Table.{Table}
use Rattle.sqlite.specs.Schema.{Schema}
use Rattle.sqlite.specs.Change.{KeepsRows}
use Rattle.sqlite.specs.Effect.{Database}
use Rattle.goo_tables_rows.specs.Columns.{registry_tables}

-- tables were added to one of version 1, each without a row
pub record IsGrown (schema : Schema) (first db : Database) : Type 0 where
  pub schema_is : db.schema ≡ schema
  pub kept : KeepsRows (take 13 registry_tables) first.trees db.trees
  pub bare : AllByRecursion (λ (t : Table). db.trees t.tree ≡ []) (drop 13 schema.tables)
