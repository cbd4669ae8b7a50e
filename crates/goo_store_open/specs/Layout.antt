-- Tables of either version, as tables of version 2.
use Rattle.std.specs.Prelude.{ℕ}
use Rattle.sqlite.specs.Schema.{Schema}
use Rattle.sqlite.specs.Effect.{Database}
use Rattle.goo_tables_rows.specs.Columns.{registry_schema, first_schema}
use Rattle.goo_tables_rows.specs.Met.{HasOurTables}
use Rattle.goo_tables_rows.specs.First.{HasFirstTables, with_none}
use Rattle.goo_store_open.specs.declared.layout.Layout.{Layout}
use Rattle.goo_store_open.specs.declared.layout.Layout.TheVariants.{First, Ours}

-- the version that their row of `meta` tells
abbrev pub number_of : Layout → ℕ
number_of First = 1
number_of Ours = 2

abbrev pub schema_of : Layout → Schema
schema_of First = first_schema
schema_of Ours = registry_schema

-- the tables with the keys and checks that they were made with, and whatever rows
abbrev pub HasTables : Layout → Database → Type 0
HasTables First = HasFirstTables
HasTables Ours = HasOurTables

-- the database as one of version 2: the tables that it does not have are there without a row
abbrev pub seen_by : Layout → Database → Database
seen_by First db = record { schema = registry_schema; trees = with_none db.trees }
seen_by Ours db = db
