-- The texts that make the tables, and what the schema is after so many of them.
use Rattle.std.specs.Prelude.{◌≡◌, ℕ, List, [], ◌∷◌, codes, take}
use Rattle.std.specs.List.{AllByRecursion}
use Rattle.sqlite.specs.Table.{Table}
use Rattle.sqlite.specs.Schema.{Schema}
use Rattle.sqlite.specs.Effect.{Database}
use Rattle.goo_tables_rows.specs.Columns.{registry_tables, registry_indexes}

abbrev pub create_texts : List (List ℕ)
create_texts =
    codes "CREATE TABLE meta (id INTEGER PRIMARY KEY, version INTEGER NOT NULL, code INTEGER NOT NULL, today TEXT NOT NULL, next_serial INTEGER NOT NULL, next_account INTEGER NOT NULL, next_cancellation INTEGER NOT NULL, next_withdrawal INTEGER NOT NULL, next_notice INTEGER NOT NULL) STRICT"
    ∷ codes "CREATE TABLE holder (code TEXT NOT NULL PRIMARY KEY, name TEXT NOT NULL) STRICT"
    ∷ codes "CREATE TABLE account (number INTEGER PRIMARY KEY, holder TEXT NOT NULL, closed INTEGER NOT NULL) STRICT"
    ∷ codes "CREATE TABLE device (gsrn TEXT NOT NULL PRIMARY KEY, account INTEGER NOT NULL, country TEXT NOT NULL, site TEXT NOT NULL, tech TEXT NOT NULL, source TEXT NOT NULL, capacity_w INTEGER NOT NULL, commissioned TEXT NOT NULL, support TEXT NOT NULL, last_day TEXT, carry INTEGER NOT NULL) STRICT"
    ∷ codes "CREATE TABLE declaration (id INTEGER PRIMARY KEY, device TEXT NOT NULL, first_day TEXT NOT NULL, last_day TEXT NOT NULL, gross INTEGER NOT NULL, aux INTEGER NOT NULL, UNIQUE (device, first_day)) STRICT"
    ∷ codes "CREATE TABLE lot (id INTEGER PRIMARY KEY, origin INTEGER NOT NULL, device TEXT NOT NULL, country TEXT NOT NULL, site TEXT NOT NULL, tech TEXT NOT NULL, source TEXT NOT NULL, capacity_w INTEGER NOT NULL, commissioned TEXT NOT NULL, support TEXT NOT NULL, first_day TEXT NOT NULL, last_day TEXT NOT NULL, expires_on TEXT, issued_on TEXT NOT NULL, UNIQUE (origin, device, first_day)) STRICT"
    ∷ codes "CREATE TABLE piece (first INTEGER PRIMARY KEY, last INTEGER NOT NULL, lot INTEGER NOT NULL, kind INTEGER NOT NULL, account INTEGER NOT NULL, act INTEGER NOT NULL) STRICT"
    ∷ codes "CREATE TABLE peer (code INT NOT NULL PRIMARY KEY) STRICT"
    ∷ codes "CREATE TABLE receipt (caller TEXT NOT NULL, key TEXT NOT NULL, command BLOB NOT NULL, kind INTEGER NOT NULL, n1 INTEGER NOT NULL, n2 INTEGER NOT NULL, n3 INTEGER NOT NULL, PRIMARY KEY (caller, key)) STRICT"
    ∷ codes "CREATE TABLE cancellation (number INTEGER PRIMARY KEY, account INTEGER NOT NULL, first INTEGER NOT NULL, last INTEGER NOT NULL, beneficiary TEXT NOT NULL, use_first TEXT NOT NULL, use_last TEXT NOT NULL, day TEXT NOT NULL) STRICT"
    ∷ codes "CREATE TABLE withdrawal (number INTEGER PRIMARY KEY, first INTEGER NOT NULL, last INTEGER NOT NULL, reason TEXT NOT NULL, day TEXT NOT NULL) STRICT"
    ∷ codes "CREATE TABLE notice_out (number INTEGER PRIMARY KEY, account INTEGER NOT NULL, body TEXT NOT NULL) STRICT"
    ∷ codes "CREATE TABLE notice_in (sender INTEGER NOT NULL, number INTEGER NOT NULL, body TEXT NOT NULL, PRIMARY KEY (sender, number)) STRICT"
    ∷ codes "CREATE INDEX piece_by_account ON piece (account, first)"
    ∷ codes "CREATE INDEX piece_by_kind ON piece (kind, first)"
    ∷ codes "CREATE TABLE correction (id INTEGER PRIMARY KEY, device TEXT NOT NULL, first_day TEXT NOT NULL, less INTEGER NOT NULL, withdrawal INTEGER NOT NULL) STRICT"
    ∷ codes "CREATE TABLE device_carrier (gsrn TEXT NOT NULL PRIMARY KEY, carrier TEXT NOT NULL) STRICT"
    ∷ codes "CREATE TABLE lot_carrier (lot INTEGER PRIMARY KEY, carrier TEXT NOT NULL) STRICT" ∷ []

-- the schema with so many of the tables and of the indexes
abbrev pub begun_schema : ℕ → ℕ → Schema
begun_schema tables indexes = record { tables = take tables registry_tables; indexes = take indexes registry_indexes; views = [] }

-- the schema has tables without a row
pub record IsMade (schema : Schema) (db : Database) : Type 0 where
  pub schema_is : db.schema ≡ schema
  pub bare : AllByRecursion (λ (t : Table). db.trees t.tree ≡ []) schema.tables

-- the schema after each of the texts
abbrev pub stages : List Schema
stages =
    begun_schema 0 0
    ∷ begun_schema 1 0
    ∷ begun_schema 2 1
    ∷ begun_schema 3 1
    ∷ begun_schema 4 2
    ∷ begun_schema 5 3
    ∷ begun_schema 6 4
    ∷ begun_schema 7 4
    ∷ begun_schema 8 5
    ∷ begun_schema 9 6
    ∷ begun_schema 10 6
    ∷ begun_schema 11 6
    ∷ begun_schema 12 6
    ∷ begun_schema 13 7
    ∷ begun_schema 13 8
    ∷ begun_schema 13 9
    ∷ begun_schema 14 9
    ∷ begun_schema 15 10
    ∷ begun_schema 16 10 ∷ []
