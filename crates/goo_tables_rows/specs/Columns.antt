-- The tables of version 2, as the schema that `create_tables` leaves names them.
use Rattle.std.specs.Prelude.{true, false, Bool, List, [], ◌∷◌, ◌++◌, map, take, codes, Option, Some, None, ℕ, suc}
use Rattle.sqlite.specs.Collation.TheVariants.{Binary}
use Rattle.sqlite.specs.declared.types.Value.TheVariants.{Null}
use Rattle.sqlite.specs.Kind.{Kind}
use Rattle.sqlite.specs.Kind.TheVariants.{Integer, Text, Blob}
use Rattle.sqlite_schema.specs.declared.schema.Column.{Column}
use Rattle.sqlite_schema.specs.declared.schema.Index.{Index}
use Rattle.sqlite_value.specs.Keys.{plain}
use Rattle.sqlite_value.specs.declared.keys.Order.{Order}
use Rattle.sqlite.specs.Table.{Table}
use Rattle.sqlite.specs.Schema.{Schema}

-- ---- columns, each of a STRICT table and with neither DEFAULT nor COLLATE

abbrev pub column_of : Bool → List ℕ → Kind → Column
column_of required name kind = record { name = name; kind = kind; is_strict = true; not_null = required; default = Null; collation = Binary }

abbrev number : List ℕ → Column
number name = column_of true name Integer

abbrev text : List ℕ → Column
text name = column_of true name Text

abbrev bytes : List ℕ → Column
bytes name = column_of true name Blob

abbrev maybe_text : List ℕ → Column
maybe_text name = column_of false name Text

-- an INTEGER PRIMARY KEY, which is the rowid
abbrev number_key : List ℕ → Column
number_key name = column_of false name Integer

-- ---- tables, with neither CHECK, REFERENCES nor AUTOINCREMENT

abbrev pub strict_table : List ℕ → ℕ → Option ℕ → List ℕ → List (List ℕ) → List Order → List Column → Table
strict_table name tree key primary uniques orders columns = record {
  name = name;
  tree = tree;
  columns = columns;
  key = key;
  primary = primary;
  uniques = uniques;
  orders = orders;
  checks = [];
  references = [];
  computed = [];
  stamps = record { places = []; terms = []; formats = [] };
  is_counted = false;
}

-- a table whose first column is the rowid
abbrev pub keyed_by_number : List ℕ → ℕ → List (List ℕ) → List Column → Table
keyed_by_number name tree uniques = strict_table name tree (Some 0) (0 ∷ []) uniques (map (λ _. plain) uniques)

-- a table with another key, and a rowid that no column shows
abbrev pub keyed_by : List ℕ → ℕ → List ℕ → List Column → Table
keyed_by name tree key = strict_table name tree None key (key ∷ []) (plain ∷ [])

-- the index that a UNIQUE or such a PRIMARY KEY makes, in the tree after its table's
abbrev pub index_of : List ℕ → ℕ → List ℕ → Index
index_of name tree columns =
    record { name = codes "sqlite_autoindex_" ++ (name ++ codes "_1"); tree = suc tree; table = tree; columns = columns; order = plain; is_unique = true }

-- an index that a statement of its own makes
abbrev pub index_on : List ℕ → ℕ → ℕ → List ℕ → Index
index_on name tree table columns = record { name = name; tree = tree; table = table; columns = columns; order = plain; is_unique = false }

abbrev pub meta : Table
meta = keyed_by_number (codes "meta") 0 []
    (number_key (codes "id") ∷ number (codes "version") ∷ number (codes "code") ∷ text (codes "today") ∷ number (codes "next_serial") ∷ number (codes "next_account") ∷ number (codes "next_cancellation") ∷ number (codes "next_withdrawal") ∷ number (codes "next_notice") ∷ [])

abbrev pub holder : Table
holder = keyed_by (codes "holder") 1 (1 ∷ [])
    (text (codes "code") ∷ text (codes "name") ∷ [])

abbrev pub account : Table
account = keyed_by_number (codes "account") 3 []
    (number_key (codes "number") ∷ text (codes "holder") ∷ number (codes "closed") ∷ [])

abbrev pub device : Table
device = keyed_by (codes "device") 4 (1 ∷ [])
    (text (codes "gsrn") ∷ number (codes "account") ∷ text (codes "country") ∷ text (codes "site") ∷ text (codes "tech") ∷ text (codes "source") ∷ number (codes "capacity_w") ∷ text (codes "commissioned") ∷ text (codes "support") ∷ maybe_text (codes "last_day") ∷ number (codes "carry") ∷ [])

abbrev pub declaration : Table
declaration = keyed_by_number (codes "declaration") 6 ((2 ∷ 3 ∷ []) ∷ [])
    (number_key (codes "id") ∷ text (codes "device") ∷ text (codes "first_day") ∷ text (codes "last_day") ∷ number (codes "gross") ∷ number (codes "aux") ∷ [])

abbrev pub lot : Table
lot = keyed_by_number (codes "lot") 8 ((2 ∷ 3 ∷ 11 ∷ []) ∷ [])
    (number_key (codes "id") ∷ number (codes "origin") ∷ text (codes "device") ∷ text (codes "country") ∷ text (codes "site") ∷ text (codes "tech") ∷ text (codes "source") ∷ number (codes "capacity_w") ∷ text (codes "commissioned") ∷ text (codes "support") ∷ text (codes "first_day") ∷ text (codes "last_day") ∷ maybe_text (codes "expires_on") ∷ text (codes "issued_on") ∷ [])

abbrev pub piece : Table
piece = keyed_by_number (codes "piece") 10 []
    (number_key (codes "first") ∷ number (codes "last") ∷ number (codes "lot") ∷ number (codes "kind") ∷ number (codes "account") ∷ number (codes "act") ∷ [])

abbrev pub peer : Table
peer = keyed_by (codes "peer") 11 (1 ∷ [])
    (number (codes "code") ∷ [])

abbrev pub receipt : Table
receipt = keyed_by (codes "receipt") 13 (1 ∷ 2 ∷ [])
    (text (codes "caller") ∷ text (codes "key") ∷ bytes (codes "command") ∷ number (codes "kind") ∷ number (codes "n1") ∷ number (codes "n2") ∷ number (codes "n3") ∷ [])

abbrev pub cancellation : Table
cancellation = keyed_by_number (codes "cancellation") 15 []
    (number_key (codes "number") ∷ number (codes "account") ∷ number (codes "first") ∷ number (codes "last") ∷ text (codes "beneficiary") ∷ text (codes "use_first") ∷ text (codes "use_last") ∷ text (codes "day") ∷ [])

abbrev pub withdrawal : Table
withdrawal = keyed_by_number (codes "withdrawal") 16 []
    (number_key (codes "number") ∷ number (codes "first") ∷ number (codes "last") ∷ text (codes "reason") ∷ text (codes "day") ∷ [])

abbrev pub notice_out : Table
notice_out = keyed_by_number (codes "notice_out") 17 []
    (number_key (codes "number") ∷ number (codes "account") ∷ text (codes "body") ∷ [])

abbrev pub notice_in : Table
notice_in = keyed_by (codes "notice_in") 18 (1 ∷ 2 ∷ [])
    (number (codes "sender") ∷ number (codes "number") ∷ text (codes "body") ∷ [])

-- ---- corrections and carriers, after all others

abbrev pub correction : Table
correction = keyed_by_number (codes "correction") 22 []
    (number_key (codes "id") ∷ text (codes "device") ∷ text (codes "first_day") ∷ number (codes "less") ∷ number (codes "withdrawal") ∷ [])

abbrev pub device_carrier : Table
device_carrier = keyed_by (codes "device_carrier") 23 (1 ∷ [])
    (text (codes "gsrn") ∷ text (codes "carrier") ∷ [])

abbrev pub lot_carrier : Table
lot_carrier = keyed_by_number (codes "lot_carrier") 25 []
    (number_key (codes "lot") ∷ text (codes "carrier") ∷ [])

abbrev pub no_schema : Schema
no_schema = record { tables = []; indexes = []; views = [] }

abbrev pub registry_tables : List Table
registry_tables = meta ∷ holder ∷ account ∷ device ∷ declaration ∷ lot ∷ piece ∷ peer ∷ receipt ∷ cancellation ∷ withdrawal ∷ notice_out ∷ notice_in ∷ correction ∷ device_carrier ∷ lot_carrier ∷ []

abbrev pub registry_indexes : List Index
registry_indexes =
    index_of (codes "holder") 1 (1 ∷ [])
    ∷ index_of (codes "device") 4 (1 ∷ [])
    ∷ index_of (codes "declaration") 6 (2 ∷ 3 ∷ [])
    ∷ index_of (codes "lot") 8 (2 ∷ 3 ∷ 11 ∷ [])
    ∷ index_of (codes "peer") 11 (1 ∷ [])
    ∷ index_of (codes "receipt") 13 (1 ∷ 2 ∷ [])
    ∷ index_of (codes "notice_in") 18 (1 ∷ 2 ∷ [])
    ∷ index_on (codes "piece_by_account") 20 10 (5 ∷ 0 ∷ [])
    ∷ index_on (codes "piece_by_kind") 21 10 (4 ∷ 0 ∷ [])
    ∷ index_of (codes "device_carrier") 23 (1 ∷ []) ∷ []

abbrev pub registry_schema : Schema
registry_schema = record { tables = registry_tables; indexes = registry_indexes; views = [] }

-- the schema of version 1: all but the last three tables
abbrev pub first_schema : Schema
first_schema = record { tables = take 13 registry_tables; indexes = take 9 registry_indexes; views = [] }
