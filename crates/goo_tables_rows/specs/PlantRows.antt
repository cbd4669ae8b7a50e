-- The rows of devices, declarations, lots and pieces, as plain records.
use Rattle.std.specs.Prelude.{ℕ, ◌+◌, ℤ, pos, List, [], ◌∷◌, ◌++◌, string_bytes, Option, None, option_map}
use Rattle.sqlite.specs.declared.types.Value.TheVariants.{Null, Int, Text}
use Rattle.sqlite.specs.Order.{Row, column}
use Rattle.sqlite_typed.specs.Columns.{or_null, unless_null, bytes_of, int_of}
use Rattle.goo_tables_rows.specs.declared.device.DeviceRow.{DeviceRow}
use Rattle.goo_tables_rows.specs.declared.declaration.DeclarationRow.{DeclarationRow}
use Rattle.goo_tables_rows.specs.declared.lot.LotRow.{LotRow}
use Rattle.goo_tables_rows.specs.declared.piece.PieceRow.{PieceRow}
use Rattle.goo_tables_rows.specs.declared.plant.PlantRow.{PlantRow}
use Rattle.goo_tables_rows.specs.Cells.{number_in, Kept}

-- what a device states of its plant, and each of its lots again
pub record Plant : Type 0 where
  pub country : List ℕ
  pub site : List ℕ
  pub tech : List ℕ
  pub source : List ℕ
  pub capacity_w : ℕ
  pub commissioned : List ℕ
  pub support : List ℕ

abbrev pub plant_columns : Plant → Row
plant_columns p =
    Text p.country ∷ Text p.site ∷ Text p.tech ∷ Text p.source ∷ Int (pos p.capacity_w) ∷ Text p.commissioned ∷ Text p.support ∷ []

abbrev pub plant_in : PlantRow → Plant
plant_in p = record { country = string_bytes p.country; site = string_bytes p.site; tech = string_bytes p.tech; source = string_bytes p.source; capacity_w = p.capacity_w; commissioned = string_bytes p.commissioned; support = string_bytes p.support }

-- the plant in the columns of a row from a place on
abbrev pub plant_at : Row → ℕ → Plant
plant_at r i = record {
  country = bytes_of (column r (i + 0));
  site = bytes_of (column r (i + 1));
  tech = bytes_of (column r (i + 2));
  source = bytes_of (column r (i + 3));
  capacity_w = number_in (column r (i + 4));
  commissioned = bytes_of (column r (i + 5));
  support = bytes_of (column r (i + 6));
}

-- ---- device: a production device, with the end of its last period and the energy that no certificate stands for yet

pub record Device : Type 0 where
  pub gsrn : List ℕ
  pub account : ℕ
  pub plant : Plant
  pub last_day : Option (List ℕ)
  pub carry : ℕ
  -- the word for its carrier, where `device_carrier` has one
  pub carrier : Option (List ℕ)

-- what the table keeps of it
abbrev pub device_values : Device → Row
device_values d = Text d.gsrn ∷ Int (pos d.account) ∷ (plant_columns d.plant ++ (or_null Text d.last_day ∷ Int (pos d.carry) ∷ []))

-- as a query shows it
abbrev pub device_columns : Device → Row
device_columns d = Text d.gsrn ∷ Int (pos d.account) ∷ (plant_columns d.plant ++ (or_null Text d.last_day ∷ Int (pos d.carry) ∷ or_null Text d.carrier ∷ []))

-- as the table keeps it, under its rowid
abbrev pub device_row : Kept Device → Row
device_row k = Int k.0 ∷ device_values k.1

abbrev pub device_in : DeviceRow → Device
device_in d = record { gsrn = string_bytes d.gsrn; account = d.account; plant = plant_in d.plant; last_day = option_map string_bytes d.last_day; carry = d.carry; carrier = option_map string_bytes d.carrier }

-- as it is read from a stored row, whatever that holds; its carrier isn't there
abbrev pub device_at : Row → Kept Device
device_at r = (
  int_of (column r 0),
  record {
    gsrn = bytes_of (column r 1);
    account = number_in (column r 2);
    plant = plant_at r 3;
    last_day = unless_null bytes_of (column r 10);
    carry = number_in (column r 11);
    carrier = None;
  },
)

-- ---- declaration: a declaration, under a number that rises with each

pub record Declaration : Type 0 where
  pub id : ℕ
  pub device : List ℕ
  pub first_day : List ℕ
  pub last_day : List ℕ
  pub gross : ℕ
  pub aux : ℕ

abbrev pub declaration_key : Declaration → ℤ
declaration_key d = pos d.id

-- as the table keeps it, the number being the rowid
abbrev pub declaration_row : Declaration → Row
declaration_row d =
    Int (pos d.id) ∷ Null ∷ Text d.device ∷ Text d.first_day ∷ Text d.last_day ∷ Int (pos d.gross) ∷ Int (pos d.aux) ∷ []

-- as a query shows it
abbrev pub declaration_columns : Declaration → Row
declaration_columns d =
    Int (pos d.id) ∷ Text d.device ∷ Text d.first_day ∷ Text d.last_day ∷ Int (pos d.gross) ∷ Int (pos d.aux) ∷ []

abbrev pub declaration_in : DeclarationRow → Declaration
declaration_in d = record { id = d.id; device = string_bytes d.device; first_day = string_bytes d.first_day; last_day = string_bytes d.last_day; gross = d.gross; aux = d.aux }

-- as it is read from a stored row, whatever that holds
abbrev pub declaration_at : Row → Declaration
declaration_at r = record {
  id = number_in (column r 0);
  device = bytes_of (column r 2);
  first_day = bytes_of (column r 3);
  last_day = bytes_of (column r 4);
  gross = number_in (column r 5);
  aux = number_in (column r 6);
}

-- ---- lot: a lot, with the day after which its held certificates expire

pub record Lot : Type 0 where
  pub id : ℕ
  pub origin : ℕ
  pub device : List ℕ
  pub plant : Plant
  pub first_day : List ℕ
  pub last_day : List ℕ
  pub expires_on : Option (List ℕ)
  pub issued_on : List ℕ
  -- the word for its carrier, where `lot_carrier` has one
  pub carrier : Option (List ℕ)

abbrev pub lot_key : Lot → ℤ
lot_key l = pos l.id

-- as the table keeps it, the number being the rowid
abbrev pub lot_row : Lot → Row
lot_row l =
    Int (pos l.id) ∷ Null ∷ Int (pos l.origin) ∷ Text l.device ∷ (plant_columns l.plant ++ (Text l.first_day ∷ Text l.last_day ∷ or_null Text l.expires_on ∷ Text l.issued_on ∷ []))

-- what the table is given of it
abbrev pub lot_values : Lot → Row
lot_values l =
    Int (pos l.id) ∷ Int (pos l.origin) ∷ Text l.device ∷ (plant_columns l.plant ++ (Text l.first_day ∷ Text l.last_day ∷ or_null Text l.expires_on ∷ Text l.issued_on ∷ []))

-- as a query shows it
abbrev pub lot_columns : Lot → Row
lot_columns l =
    Int (pos l.id) ∷ Int (pos l.origin) ∷ Text l.device ∷ (plant_columns l.plant ++ (Text l.first_day ∷ Text l.last_day ∷ or_null Text l.expires_on ∷ Text l.issued_on ∷ or_null Text l.carrier ∷ []))

abbrev pub lot_in : LotRow → Lot
lot_in l = record { id = l.id; origin = l.origin; device = string_bytes l.device; plant = plant_in l.plant; first_day = string_bytes l.first_day; last_day = string_bytes l.last_day; expires_on = option_map string_bytes l.expires_on; issued_on = string_bytes l.issued_on; carrier = option_map string_bytes l.carrier }

-- as it is read from a stored row, whatever that holds; its carrier isn't there
abbrev pub lot_at : Row → Lot
lot_at r = record {
  id = number_in (column r 0);
  origin = number_in (column r 2);
  device = bytes_of (column r 3);
  plant = plant_at r 4;
  first_day = bytes_of (column r 11);
  last_day = bytes_of (column r 12);
  expires_on = unless_null bytes_of (column r 13);
  issued_on = bytes_of (column r 14);
  carrier = None;
}

-- ---- piece

abbrev pub piece_key : PieceRow → ℤ
piece_key p = pos p.first

-- as the table keeps it, the number being the rowid
abbrev pub piece_row : PieceRow → Row
piece_row p =
    Int (pos p.first) ∷ Null ∷ Int (pos p.last) ∷ Int (pos p.lot) ∷ Int (pos p.kind) ∷ Int (pos p.account) ∷ Int (pos p.act) ∷ []

-- as a query shows it
abbrev pub piece_columns : PieceRow → Row
piece_columns p =
    Int (pos p.first) ∷ Int (pos p.last) ∷ Int (pos p.lot) ∷ Int (pos p.kind) ∷ Int (pos p.account) ∷ Int (pos p.act) ∷ []

-- as it is read from a stored row, whatever that holds
abbrev pub piece_at : Row → PieceRow
piece_at r = record {
  first = number_in (column r 0);
  last = number_in (column r 2);
  lot = number_in (column r 3);
  kind = number_in (column r 4);
  account = number_in (column r 5);
  act = number_in (column r 6);
}
