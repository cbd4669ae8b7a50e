-- The rows of corrections, and of carriers other than electricity, as plain records.
use Rattle.std.specs.Prelude.{ℕ, ℤ, pos, List, [], ◌∷◌, string_bytes}
use Rattle.sqlite.specs.declared.types.Value.TheVariants.{Null, Int, Text}
use Rattle.sqlite.specs.Order.{Row, column}
use Rattle.sqlite_typed.specs.Columns.{bytes_of, int_of}
use Rattle.goo_tables_rows.specs.declared.correction.CorrectionRow.{CorrectionRow}
use Rattle.goo_tables_rows.specs.declared.device_carrier.DeviceCarrierRow.{DeviceCarrierRow}
use Rattle.goo_tables_rows.specs.declared.lot_carrier.LotCarrierRow.{LotCarrierRow}
use Rattle.goo_tables_rows.specs.Cells.{number_in, Kept}

-- ---- correction: what lowered a declaration, under a number that rises with each

pub record Correction : Type 0 where
  pub id : ℕ
  pub device : List ℕ
  pub first_day : List ℕ
  pub less : ℕ
  pub withdrawal : ℕ

abbrev pub correction_key : Correction → ℤ
correction_key c = pos c.id

-- as the table keeps it, the number being the rowid
abbrev pub correction_row : Correction → Row
correction_row c =
    Int (pos c.id) ∷ Null ∷ Text c.device ∷ Text c.first_day ∷ Int (pos c.less) ∷ Int (pos c.withdrawal) ∷ []

-- as a query shows it
abbrev pub correction_columns : Correction → Row
correction_columns c =
    Int (pos c.id) ∷ Text c.device ∷ Text c.first_day ∷ Int (pos c.less) ∷ Int (pos c.withdrawal) ∷ []

abbrev pub correction_in : CorrectionRow → Correction
correction_in c = record { id = c.id; device = string_bytes c.device; first_day = string_bytes c.first_day; less = c.less; withdrawal = c.withdrawal }

-- as it is read from a stored row, whatever that holds
abbrev pub correction_at : Row → Correction
correction_at r = record {
  id = number_in (column r 0);
  device = bytes_of (column r 2);
  first_day = bytes_of (column r 3);
  less = number_in (column r 4);
  withdrawal = number_in (column r 5);
}

-- ---- device_carrier: a device's carrier

pub record DeviceCarrier : Type 0 where
  pub gsrn : List ℕ
  pub carrier : List ℕ

-- as a query shows it
abbrev pub device_carrier_columns : DeviceCarrier → Row
device_carrier_columns c = Text c.gsrn ∷ Text c.carrier ∷ []

-- as the table keeps it, under its rowid
abbrev pub device_carrier_row : Kept DeviceCarrier → Row
device_carrier_row k = Int k.0 ∷ device_carrier_columns k.1

abbrev pub device_carrier_in : DeviceCarrierRow → DeviceCarrier
device_carrier_in c = record { gsrn = string_bytes c.gsrn; carrier = string_bytes c.carrier }

-- as it is read from a stored row, whatever that holds
abbrev pub device_carrier_at : Row → Kept DeviceCarrier
device_carrier_at r = (
  int_of (column r 0),
  record {
    gsrn = bytes_of (column r 1);
    carrier = bytes_of (column r 2);
  },
)

-- ---- lot_carrier: a lot's carrier

pub record LotCarrier : Type 0 where
  pub lot : ℕ
  pub carrier : List ℕ

abbrev pub lot_carrier_key : LotCarrier → ℤ
lot_carrier_key c = pos c.lot

-- as the table keeps it, the lot's number being the rowid
abbrev pub lot_carrier_row : LotCarrier → Row
lot_carrier_row c = Int (pos c.lot) ∷ Null ∷ Text c.carrier ∷ []

-- as a query shows it
abbrev pub lot_carrier_columns : LotCarrier → Row
lot_carrier_columns c = Int (pos c.lot) ∷ Text c.carrier ∷ []

abbrev pub lot_carrier_in : LotCarrierRow → LotCarrier
lot_carrier_in c = record { lot = c.lot; carrier = string_bytes c.carrier }

-- as it is read from a stored row, whatever that holds
abbrev pub lot_carrier_at : Row → LotCarrier
lot_carrier_at r = record {
  lot = number_in (column r 0);
  carrier = bytes_of (column r 2);
}
