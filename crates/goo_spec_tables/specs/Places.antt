-- The certificates that rows of `piece` stand for, each beside the row of its lot.
use Rattle.std.specs.Prelude.{ℕ, ◌==◌, if◌then◌else◌, List, map}
use Rattle.goo_types.specs.declared.lot_fields.LotFields.{LotFields}
use Rattle.goo_types.specs.declared.piece.Piece.{Piece}
use Rattle.goo_types.specs.declared.place.Place.{Place}
use Rattle.goo_types.specs.declared.place.Place.TheVariants.{Held, Cancelled, Expired, Withdrawn, Exported}
use Rattle.goo_tables_rows.specs.Beside.{pieces_beside}
use Rattle.goo_tables_rows.specs.Rows.{Tables, Lot}
use Rattle.goo_tables_rows.specs.declared.piece.PieceRow.{PieceRow}
use Rattle.goo_spec_tables.specs.Texts.{day_of, support_of, carrier_of}

-- 1 held, 2 cancelled, 3 expired, 4 withdrawn, 5 exported
abbrev pub place_of : ℕ → ℕ → ℕ → Place
place_of kind account act =
    if kind == 1 then Held account
    else (if kind == 2 then Cancelled account act
    else (if kind == 3 then Expired account
    else (if kind == 4 then Withdrawn account act else Exported account act)))

abbrev pub lot_of : Lot → LotFields
lot_of l = record {
  origin = l.origin;
  device = l.device;
  country = l.plant.country;
  site = l.plant.site;
  tech = l.plant.tech;
  source = l.plant.source;
  capacity_w = l.plant.capacity_w;
  commissioned = day_of l.plant.commissioned;
  support = support_of l.plant.support;
  first_day = day_of l.first_day;
  last_day = day_of l.last_day;
  issued_on = day_of l.issued_on;
  carrier = carrier_of l.carrier;
}

-- certificates of one lot in one place, under consecutive numbers
abbrev pub piece_of : PieceRow × Lot → Piece
piece_of a = record { first = a.0.first; last = a.0.last; lot = lot_of a.1; place = place_of a.0.kind a.0.account a.0.act }

-- the rows that are kept of the certificates
unfoldable pub rows_of : Tables → List Piece
rows_of t = map piece_of (pieces_beside t)
