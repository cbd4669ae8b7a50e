-- Rows that can be read, where their own values are not all that is asked of them.
use Rattle.std.specs.Prelude.{◌≡◌, ◌≤◌, ℕ, pos, true, IsTrue, List, filter, length, map, All}
use Rattle.std.specs.List.{list_all}
use Rattle.sqlite_typed.specs.Tests.{bytes_eq}
use Rattle.goo_types.specs.Piece.{IsRising}
use Rattle.goo_types.specs.declared.lot_fields.LotFields.{LotFields}
use Rattle.goo_types.specs.declared.piece.Piece.{Piece}
use Rattle.goo_tables_rows.specs.Beside.{joined_in}
use Rattle.goo_tables_rows.specs.Rows.{Lot, NoticeOut, device_in}
use Rattle.goo_tables_rows.specs.declared.device.DeviceRow.{DeviceRow}
use Rattle.goo_tables_rows.specs.declared.joined.JoinedRow.{JoinedRow}
use Rattle.goo_tables_rows.specs.declared.piece.PieceRow.{PieceRow}
use Rattle.goo_spec_tables.specs.Places.{piece_of, place_of}
use Rattle.goo_spec_tables.specs.Readable.{is_device, is_piece, is_notice_out}
use Rattle.goo_store_values.specs.Reading.{IsReadableLot}

-- rows of devices, no two of one number
pub record AreReadableDevices (rows : List DeviceRow) : Type 0 where
  pub each : list_all (λ row. is_device (pos 0, device_in row)) rows ≡ true
  pub apart : (gsrn : List ℕ) → length (filter (λ row. bytes_eq (device_in row).gsrn gsrn) rows) ≤ 1

-- a notice that a registry sent, by its code
abbrev pub IsReadableSent : NoticeOut → Type 0
IsReadableSent n = (own : ℕ) × IsTrue (is_notice_out own n)

-- the piece that a row states beside this lot
abbrev pub with_lot : PieceRow → LotFields → Piece
with_lot p lot = record { first = p.first; last = p.last; lot = lot; place = place_of p.kind p.account p.act }

-- a piece beside its lot
pub record IsReadablePiece (a : PieceRow × Lot) : Type 0 where
  pub values : IsTrue (is_piece a.0)
  pub lot : IsReadableLot a.1

-- rows of pieces beside their lots, which rise
pub record AreReadablePieces (rows : List JoinedRow) : Type 0 where
  pub each : All (λ row. IsReadablePiece (joined_in row)) rows
  pub rising : IsRising (map piece_of (map joined_in rows))
