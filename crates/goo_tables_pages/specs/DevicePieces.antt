-- The pieces, each beside the device of its lot.
use Rattle.std.specs.Prelude.{◌≡◌, ◌≤◌, ℕ, List, [], ◌∷◌, ◌++◌, length, string_bytes}
use Rattle.sqlite.specs.declared.types.Value.TheVariants.{Text}
use Rattle.sqlite.specs.Order.{Row, column}
use Rattle.goo_tables_rows.specs.Reads.{piece_reads}
use Rattle.goo_tables_rows.specs.Readable.{IsText, piece_readable}
use Rattle.goo_tables_rows.specs.Rows.{Lot, piece_columns}
use Rattle.goo_tables_rows.specs.declared.piece.PieceRow.{PieceRow}
use Rattle.goo_tables_pages.specs.declared.device_pieces.DevicePieceRow.{DevicePieceRow}

-- of a piece beside its lot: the piece and the lot's device
abbrev pub of_device : PieceRow × Lot → PieceRow × List ℕ
of_device a = (a.0, a.1.device)

abbrev pub device_piece_in : DevicePieceRow → PieceRow × List ℕ
device_piece_in x = (x.piece, string_bytes x.device)

-- as a query shows it
abbrev pub device_piece_columns : PieceRow × List ℕ → Row
device_piece_columns a = piece_columns a.0 ++ Text a.1 ∷ []

abbrev pub device_piece_reads : Row → DevicePieceRow → Type 0
device_piece_reads r x = piece_reads r x.piece × (column r 6 ≡ Text (string_bytes x.device))

abbrev pub device_piece_readable : Row → Type 0
device_piece_readable r = piece_readable r × (7 ≤ length r) × IsText (column r 6)
