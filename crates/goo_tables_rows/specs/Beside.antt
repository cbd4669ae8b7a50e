-- The pieces beside their lots.
use Rattle.std.specs.Prelude.{pos, List, ◌++◌, option_map}
use Rattle.std.specs.List.{filter_map}
use Rattle.sqlite.specs.Order.{Row}
use Rattle.sqlite_keyed.specs.Keyed.{get_by}
use Rattle.goo_tables_rows.specs.Rows.{Tables, Lot, lot_key, lot_in, piece_columns, lot_columns}
use Rattle.goo_tables_rows.specs.declared.piece.PieceRow.{PieceRow}
use Rattle.goo_tables_rows.specs.declared.joined.JoinedRow.{JoinedRow}

-- each piece beside the lot that it names; a piece that names none is left out
abbrev pub beside : List Lot → List PieceRow → List (PieceRow × Lot)
beside lots = filter_map (λ p. option_map (λ l. (p, l)) (get_by lot_key lots (pos p.lot)))

abbrev pub pieces_beside : Tables → List (PieceRow × Lot)
pieces_beside t = beside t.lots t.pieces

abbrev pub joined_in : JoinedRow → PieceRow × Lot
joined_in x = (x.piece, lot_in x.lot)

-- as a query shows it
abbrev pub joined_columns : PieceRow × Lot → Row
joined_columns a = piece_columns a.0 ++ lot_columns a.1
