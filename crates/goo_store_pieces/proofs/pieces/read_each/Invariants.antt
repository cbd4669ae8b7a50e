use Rattle.std.proofs.Common.{◌≡◌, ◌++◌, map, drop}
use Rattle.goo_tables_rows.specs.Beside.{joined_in}
use Rattle.goo_spec_tables.specs.Places.{piece_of}
use Rattle.goo_store_pieces.specs.Found.{KeepsLots}
use Rattle.goo_store_pieces.proofs.pieces.read_each.Given as goal

abbrev pub invariant-loop-row : goal.invariant-loop-row
invariant-loop-row l = record {
  pieces : l.pieces.items ++ map piece_of (map joined_in (drop l.row-index l.rows)) ≡ map piece_of (map joined_in l.rows);
  kept : KeepsLots l.rows l.fn.lots.items l.lots.items;
}
