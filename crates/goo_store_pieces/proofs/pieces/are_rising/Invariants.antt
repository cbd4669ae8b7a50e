use Rattle.std.proofs.Common.{drop}
use Rattle.goo_types.specs.Piece.{IsRising, IsRisingFrom}
use Rattle.goo_store_pieces.proofs.pieces.are_rising.Given as goal

-- what is left decides
abbrev pub invariant-loop-piece : goal.invariant-loop-piece
invariant-loop-piece l = record {
  there : IsRisingFrom l.low (drop l.piece-index l.pieces) → IsRising l.pieces;
  back : IsRising l.pieces → IsRisingFrom l.low (drop l.piece-index l.pieces);
}
