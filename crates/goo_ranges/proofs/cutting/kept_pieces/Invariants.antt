use Rattle.std.proofs.Common.{take}
use Rattle.goo_ranges_pieces.specs.Change.{IsKept}
use Rattle.goo_ranges.proofs.cutting.kept_pieces.Given as goal

abbrev pub invariant-loop-piece : goal.invariant-loop-piece
invariant-loop-piece l = IsKept l.low l.high (take l.piece-index l.pieces) l.out.items
