use Rattle.std.proofs.Common.{take}
use Rattle.goo_ranges_pieces.specs.Joining.{IsJoining}
use Rattle.goo_spec.specs.Runs.{IsApart}
use Rattle.goo_ranges_pieces.proofs.joined.joined_pieces.Given as goal

abbrev pub invariant-loop-piece : goal.invariant-loop-piece
invariant-loop-piece l = record {
  joined : IsJoining (take l.piece-index l.pieces) l.out.items;
  apart : IsApart l.out.items;
}
