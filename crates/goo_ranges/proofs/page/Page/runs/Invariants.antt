use Rattle.std.proofs.Common.{take}
use Rattle.goo_ranges_pieces.specs.Joining.{IsJoining}
use Rattle.goo_spec.specs.Runs.{IsApart}
use Rattle.goo_ranges.proofs.page.Page.runs.Given as goal

abbrev pub invariant-loop-piece : goal.invariant-loop-piece
invariant-loop-piece l = record {
  joined : IsJoining (take l.piece-index l.piece-items) l.runs.items;
  apart : IsApart l.runs.items;
}
