use Rattle.std.proofs.Common.{take, map}
use Rattle.goo_ranges.specs.Accounts.{held}
use Rattle.goo_ranges_pieces.specs.Joining.{IsJoining}
use Rattle.goo_spec.specs.Runs.{IsApart}
use Rattle.goo_ranges.proofs.page.accounts.held_pieces.Given as goal

abbrev pub invariant-loop-piece : goal.invariant-loop-piece
invariant-loop-piece l = record {
  joined : IsJoining (map (held l.fn.lot) (take l.piece-index l.pieces)) l.out.items;
  apart : IsApart l.out.items;
}
