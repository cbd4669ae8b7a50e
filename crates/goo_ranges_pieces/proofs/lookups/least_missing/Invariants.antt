use Rattle.std.proofs.Common.{◌≡◌, ℕ, ◌<◌, ◌≤◌, drop, false}
use Rattle.goo_spec.specs.Lots.{is_absent}
use Rattle.goo_types.specs.Piece.{at_of}
use Rattle.goo_ranges_pieces.specs.Walk.{IsRest}
use Rattle.goo_ranges_pieces.proofs.lookups.least_missing.Given as goal

abbrev pub invariant-loop-piece : goal.invariant-loop-piece
invariant-loop-piece l = record {
  rest : IsRest l.pieces (drop l.piece-index l.piece-items) l.next;
  low : l.fn.first ≤ l.next;
  high : l.next ≤ l.fn.last;
  present : (m : ℕ) → l.fn.first ≤ m → m < l.next → is_absent (at_of l.pieces m) ≡ false;
}
