use Rattle.std.proofs.Common.{take}
use Rattle.goo_ranges_pieces.specs.Change.{IsChanged, moved, cuts}
use Rattle.goo_spec.specs.Runs.{IsApart}
use Rattle.goo_ranges_pieces.proofs.joined.moved_pieces.Given as goal

abbrev pub invariant-loop-piece : goal.invariant-loop-piece
invariant-loop-piece l = record {
  changed : IsChanged (moved l.fn.first l.fn.last l.fn.place) (cuts l.fn.first l.fn.last) (take l.piece-index l.touched) l.out.items;
  apart : IsApart l.out.items;
}
