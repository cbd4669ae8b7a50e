use Rattle.std.proofs.Common.{take}
use Rattle.goo_types.specs.Piece.{IsRising}
use Rattle.goo_ranges.proofs.page.Page.new.Given as goal

abbrev pub invariant-loop-i : goal.invariant-loop-i
invariant-loop-i l = IsRising (take l.i l.piece-items)
