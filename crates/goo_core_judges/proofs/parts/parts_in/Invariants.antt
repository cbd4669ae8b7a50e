use Rattle.std.proofs.Common.{drop}
use Rattle.goo_core_judges.specs.Walk.{HasParts}
use Rattle.goo_core_judges.proofs.parts.parts_in.Given as goal

abbrev pub invariant-loop-piece : goal.invariant-loop-piece
invariant-loop-piece l = HasParts l.pieces (drop l.piece-index l.pieces) l.fn.range l.next l.parts.items
