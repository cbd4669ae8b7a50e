use Rattle.std.proofs.Common.{List, take}
use Rattle.goo_types.specs.Piece.{IsRising}
use Rattle.goo_types.specs.declared.piece.Piece.{Piece}
use Rattle.goo_core_judges.specs.Taking.{AreMet, AreTaken}
use Rattle.goo_core_judges.proofs.taking.take_parts.Given as goal

abbrev pub invariant-loop-part : goal.invariant-loop-part
invariant-loop-part l = (rows : List Piece) → IsRising rows → AreMet rows l.arriving → AreTaken rows (take l.part-index l.arriving) l.account l.edits.items
