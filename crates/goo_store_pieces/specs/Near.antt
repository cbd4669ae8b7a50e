-- The rows near a range, as two statements find them.
use Rattle.std.specs.Prelude.{◌+◌, cond, nat_le, List, [], ◌∷◌, Option, Some, None}
use Rattle.goo_types.specs.Range.{Numbers}
use Rattle.goo_types.specs.declared.piece.Piece.{Piece}

-- the row before the range, where it reaches to the range or ends right before it
abbrev pub reaching : Numbers → Option Piece → List Piece
reaching range None = []
reaching range (Some p) = cond (nat_le range.first (p.last + 1)) (p ∷ []) []
