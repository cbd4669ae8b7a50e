-- How far a walk over pieces has come.
use Rattle.std.specs.Prelude.{◌≡◌, ◌⊎◌, ℕ, ◌+◌, ◌<◌, ◌≤◌, min, List}
use Rattle.goo_types.specs.Piece.{at_of}
use Rattle.goo_types.specs.Range.{Numbers}
use Rattle.goo_types.specs.declared.part.Part.{Part}
use Rattle.goo_types.specs.declared.piece.Piece.{Piece}
use Rattle.goo_spec.specs.Parts.{AreInRow, LotsChange, HaveLots}
use Rattle.goo_core_judges.specs.Parts.{IsLonger}

-- the parts take the numbers of a range below the next one, and what is left has the others
pub record HasParts (pieces left : List Piece) (range : Numbers) (next : ℕ) (parts : List Part) : Type 0 where
  pub from : range.first ≤ next
  pub to : next ≤ range.last + 1
  pub row : AreInRow range.first next parts
  pub longest : LotsChange parts
  pub lots : HaveLots (at_of pieces) parts
  pub rest : (n : ℕ) → next ≤ n → n ≤ range.last → at_of pieces n ≡ at_of left n

-- the piece has none of the numbers from the next one on
pub record IsPassed (old : List Part) (p : Piece) (range : Numbers) (next : ℕ) (new : List Part) (after : ℕ) : Type 0 where
  pub below : min p.last range.last < next
  pub stays : after ≡ next
  pub same : new ≡ old

-- the piece's numbers from the next one on are taken
pub record IsTaken (old : List Part) (p : Piece) (range : Numbers) (next : ℕ) (new : List Part) (after : ℕ) : Type 0 where
  pub taken : Numbers
  pub begins : taken.first ≡ next
  pub ends : taken.last ≡ min p.last range.last
  pub has : next ≤ p.last
  pub within : next ≤ range.last
  pub stops : after ≡ taken.last + 1
  pub longer : IsLonger old taken p.lot new

abbrev pub IsStep : List Part → Piece → Numbers → ℕ → List Part → ℕ → Type 0
IsStep old p range next new after = IsPassed old p range next new after ⊎ IsTaken old p range next new after
