-- What is wrong with a list of pieces that makes no book.
use Rattle.std.specs.Prelude.{◌≡◌, ℕ, ◌-◌, ◌<◌, ◌≤◌, List, take, slice_get, Some}
use Rattle.goo_types.specs.declared.piece.Piece.{Piece}
use Rattle.goo_ranges.specs.declared.faults.BookFault.{BookFault}
use Rattle.goo_ranges.specs.declared.faults.BookFault.TheVariants.{Backwards, Overlap}
use Rattle.goo_types.specs.Piece.{IsForward, IsRising}

-- the piece at i runs backwards, or has two codes
abbrev pub IsBackwardsAt : List Piece → ℕ → Type 0
IsBackwardsAt ps i = (p : Piece) × (slice_get ps i ≡ Some p) × ¬ (IsForward p)

-- the piece at i begins at or before the end of the one before it
abbrev pub IsOverlapAt : List Piece → ℕ → Type 0
IsOverlapAt ps i = (0 < i) × ((p : Piece) × (q : Piece) × (slice_get ps (i - 1) ≡ Some p) × (slice_get ps i ≡ Some q) × IsForward q × (q.first ≤ p.last))

-- the fault stands at the least index at fault: the pieces before it have none
abbrev pub IsLeastFault : List Piece → BookFault → Type 0
IsLeastFault ps (Backwards i) = IsRising (take i ps) × IsBackwardsAt ps i
IsLeastFault ps (Overlap i) = IsRising (take i ps) × IsOverlapAt ps i
