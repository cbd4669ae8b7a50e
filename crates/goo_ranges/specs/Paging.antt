-- Pieces in pages.
use Rattle.std.specs.Prelude.{◌≡◌, ℕ, ◌+◌, ◌-◌, ◌<◌, ◌≤◌, List, [], ◌∷◌, ◌++◌, length, take, drop}
use Rattle.goo_types.specs.declared.piece.Piece.{Piece}
use Rattle.goo_types.specs.Piece.{at_of, IsRising, IsRisingFrom}
use Rattle.goo_ranges_pieces.specs.Walk.{end_of}

-- the pieces of pages, one page after another
abbrev pub joined : List (List Piece) → List Piece
joined [] = []
joined (page ∷ pages) = page ++ joined pages

-- each page has a piece
abbrev pub AreFilled : List (List Piece) → Type 0
AreFilled [] = Unit {0}
AreFilled (page ∷ pages) = (1 ≤ length page) × AreFilled pages

-- where the first of the pieces begins, or 0 where there is none
abbrev pub begin_of : List Piece → ℕ
begin_of [] = 0
begin_of (p ∷ ps) = p.first

-- the pieces of the pages from the index `from` on and below the index `to`
abbrev pub between : List (List Piece) → ℕ → ℕ → List Piece
between pages from to = joined (take (to - from) (drop from pages))

-- all pieces with a number from `first` to `last` or next to one are in the pages from the index `from` on and below the index `to`
pub record IsWindow (pages : List (List Piece)) (first last from to : ℕ) : Type 0 where
  pub order : from ≤ to
  pub bound : to ≤ length pages
  pub below : end_of 0 (joined (take from pages)) < first
  pub above : IsRisingFrom (last + 2) (joined (drop to pages))

-- the pieces that are left for the numbers from n on
pub record IsLeft (all rest : List Piece) (n : ℕ) : Type 0 where
  pub same : (m : ℕ) → n ≤ m → at_of all m ≡ at_of rest m
  pub rising : IsRising rest
