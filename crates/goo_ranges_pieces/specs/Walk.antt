-- Where a search in a book begins, and where a list of pieces ends.
use Rattle.std.specs.Prelude.{◌≡◌, ℕ, ◌+◌, ◌-◌, ◌≤◌, List, [], ◌∷◌}
use Rattle.goo_types.specs.declared.piece.Piece.{Piece}
use Rattle.goo_spec.specs.Maps.{numbers_from}
use Rattle.goo_types.specs.Piece.{at_of, IsRising}

-- the number after the last one of a rising list, or `low`
abbrev pub end_of : ℕ → List Piece → ℕ
end_of low [] = low
end_of low (p ∷ ps) = end_of (p.last + 1) ps

-- the first of the pieces, if there is one, ends at the number or after it
abbrev pub Reaches : ℕ → List Piece → Type 0
Reaches n [] = Unit {0}
Reaches n (p ∷ ps) = n ≤ p.last

-- the pieces that are left for the numbers from n on
pub record IsRest (all rest : List Piece) (n : ℕ) : Type 0 where
  pub same : (m : ℕ) → n ≤ m → at_of all m ≡ at_of rest m
  pub rising : IsRising rest
  pub reaches : Reaches n rest

-- the numbers from `low` to below `high`, rising
abbrev pub span : ℕ → ℕ → List ℕ
span low high = numbers_from low (high - low)
