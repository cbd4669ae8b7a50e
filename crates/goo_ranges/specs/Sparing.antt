-- Edits that leave the rows next to a range alone where they stay as they are.
use Rattle.std.specs.Prelude.{◌≡◌, ◌⊎◌, ℕ, ◌+◌, ◌<◌, ◌≤◌, List, [], ◌∷◌, ◌++◌, length, map, count_by}
use Rattle.goo_types.specs.declared.piece.Piece.{Piece}
use Rattle.goo_ranges_pieces.specs.Change.{meets}
use Rattle.goo_ranges.specs.declared.edits.Edit.{Edit}

-- the first of both lists is left out where it is the same
abbrev pub IsFirstLeftOut : List Piece → List Piece → List Piece → List Piece → Type 0
IsFirstLeftOut old new old_left new_left =
    ((x : Piece) × (old ≡ x ∷ old_left) × (new ≡ x ∷ new_left))
    ⊎ ((old_left ≡ old) × (new_left ≡ new) × ((x : Piece) (rest more : List Piece) → old ≡ x ∷ rest → new ≡ x ∷ more → ⊥))

-- the last of both lists is left out where it is the same
abbrev pub IsLastLeftOut : List Piece → List Piece → List Piece → List Piece → Type 0
IsLastLeftOut old new old_left new_left =
    ((x : Piece) × (old ≡ old_left ++ x ∷ []) × (new ≡ new_left ++ x ∷ []))
    ⊎ ((old_left ≡ old) × (new_left ≡ new) × ((x : Piece) (rest more : List Piece) → old ≡ rest ++ x ∷ [] → new ≡ more ++ x ∷ [] → ⊥))

-- a row before the range isn't the first that is deleted and the first that is inserted, nor one behind it the last of both
pub record AreSpared (first last : ℕ) (deleted inserted : List Piece) : Type 0 where
  pub before : (p : Piece) (rest more : List Piece) → p.last < first → deleted ≡ p ∷ rest → inserted ≡ p ∷ more → ⊥
  pub behind : (p : Piece) (rest more : List Piece) → last < p.first → deleted ≡ rest ++ p ∷ [] → inserted ≡ more ++ p ∷ [] → ⊥

-- an edit of the rows deletes and puts back none next to the range
pub record IsSparing (first last : ℕ) (rows : List Piece) (edit : Edit) : Type 0 where
  pub front : List Piece
  pub deleted : List Piece
  pub back : List Piece
  pub was : rows ≡ front ++ (deleted ++ back)
  pub named : edit.delete.items ≡ map (λ p. p.first) deleted
  pub spared : AreSpared first last deleted edit.insert.items

-- an edit of the rows for the numbers from `first` to `last`: it deletes and inserts at most two rows more than have one of them, and none next to them that stays
pub record IsSmall (first last : ℕ) (rows : List Piece) (edit : Edit) : Type 0 where
  pub deleted : length edit.delete.items ≤ count_by (meets first last) rows + 2
  pub inserted : length edit.insert.items ≤ count_by (meets first last) rows + 2
  pub sparing : IsSparing first last rows edit
