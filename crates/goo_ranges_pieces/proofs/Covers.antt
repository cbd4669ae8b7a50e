-- Whether a piece has a number, and the map of a joined list.
use Rattle.std.proofs.Common.{◌≡◌, ℕ, ◌<◌, ◌≤◌, List, [], ◌∷◌, ◌++◌, Bool, true, false, cond, Option, Some, None, refl, ap, sym, ◌∙◌, arith}
use Rattle.std.proofs.lemmas.Bool.Decides.{nat_tests}
use Rattle.goo_types.specs.declared.piece.Piece.{Piece}
use Rattle.goo_types.specs.Piece.{label_of, covers, at_of}

pub covers-inside : (p : Piece) (n : ℕ) → p.first ≤ n → n ≤ p.last → covers p n ≡ true
covers-inside p n above below = grind (arith, nat_tests)

pub covers-below : (p : Piece) (n : ℕ) → n < p.first → covers p n ≡ false
covers-below p n below = grind (arith, nat_tests)

pub covers-above : (p : Piece) (n : ℕ) → p.last < n → covers p n ≡ false
covers-above p n above = grind (arith, nat_tests)

-- the first of the two that is there
abbrev pub or_else : {A : Type 0} → Option A → Option A → Option A
or_else (Some a) o = Some a
or_else None o = o

pub or_else-cond : {A : Type 0} (b : Bool) (a : A) (o q : Option A) → or_else (cond b (Some a) o) q ≡ cond b (Some a) (or_else o q)
or_else-cond true a o q = refl
or_else-cond false a o q = refl

pub at_of-append : (xs ys : List Piece) (n : ℕ) → at_of (xs ++ ys) n ≡ or_else (at_of xs n) (at_of ys n)
at_of-append [] ys n = refl
at_of-append (p ∷ xs) ys n =
    ap (λ o. cond (covers p n) (Some (label_of p)) o) (at_of-append xs ys n) ∙ sym (or_else-cond (covers p n) (label_of p) (at_of xs n) (at_of ys n))
