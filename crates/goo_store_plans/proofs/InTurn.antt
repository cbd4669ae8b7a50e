-- What holds of each change in the tables that those before it leave.
use Rattle.std.proofs.Common.{All, ℕ, zero, suc, ◌<◌, List, [], ◌∷◌, ◌++◌, length, take, get_or, arith}
use Rattle.goo_tables_rows.specs.Rows.{Tables}
use Rattle.goo_store_changes.specs.Changes.{made, made_all}
use Rattle.goo_store_changes.specs.declared.table_change.TableChange.{TableChange}

module _ (Q : Tables → TableChange → Type 0) where
  abbrev pub AreInTurn : Tables → List TableChange → Type 0
  AreInTurn t changes = (i : ℕ) (d : TableChange) → i < length changes → Q (made_all t (take i changes)) (get_or changes i d)

  pub none_in_turn : (t : Tables) → AreInTurn t []
  none_in_turn t i d low = absurd (omega (arith, low))

  pub first_in_turn : (t : Tables) (a : TableChange) (xs : List TableChange) → Q t a → AreInTurn (made t a) xs → AreInTurn t (a ∷ xs)
  first_in_turn t a xs one rest zero d low = one
  first_in_turn t a xs one rest (suc i) d low = rest i d (omega (arith, low))

  pub one_in_turn : (t : Tables) (a : TableChange) → Q t a → AreInTurn t (a ∷ [])
  one_in_turn t a one = first_in_turn t a [] one (none_in_turn (made t a))

  pub two_in_turn : (t : Tables) (a b : TableChange) → Q t a → Q (made t a) b → AreInTurn t (a ∷ b ∷ [])
  two_in_turn t a b one two = first_in_turn t a (b ∷ []) one (one_in_turn (made t a) b two)

  pub both_in_turn : (t : Tables) (xs ys : List TableChange) → AreInTurn t xs → AreInTurn (made_all t xs) ys → AreInTurn t (xs ++ ys)
  both_in_turn t [] ys are rest = rest
  both_in_turn t (x ∷ xs) ys are rest = first_in_turn t x (xs ++ ys) (are 0 x (omega arith)) (both_in_turn (made t x) xs ys (λ i d low. are (suc i) d (omega (arith, low))) rest)

  -- a change of which it holds in any tables
  pub always_in_turn : (t : Tables) (changes : List TableChange) → All (λ d. (u : Tables) → Q u d) changes → AreInTurn t changes
  always_in_turn t changes all i d low = all i d low (made_all t (take i changes))
