-- Pages joined into one list, in whatever order their rows are.
use Rattle.std.proofs.Common.{◌≡◌, ℕ, zero, suc, ◌+◌, ◌<◌, ◌≤◌, List, [], ◌∷◌, ◌++◌, length, get_or, take, drop, refl, ap, sym, ◌∙◌, arith, append_assoc}
use Rattle.std.specs.List.Sorted.{IsNonDecreasingBy}
use Rattle.std.proofs.lemmas.List.{take_more, drop_more}
use Rattle.goo_types.specs.declared.piece.Piece.{Piece}
use Rattle.goo_ranges.specs.Paging.{joined, AreFilled}

pub joined-append : (xs ys : List (List Piece)) → joined (xs ++ ys) ≡ joined xs ++ joined ys
joined-append [] ys = refl
joined-append (x ∷ xs) ys = ap (λ l. x ++ l) (joined-append xs ys) ∙ sym (append_assoc x (joined xs) (joined ys))

pub joined-split : (i : ℕ) (xs : List (List Piece)) → joined (take i xs) ++ joined (drop i xs) ≡ joined xs
joined-split zero xs = refl
joined-split (suc i) [] = refl
joined-split (suc i) (x ∷ xs) = append_assoc x (joined (take i xs)) (joined (drop i xs)) ∙ ap (λ l. x ++ l) (joined-split i xs)

-- one more page, at its end
pub joined-more : (xs : List (List Piece)) (x : List Piece) → joined (xs ++ x ∷ []) ≡ joined xs ++ x
joined-more [] [] = refl
joined-more [] (p ∷ x) = ap (λ l. p ∷ l) (joined-more [] x)
joined-more (y ∷ xs) x = ap (λ l. y ++ l) (joined-more xs x) ∙ sym (append_assoc y (joined xs) x)

-- the page at an index
pub joined-next : (xs : List (List Piece)) (i : ℕ) (d : List Piece) → i < length xs → joined (take i xs) ++ get_or xs i d ≡ joined (take (i + 1) xs)
joined-next xs i d lt = sym (joined-more (take i xs) (get_or xs i d)) ∙ ap joined (sym (take_more xs i d lt))

pub joined-page : (xs : List (List Piece)) (i : ℕ) (x : List Piece) → i < length xs → x ≡ get_or xs i x → joined (take i xs) ++ x ≡ joined (take (i + 1) xs)
joined-page xs i x lt is = ap (λ y. joined (take i xs) ++ y) is ∙ joined-next xs i x lt

pub joined-drop : (xs : List (List Piece)) (i : ℕ) (x : List Piece) → i < length xs → x ≡ get_or xs i x → joined (drop i xs) ≡ x ++ joined (drop (i + 1) xs)
joined-drop xs i x lt is = ap joined (drop_more xs i x lt) ∙ ap (λ y. y ++ joined (drop (i + 1) xs)) (sym is)

-- ---- where pages end, by any measure of it that the rows' order rises with

module _ (ends : ℕ → List Piece → ℕ) (Rises : ℕ → List Piece → Type 0) (same : (a b : ℕ) (ps : List Piece) → 1 ≤ length ps → ends a ps ≡ ends b ps)
    (up : (low : ℕ) (x ys : List Piece) → Rises low (x ++ ys) → low ≤ ends low x) (rest : (low : ℕ) (x ys : List Piece) → Rises low (x ++ ys) → Rises (ends low x) ys) where
  ends-above : (low : ℕ) (xs : List (List Piece)) (j : ℕ) (d : List Piece) → AreFilled xs → Rises low (joined xs) → j < length xs → low ≤ ends 0 (get_or xs j d)
  ends-above low [] j d fit r lt = absurd (omega arith)
  ends-above low (x ∷ xs) zero d fit r lt =
      let here = up low x (joined xs) r in
      let ended = same 0 low x fit.0 in
      omega (arith, here, ended)
  ends-above low (x ∷ xs) (suc j) d fit r lt =
      let here = up low x (joined xs) r in
      let far = ends-above (ends low x) xs j d fit.1 (rest low x (joined xs) r) (omega arith) in
      omega (arith, here, far)

  -- and they rise
  pub sorted-ends : (low : ℕ) (xs : List (List Piece)) → AreFilled xs → Rises low (joined xs) → IsNonDecreasingBy (ends 0) xs
  sorted-ends low [] fit r i j d le lt = absurd (omega arith)
  sorted-ends low (x ∷ xs) fit r zero zero d le lt = omega arith
  sorted-ends low (x ∷ xs) fit r zero (suc j) d le lt =
      let far = ends-above (ends low x) xs j d fit.1 (rest low x (joined xs) r) (omega arith) in
      let ended = same 0 low x fit.0 in
      omega (arith, far, ended)
  sorted-ends low (x ∷ xs) fit r (suc i) zero d le lt = absurd (omega arith)
  sorted-ends low (x ∷ xs) fit r (suc i) (suc j) d le lt = sorted-ends (ends low x) xs fit.1 (rest low x (joined xs) r) i j d (omega arith) (omega arith)
