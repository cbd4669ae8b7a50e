-- Rows that are the same, and the rows in an answer's place.
use Rattle.std.proofs.Common.{◌≡◌, ◌<◌, ◌+◌, ◌∙◌, ◌⊎◌, ℕ, zero, suc, List, [], ◌∷◌, ◌++◌, length, take, get_or, inl, inr, refl, sym, ap, ap₂, arith}
use Rattle.std.proofs.lemmas.List.{take_more}
use Rattle.sqlite.specs.Order.{Row, column}
use Rattle.goo_store_anew.specs.declared.answers.Answer.{Answer}
use Rattle.goo_store_anew.specs.Answered.{rows_at}

pub below : (i n : ℕ) → i < n + 1 → (i < n) ⊎ (i ≡ n)
below zero zero low = inr refl
below zero (suc n) low = inl (omega arith)
below (suc i) zero low = absurd (omega (arith, low))
below (suc i) (suc n) low = elim (below i n (omega (arith, low))) [ inl less ↦ inl (omega (arith, less)) | inr same ↦ inr (ap suc same) ]

-- each column is the same
pub same_row : (a b : Row) → length a ≡ length b → ((i : ℕ) → i < length a → column a i ≡ column b i) → a ≡ b
same_row [] [] long each = refl
same_row [] (w ∷ b) long each = absurd (omega (arith, long))
same_row (v ∷ a) [] long each = absurd (omega (arith, long))
same_row (v ∷ a) (w ∷ b) long each = ap₂ (λ x xs. x ∷ xs) (each 0 (omega arith)) (same_row a b (omega (arith, long)) (λ i low. each (suc i) (omega (arith, low))))

-- one more of both lists is the same
pub same_more : (a b : List Row) (i : ℕ) (x y : Row) → i < length a → length a ≡ length b → get_or a i x ≡ x → get_or b i y ≡ y → x ≡ y → take i a ≡ take i b → take (i + 1) a ≡ take (i + 1) b
same_more a b i x y low long here there is so =
    take_more a i x low ∙ ap₂ (λ xs z. xs ++ z ∷ []) so (here ∙ is ∙ sym there) ∙ sym (take_more b i y (omega (arith, low, long)))

pub rows_here : (xs : List Answer) (i : ℕ) (x : Answer) → i < length xs → get_or xs i x ≡ x → rows_at xs i ≡ x.rows.items
rows_here [] i x low here = absurd (omega (arith, low))
rows_here (y ∷ xs) zero x low here = ap (λ (a : Answer). a.rows.items) here
rows_here (y ∷ xs) (suc i) x low here = rows_here xs i x (omega (arith, low)) here

pub rows_before : (xs : List Answer) (x : Answer) (i : ℕ) → i < length xs → rows_at (xs ++ x ∷ []) i ≡ rows_at xs i
rows_before [] x i low = absurd (omega (arith, low))
rows_before (y ∷ xs) x zero low = refl
rows_before (y ∷ xs) x (suc i) low = rows_before xs x i (omega (arith, low))

pub rows_last : (xs : List Answer) (x : Answer) → rows_at (xs ++ x ∷ []) (length xs) ≡ x.rows.items
rows_last [] x = refl
rows_last (y ∷ xs) x = rows_last xs x
