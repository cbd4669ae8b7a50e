-- A block that is mixed byte by byte.
use Rattle.std.proofs.Common.{◌≡◌, ◌<◌, ◌≤◌, ℕ, ◌+◌, List, [], ◌∷◌, ◌++◌, map, length, take, set, get_or, refl, sym, ap, ◌∙◌, add-one}
use Rattle.std.proofs.lemmas.List.{take_more_set, take_all, map-append}
use Rattle.std.proofs.Math.Seq.{take-suc}

map_more : (f : ℕ → ℕ) (xs : List ℕ) (i : ℕ) → i < length xs
    → map f (take (i + 1) xs) ≡ map f (take i xs) ++ f (get_or xs i 0) ∷ []
map_more f xs i h = rw (add-one, take-suc xs i 0 h, map-append) refl

-- one byte more
pub mixed_more : (f : ℕ → ℕ) (xs out : List ℕ) (i : ℕ) → i < length xs → i < length out
    → take i out ≡ map f (take i xs)
    → take (i + 1) (set out i (f (get_or xs i 0))) ≡ map f (take (i + 1) xs)
mixed_more f xs out i h k e =
    take_more_set out i (f (get_or xs i 0)) k
    ∙ ap (λ (l : List ℕ). l ++ f (get_or xs i 0) ∷ []) e
    ∙ sym (map_more f xs i h)

-- all bytes
pub mixed_all : (f : ℕ → ℕ) (xs out : List ℕ) (i : ℕ) → length xs ≤ i → length out ≤ i
    → take i out ≡ map f (take i xs) → out ≡ map f xs
mixed_all f xs out i h k e = rw (take_all i xs h, take_all i out k) at e
