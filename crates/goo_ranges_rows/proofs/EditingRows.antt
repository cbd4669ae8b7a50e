-- Rows by rising first numbers, and edits of them.
use Rattle.std.proofs.Common.{◌≡◌, ◌≢◌, ℕ, zero, suc, ◌+◌, ◌<◌, ◌≤◌, List, [], ◌∷◌, true, false, ◌==◌, ltb, leb, ⊎_elim, length, get_or, refl, ap, arith}
use Rattle.std.specs.List.{AllWithin, insert, remove}
use Rattle.std.specs.List.Sorted.{IsPartitionPoint, IsNonDecreasingBy}
use Rattle.std.proofs.lemmas.Bool.{cases_lt}
use Rattle.std.proofs.lemmas.Bool.Decides.{nat_tests}
use Rattle.std.proofs.lemmas.List.Edits.{get_or-remove_below, get_or-remove_above, length-remove}
use Rattle.goo_types.specs.declared.piece.Piece.{Piece}
use Rattle.goo_types.specs.Piece.{IsRisingFrom}
use Rattle.goo_ranges_rows.specs.Rows.{without, with}

-- the rows that begin before the number, and then the others
abbrev pub ParesAt : ℕ → List Piece → ℕ → Type 0
ParesAt n xs i = IsPartitionPoint (λ p. ltb p.first n ≡ true) (λ p. ltb p.first n ≡ false) xs i

pub without-found : (n : ℕ) (xs : List Piece) (i : ℕ) (d : Piece) → AllWithin (λ p. ltb p.first n ≡ true) xs 0 i → i < length xs → (get_or xs i d).first ≡ n → without n xs ≡ remove xs i
without-found n [] i d below lt is = absurd (omega arith)
without-found n (p ∷ ps) zero d below lt is = let here : (p.first == n) ≡ true = grind (arith, nat_tests) in rw here refl
without-found n (p ∷ ps) (suc i) d below lt is =
    let low = below 0 p (omega arith) (omega arith) in
    let here : (p.first == n) ≡ false = grind (arith, nat_tests) in
    rw here (ap (λ xs. p ∷ xs) (without-found n ps i d (λ k e a b. below (suc k) e (omega arith) (omega arith)) (omega arith) is))

pub without-none : (n : ℕ) (xs : List Piece) → ((k : ℕ) (d : Piece) → k < length xs → (get_or xs k d).first ≢ n) → without n xs ≡ xs
without-none n [] none = refl
without-none n (p ∷ ps) none =
    let one = none 0 p (omega arith) in
    let here : (p.first == n) ≡ false = grind (arith, nat_tests) in
    rw here (ap (λ xs. p ∷ xs) (without-none n ps (λ k d lt. none (suc k) d (omega arith))))

pub with-inserted : (p : Piece) (xs : List Piece) (i : ℕ) → i ≤ length xs → IsPartitionPoint (λ q. leb q.first p.first ≡ true) (λ q. leb q.first p.first ≡ false) xs i → with p xs ≡ insert xs i p
with-inserted p [] zero le at = refl
with-inserted p [] (suc i) le at = absurd (omega arith)
with-inserted p (q ∷ qs) zero le at =
    let above = at.1 0 q (omega arith) (omega arith) in
    let here : ltb p.first q.first ≡ true = grind (arith, nat_tests) in
    rw here refl
with-inserted p (q ∷ qs) (suc i) le at =
    let below = at.0 0 q (omega arith) (omega arith) in
    let here : ltb p.first q.first ≡ false = grind (arith, nat_tests) in
    rw here (ap (λ xs. q ∷ xs) (with-inserted p qs i (omega arith) (λ k d a b. at.0 (suc k) d (omega arith) (omega arith), λ k d a b. at.1 (suc k) d (omega arith) (omega arith))))

pub without-missed : (n : ℕ) (xs : List Piece) (i : ℕ) → IsNonDecreasingBy (λ p. p.first) xs → ParesAt n xs i → (i < length xs → (d : Piece) → (get_or xs i d).first ≢ n) → without n xs ≡ xs
without-missed n xs i sorted at missed = without-none n xs (λ k d lt.
    ⊎_elim
    (λ (before : k < i). let low = at.0 k d (omega arith) before in grind (arith, nat_tests))
    (λ (after : i ≤ k).
    let up = sorted i k d after lt in
    let other = missed (omega arith) d in
    let high = at.1 i d (omega arith) (omega arith) in
    grind (arith, nat_tests))
    (cases_lt k i))

pub removed-sorted : (xs : List Piece) (i : ℕ) → i < length xs → IsNonDecreasingBy (λ p. p.first) xs → IsNonDecreasingBy (λ p. p.first) (remove xs i)
removed-sorted xs i lt sorted k j d le within =
    let short : j + 1 < length xs = let e = length-remove xs i lt in omega (arith, e, within) in
    ⊎_elim
    (λ (low : j < i). rw (get_or-remove_below xs i d k (omega arith) lt, get_or-remove_below xs i d j low lt) (sorted k j d le (omega arith)))
    (λ (high : i ≤ j).
    let later = get_or-remove_above xs i d j high lt in
    ⊎_elim
    (λ (before : k < i). rw (get_or-remove_below xs i d k before lt, later) (sorted k (j + 1) d (omega arith) short))
    (λ (after : i ≤ k). rw (get_or-remove_above xs i d k after lt, later) (sorted (k + 1) (j + 1) d (omega arith) short))
    (cases_lt k i))
    (cases_lt j i)

first-below : (low : ℕ) (ps : List Piece) (j : ℕ) (d : Piece) → IsRisingFrom low ps → j < length ps → low ≤ (get_or ps j d).first
first-below low [] j d r h = absurd (omega arith)
first-below low (p ∷ ps) zero d r h = r.0
first-below low (p ∷ ps) (suc j) d r h =
    let here : low ≤ p.first = r.0 in
    let forward : p.first ≤ p.last = r.1.0 in
    let far = first-below (p.last + 1) ps j d r.2 (omega arith) in
    omega arith

-- rows that rise begin in order
pub rising-sorted : (low : ℕ) (ps : List Piece) → IsRisingFrom low ps → IsNonDecreasingBy (λ p. p.first) ps
rising-sorted low [] r i j d le h = absurd (omega arith)
rising-sorted low (p ∷ ps) r zero zero d le h = omega arith
rising-sorted low (p ∷ ps) r zero (suc j) d le h =
    let forward : p.first ≤ p.last = r.1.0 in
    let far = first-below (p.last + 1) ps j d r.2 (omega arith) in
    omega arith
rising-sorted low (p ∷ ps) r (suc i) zero d le h = absurd (omega arith)
rising-sorted low (p ∷ ps) r (suc i) (suc j) d le h = rising-sorted (p.last + 1) ps r.2 i j d (omega arith) (omega arith)
