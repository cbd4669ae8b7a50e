-- Pages that change, and what their number comes to.
use Rattle.std.proofs.Common.{◌≡◌, ℕ, zero, suc, ◌+◌, ◌-◌, ◌*◌, ◌/◌, min, ◌<◌, ◌≤◌, List, [], ◌∷◌, ◌++◌, true, false, ◌==◌, cond, ltb, length, take, drop, set, get_or, refl, sym, ap, ◌∙◌, arith, append_assoc}
use Rattle.std.specs.List.{insert, remove}
use Rattle.std.proofs.lemmas.List.{nil_from_length, take-append-drop, length-take-le, length-drop, length-set}
use Rattle.goo_types.specs.declared.piece.Piece.{Piece}
use Rattle.goo_ranges_rows.specs.Rows.{without, with}
use Rattle.goo_core_pages.specs.Paging.{joined, AreFit, beyond_halves, cut_at, owed, room_in}

pub length-with : (p : Piece) (ps : List Piece) → length (with p ps) ≡ length ps + 1
length-with p [] = refl
length-with p (q ∷ qs) =
    let rest = length-with p qs in
    elim (ltb p.first q.first) as (λ b. length (cond b (p ∷ q ∷ qs) (q ∷ with p qs)) ≡ suc (length qs) + 1) [
      | true ↦ omega arith
      | false ↦ omega (arith, rest)
    ]

pub length-without : (n : ℕ) (ps : List Piece) → length (without n ps) ≤ length ps
length-without n [] = omega arith
length-without n (p ∷ ps) =
    let rest = length-without n ps in
    elim (p.first == n) as (λ b. length (cond b ps (p ∷ without n ps)) ≤ suc (length ps)) [
      | true ↦ omega arith
      | false ↦ omega (arith, rest)
    ]

pub length-without-least : (n : ℕ) (ps : List Piece) → length ps ≤ length (without n ps) + 1
length-without-least n [] = omega arith
length-without-least n (p ∷ ps) =
    let rest = length-without-least n ps in
    elim (p.first == n) as (λ b. suc (length ps) ≤ length (cond b ps (p ∷ without n ps)) + 1) [
      | true ↦ omega arith
      | false ↦ omega (arith, rest)
    ]

-- the upper half of a page put in behind the lower one
put-in-behind : (xs : List (List Piece)) (k : ℕ) → k < length xs → insert (set xs k (take 32 (get_or xs k []))) (suc k) (drop 32 (get_or xs k [])) ≡ cut_at k xs
put-in-behind [] k lt = absurd (omega arith)
put-in-behind (x ∷ xs) zero lt = refl
put-in-behind (x ∷ xs) (suc k) lt = ap (λ l. x ∷ l) (put-in-behind xs k (omega arith))

pub cut-inserted : (xs : List (List Piece)) (k : ℕ) → k < length xs → insert (set xs k (take 32 (get_or xs k []))) (k + 1) (drop 32 (get_or xs k [])) ≡ cut_at k xs
cut-inserted xs k lt =
    let more : k + 1 ≡ suc k = omega arith in
    ap (λ i. insert (set xs k (take 32 (get_or xs k []))) i (drop 32 (get_or xs k []))) more ∙ put-in-behind xs k lt

pub joined-cut : (k : ℕ) (xs : List (List Piece)) → joined (cut_at k xs) ≡ joined xs
joined-cut zero [] = refl
joined-cut zero (x ∷ xs) = sym (append_assoc (take 32 x) (drop 32 x) (joined xs)) ∙ ap (λ l. l ++ joined xs) (take-append-drop 32 x)
joined-cut (suc k) [] = refl
joined-cut (suc k) (x ∷ xs) = ap (λ l. x ++ l) (joined-cut k xs)

pub length-cut : (k : ℕ) (xs : List (List Piece)) → k < length xs → length (cut_at k xs) ≡ length xs + 1
length-cut k [] lt = absurd (omega arith)
length-cut zero (x ∷ xs) lt = omega arith
length-cut (suc k) (x ∷ xs) lt = let rest = length-cut k xs (omega arith) in omega (arith, rest)

-- a page without rows laid aside
pub joined-laid : (xs : List (List Piece)) (k : ℕ) → k < length xs → length (get_or xs k []) ≡ 0 → joined (remove xs k) ≡ joined xs
joined-laid [] k lt none = absurd (omega arith)
joined-laid (x ∷ xs) zero lt none = ap (λ l. l ++ joined xs) (sym (nil_from_length x none))
joined-laid (x ∷ xs) (suc k) lt none = ap (λ l. x ++ l) (joined-laid xs k (omega arith) none)

-- one page may be changed in any way, where the others are fit
pub fit-others : (xs : List (List Piece)) (k : ℕ) (y : List Piece) → AreFit xs → AreFit (remove (set xs k y) k)
fit-others [] zero y fit = tt
fit-others [] (suc k) y fit = tt
fit-others (x ∷ xs) zero y fit = fit.2
fit-others (x ∷ xs) (suc k) y fit = (fit.0, fit.1, fit-others xs k y fit.2)

pub fit-all : (xs : List (List Piece)) (k : ℕ) → k < length xs → AreFit (remove xs k) → 1 ≤ length (get_or xs k []) → length (get_or xs k []) < 64 → AreFit xs
fit-all [] k lt others some less = tt
fit-all (x ∷ xs) zero lt others some less = (some, less, others)
fit-all (x ∷ xs) (suc k) lt others some less = (others.0, others.1, fit-all xs k (omega arith) others.2 some less)

pub fit-cut : (xs : List (List Piece)) (k : ℕ) → k < length xs → AreFit (remove xs k) → length (get_or xs k []) ≡ 64 → AreFit (cut_at k xs)
fit-cut [] k lt others full = absurd (omega arith)
fit-cut (x ∷ xs) zero lt others full =
    let low = length-take-le 32 x (omega (arith, full)) in
    let high = length-drop 32 x in
    (omega (arith, low), omega (arith, low), (omega (arith, high, full), omega (arith, high, full), others))
fit-cut (x ∷ xs) (suc k) lt others full = (others.0, others.1, fit-cut xs k (omega arith) others.2 full)

pub fit-at : (xs : List (List Piece)) (k : ℕ) → AreFit xs → k < length xs → (1 ≤ length (get_or xs k [])) × (length (get_or xs k []) < 64)
fit-at [] k fit lt = absurd (omega arith)
fit-at (x ∷ xs) zero fit lt = (fit.0, fit.1)
fit-at (x ∷ xs) (suc k) fit lt = fit-at xs k fit.2 (omega arith)

beyond-set : (xs : List (List Piece)) (k : ℕ) (y : List Piece) → k < length xs → beyond_halves (set xs k y) + (length (get_or xs k []) - 32) ≡ beyond_halves xs + (length y - 32)
beyond-set [] k y lt = absurd (omega arith)
beyond-set (x ∷ xs) zero y lt = omega arith
beyond-set (x ∷ xs) (suc k) y lt = let rest = beyond-set xs k y (omega arith) in omega (arith, rest)

beyond-laid : (xs : List (List Piece)) (k : ℕ) → k < length xs → length (get_or xs k []) ≡ 0 → beyond_halves (remove xs k) ≡ beyond_halves xs
beyond-laid [] k lt none = absurd (omega arith)
beyond-laid (x ∷ xs) zero lt none = omega (arith, none)
beyond-laid (x ∷ xs) (suc k) lt none = ap (λ n. (length x - 32) + n) (beyond-laid xs k (omega arith) none)

pub beyond-cut : (xs : List (List Piece)) (k : ℕ) → k < length xs → length (get_or xs k []) ≡ 64 → beyond_halves (cut_at k xs) + 32 ≡ beyond_halves xs
beyond-cut [] k lt full = absurd (omega arith)
beyond-cut (x ∷ xs) zero lt full =
    let low = length-take-le 32 x (omega (arith, full)) in
    let high = length-drop 32 x in
    omega (arith, low, high, full)
beyond-cut (x ∷ xs) (suc k) lt full = let rest = beyond-cut xs k (omega arith) full in omega (arith, rest)

beyond-limit : (xs : List (List Piece)) → AreFit xs → beyond_halves xs ≤ 32 * length xs
beyond-limit [] fit = omega arith
beyond-limit (x ∷ xs) fit = let rest = beyond-limit xs fit.2 in let less = fit.1 in omega (arith, rest, less)

owed-some : (xs : List (List Piece)) → 1 ≤ length xs → owed xs ≡ beyond_halves xs
owed-some [] some = absurd (omega arith)
owed-some (x ∷ xs) some = refl

owed-none : (xs : List (List Piece)) → length xs ≡ 0 → owed xs ≡ 32
owed-none [] none = refl
owed-none (x ∷ xs) none = absurd (omega arith)

owed-limit : (xs : List (List Piece)) → owed xs ≤ beyond_halves xs + 32
owed-limit [] = omega arith
owed-limit (x ∷ xs) = omega arith

-- where there is room there is a spare page
pub room-spare : (xs : List (List Piece)) (spare : ℕ) → 1 ≤ room_in xs spare → 1 ≤ spare
room-spare xs zero room = absurd (omega (arith, room))
room-spare xs (suc spare) room = omega arith

pub room-laid : (xs : List (List Piece)) (k spare : ℕ) → k < length xs → length (get_or xs k []) ≡ 0 → room_in xs spare ≤ room_in (remove xs k) (spare + 1)
room-laid xs k spare lt none =
    let same = beyond-laid xs k lt none in
    let was = owed-some xs (omega arith) in
    let is = owed-limit (remove xs k) in
    omega (arith, same, was, is)

pub room-fewer : (xs : List (List Piece)) (k spare : ℕ) (y : List Piece) → k < length xs → length y ≤ length (get_or xs k []) → room_in xs spare ≤ room_in (set xs k y) spare
room-fewer xs k spare y lt fewer =
    let size = length-set xs k y in
    let less = beyond-set xs k y lt in
    let was = owed-some xs (omega arith) in
    let is = owed-some (set xs k y) (omega (arith, size)) in
    omega (arith, less, was, is, fewer)

pub room-more : (xs : List (List Piece)) (k : ℕ) (y : List Piece) (zs : List (List Piece)) (spare left : ℕ) → k < length xs → length y ≤ length (get_or xs k []) + 1 → 1 ≤ length zs → 32 * spare + beyond_halves zs ≡ 32 * left + beyond_halves (set xs k y) → spare ≤ left + 1 → room_in xs spare ≤ room_in zs left + 1
room-more xs k y zs spare left lt one some paid less =
    let more = beyond-set xs k y lt in
    let was = owed-some xs (omega arith) in
    let is = owed-some zs some in
    omega (arith, more, was, is, one, paid, less)

pub room-begun : (xs : List (List Piece)) (row : Piece) (spare left : ℕ) → length xs ≡ 0 → left + 1 ≡ spare → room_in xs spare ≤ room_in ((row ∷ []) ∷ []) left + 1
room-begun xs row spare left none one =
    let was = owed-none xs none in
    omega (arith, was, one)

pub room-wanted : (xs : List (List Piece)) (spare count : ℕ) → AreFit xs → min count (length xs + (count / 32 + 2)) ≤ spare → count ≤ room_in xs spare
room-wanted xs spare count fit enough =
    let limit = beyond-limit xs fit in
    let is = owed-limit xs in
    omega (arith, limit, is, enough)
