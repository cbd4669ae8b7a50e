-- Pages of rows in order.
use Rattle.std.proofs.Common.{◌≡◌, ℕ, zero, suc, ◌+◌, ◌-◌, ◌<◌, ◌≤◌, ◌⊎◌, ⊎_elim, inl, inr, min, List, [], ◌∷◌, ◌++◌, true, false, ◌==◌, cond, ltb, length, take, set, get_or, refl, sym, ap, ◌∙◌, arith}
use Rattle.std.specs.List.{AllWithin}
use Rattle.std.specs.List.Sorted.{IsNonDecreasingBy}
use Rattle.std.proofs.lemmas.Bool.{cases_lt}
use Rattle.std.proofs.lemmas.Bool.Decides.{nat_tests}
use Rattle.std.proofs.lemmas.List.{append-nil, take_all}
use Rattle.goo_types.specs.declared.piece.Piece.{Piece}
use Rattle.goo_types.specs.Piece.{IsRisingFrom}
use Rattle.goo_ranges.specs.Paging.{AreFilled}
use Rattle.goo_ranges.proofs.JoinedPages.{sorted-ends}
use Rattle.goo_ranges_rows.specs.Rows.{without, with}
use Rattle.goo_core_pages.specs.Paging.{joined, AreFit, Below, InOrder, IsHome, last_begin}

order-front : (low : ℕ) (xs ys : List Piece) → InOrder low (xs ++ ys) → InOrder low xs
order-front low [] ys r = tt
order-front low (p ∷ xs) ys r = (r.0, order-front p.first xs ys r.1)

order-back : (low : ℕ) (xs ys : List Piece) → InOrder low (xs ++ ys) → InOrder (last_begin low xs) ys
order-back low [] ys r = r
order-back low (p ∷ xs) ys r = order-back p.first xs ys r.1

order-weaken : (low high : ℕ) (ps : List Piece) → low ≤ high → InOrder high ps → InOrder low ps
order-weaken low high [] le r = tt
order-weaken low high (p ∷ ps) le r = let here : high ≤ p.first = r.0 in let less : low ≤ p.first = omega arith in (less, r.1)

order-up : (low : ℕ) (ps : List Piece) → InOrder low ps → low ≤ last_begin low ps
order-up low [] r = omega arith
order-up low (p ∷ ps) r = let here : low ≤ p.first = r.0 in let up = order-up p.first ps r.1 in omega arith

-- rows that rise are in order
pub order-rising : (low : ℕ) (ps : List Piece) → IsRisingFrom low ps → InOrder low ps
order-rising low [] r = tt
order-rising low (p ∷ ps) r =
    let forward : p.first ≤ p.last = r.1.0 in
    let far : p.first ≤ p.last + 1 = omega arith in
    (r.0, order-weaken p.first (p.last + 1) ps far (order-rising (p.last + 1) ps r.2))

-- each page is in order
pub order-page : (low : ℕ) (xs : List (List Piece)) (i : ℕ) → InOrder low (joined xs) → InOrder 0 (get_or xs i [])
order-page low [] i r = tt
order-page low (x ∷ xs) zero r = let least : 0 ≤ low = omega arith in order-weaken 0 low x least (order-front low x (joined xs) r)
order-page low (x ∷ xs) (suc i) r = order-page (last_begin low x) xs i (order-back low x (joined xs) r)

same-end : (a b : ℕ) (ps : List Piece) → 1 ≤ length ps → last_begin a ps ≡ last_begin b ps
same-end a b [] some = absurd (omega arith)
same-end a b (p ∷ ps) some = refl

filled-fit : (xs : List (List Piece)) → AreFit xs → AreFilled xs
filled-fit [] fit = tt
filled-fit (x ∷ xs) fit = (fit.0, filled-fit xs fit.2)

-- the pages' last rows are in order
pub ends-sorted : (low : ℕ) (xs : List (List Piece)) → AreFit xs → InOrder low (joined xs) → IsNonDecreasingBy (last_begin 0) xs
ends-sorted low xs fit = sorted-ends last_begin InOrder same-end (λ from x ys r. order-up from x (order-front from x ys r)) order-back low xs (filled-fit xs fit)

below-page : (low n : ℕ) (ps : List Piece) → InOrder low ps → last_begin low ps < n → Below n ps
below-page low n [] r lt = tt
below-page low n (p ∷ ps) r lt =
    let up = order-up p.first ps r.1 in
    let less : p.first < n = omega (arith, up, lt) in
    (less, below-page p.first n ps r.1 lt)

below-append : (n : ℕ) (xs ys : List Piece) → Below n xs → Below n ys → Below n (xs ++ ys)
below-append n [] ys a b = b
below-append n (p ∷ xs) ys a b = (a.0, below-append n xs ys a.1 b)

below-front : (n : ℕ) (xs ys : List Piece) → Below n (xs ++ ys) → Below n xs
below-front n [] ys a = tt
below-front n (p ∷ xs) ys a = (a.0, below-front n xs ys a.1)

pub below-behind : (n : ℕ) (xs ys : List Piece) → Below n (xs ++ ys) → Below n ys
below-behind n [] ys a = a
below-behind n (p ∷ xs) ys a = below-behind n xs ys a.1

-- pages that end before a number have no row from there on
pub below-pages : (low n : ℕ) (xs : List (List Piece)) (i : ℕ) → AreFit xs → InOrder low (joined xs) → AllWithin (λ x. ltb (last_begin 0 x) n ≡ true) xs 0 i → i ≤ length xs → Below n (joined (take i xs))
below-pages low n xs zero fit r all le = tt
below-pages low n [] (suc i) fit r all le = tt
below-pages low n (x ∷ xs) (suc i) fit r all le =
    let here = all 0 x (omega arith) (omega arith) in
    let less : last_begin 0 x < n = grind (arith, nat_tests) in
    let least : 0 ≤ low = omega arith in
    below-append n x (joined (take i xs)) (below-page 0 n x (order-weaken 0 low x least (order-front low x (joined xs) r)) less)
    (below-pages (last_begin low x) n xs i fit.2 (order-back low x (joined xs) r) (λ k d a b. all (suc k) d (omega arith) (omega arith)) (omega arith))

below-fewer : (n : ℕ) (xs : List (List Piece)) (k i : ℕ) → k ≤ i → Below n (joined (take i xs)) → Below n (joined (take k xs))
below-fewer n xs zero i le b = tt
below-fewer n [] (suc k) i le b = tt
below-fewer n (x ∷ xs) (suc k) zero le b = absurd (omega arith)
below-fewer n (x ∷ xs) (suc k) (suc i) le b =
    below-append n x (joined (take k xs)) (below-front n x (joined (take i xs)) b) (below-fewer n xs k i (omega arith) (below-behind n x (joined (take i xs)) b))

-- the first page that ends after the number, or the last page
pub home-is : (n : ℕ) (xs : List (List Piece)) (i : ℕ) → 1 ≤ length xs → i ≤ length xs → Below (n + 1) (joined (take i xs)) → (i < length xs → n + 1 ≤ last_begin 0 (get_or xs i [])) → IsHome n xs (min i (length xs - 1))
home-is n xs i some le below reaches =
    let fewer : min i (length xs - 1) ≤ i = omega arith in
    record {
      bound = omega arith;
      front = below-fewer (n + 1) xs (min i (length xs - 1)) i fewer below;
      ends = ⊎_elim
          (λ (lt : i < length xs). let same : min i (length xs - 1) ≡ i = omega arith in inl (rw same (reaches lt)))
          (λ (past : length xs ≤ i). inr (omega arith))
          (cases_lt i (length xs));
    }

pub without-below : (n : ℕ) (ps : List Piece) → Below n ps → without n ps ≡ ps
without-below n [] b = refl
without-below n (p ∷ ps) b =
    let less : p.first < n = b.0 in
    let e : (p.first == n) ≡ false = grind (arith, nat_tests) in
    rw e (ap (λ l. p ∷ l) (without-below n ps b.1))

without-skip : (n : ℕ) (xs ys : List Piece) → Below n xs → without n (xs ++ ys) ≡ xs ++ without n ys
without-skip n [] ys b = refl
without-skip n (p ∷ xs) ys b =
    let less : p.first < n = b.0 in
    let e : (p.first == n) ≡ false = grind (arith, nat_tests) in
    rw e (ap (λ l. p ∷ l) (without-skip n xs ys b.1))

without-above : (n low : ℕ) (ps : List Piece) → n < low → InOrder low ps → without n ps ≡ ps
without-above n low [] lt r = refl
without-above n low (p ∷ ps) lt r =
    let here : low ≤ p.first = r.0 in
    let e : (p.first == n) ≡ false = grind (arith, nat_tests) in
    let more : n < p.first = omega arith in
    rw e (ap (λ l. p ∷ l) (without-above n p.first ps more r.1))

without-within : (low n : ℕ) (xs ys : List Piece) → 1 ≤ length xs → n ≤ last_begin low xs → InOrder low (xs ++ ys) → without n (xs ++ ys) ≡ without n xs ++ ys
without-within low n [] ys some le r = absurd (omega arith)
without-within low n (p ∷ []) ys some le r =
    elim (p.first == n) as (λ b. (p.first == n) ≡ b → cond b ys (p ∷ without n ys) ≡ cond b [] (p ∷ []) ++ ys) [
      | true ↦ λ e. refl
      | false ↦ λ e. let more : n < p.first = grind (arith, nat_tests) in ap (λ l. p ∷ l) (without-above n p.first ys more r.1)
    ] refl
without-within low n (p ∷ q ∷ xs) ys some le r =
    elim (p.first == n) as (λ b. cond b (q ∷ xs ++ ys) (p ∷ without n (q ∷ xs ++ ys)) ≡ cond b (q ∷ xs) (p ∷ without n (q ∷ xs)) ++ ys) [
      | true ↦ refl
      | false ↦ ap (λ l. p ∷ l) (without-within p.first n (q ∷ xs) ys (omega arith) le r.1)
    ]

-- a row is taken out of the first page that doesn't end before it
pub without-home : (low n : ℕ) (xs : List (List Piece)) (k : ℕ) → k < length xs → AreFit xs → InOrder low (joined xs) → Below n (joined (take k xs)) → n ≤ last_begin 0 (get_or xs k []) → without n (joined xs) ≡ joined (set xs k (without n (get_or xs k [])))
without-home low n [] k lt fit r below reach = absurd (omega arith)
without-home low n (x ∷ xs) zero lt fit r below reach =
    let same = same-end 0 low x fit.0 in
    without-within low n x (joined xs) fit.0 (omega (arith, same, reach)) r
without-home low n (x ∷ xs) (suc k) lt fit r below reach =
    without-skip n x (joined xs) (below-front n x (joined (take k xs)) below)
    ∙ ap (λ l. x ++ l) (without-home (last_begin low x) n xs k (omega arith) fit.2 (order-back low x (joined xs) r) (below-behind n x (joined (take k xs)) below) reach)

with-skip : (p : Piece) (xs ys : List Piece) → Below (p.first + 1) xs → with p (xs ++ ys) ≡ xs ++ with p ys
with-skip p [] ys b = refl
with-skip p (q ∷ xs) ys b =
    let less : q.first < p.first + 1 = b.0 in
    let e : ltb p.first q.first ≡ false = grind (arith, nat_tests) in
    rw e (ap (λ l. q ∷ l) (with-skip p xs ys b.1))

with-within : (low : ℕ) (p : Piece) (xs ys : List Piece) → low ≤ p.first → p.first + 1 ≤ last_begin low xs → with p (xs ++ ys) ≡ with p xs ++ ys
with-within low p [] ys above le = absurd (omega arith)
with-within low p (q ∷ xs) ys above le = ⊎_elim
    (λ (before : p.first < q.first). let e : ltb p.first q.first ≡ true = grind (arith, nat_tests) in rw e refl)
    (λ (after : q.first ≤ p.first). let e : ltb p.first q.first ≡ false = grind (arith, nat_tests) in rw e (ap (λ l. q ∷ l) (with-within q.first p xs ys after le)))
    (cases_lt p.first q.first)

-- a row is put into its page
pub with-home : (p : Piece) (xs : List (List Piece)) (k : ℕ) → k < length xs → Below (p.first + 1) (joined (take k xs)) → (p.first + 1 ≤ last_begin 0 (get_or xs k [])) ⊎ (k + 1 ≡ length xs) → with p (joined xs) ≡ joined (set xs k (with p (get_or xs k [])))
with-home p [] k lt below ends = absurd (omega arith)
with-home p (x ∷ []) zero lt below ends = ap (with p) (append-nil x) ∙ sym (append-nil (with p x))
with-home p (x ∷ y ∷ xs) zero lt below ends = ⊎_elim
    (λ (reach : p.first + 1 ≤ last_begin 0 x). with-within 0 p x (joined (y ∷ xs)) (omega arith) reach)
    (λ (end : zero + 1 ≡ length (x ∷ y ∷ xs)). absurd (omega arith))
    ends
with-home p (x ∷ xs) (suc k) lt below ends =
    with-skip p x (joined xs) (below-front (p.first + 1) x (joined (take k xs)) below)
    ∙ ap (λ l. x ++ l) (with-home p xs k (omega arith) (below-behind (p.first + 1) x (joined (take k xs)) below) (⊎_elim
    (λ (reach : p.first + 1 ≤ last_begin 0 (get_or xs k [])). inl reach)
    (λ (end : suc k + 1 ≡ length (x ∷ xs)). inr (omega arith))
    ends))

-- rows in order are so without a row
pub order-without : (n low : ℕ) (ps : List Piece) → InOrder low ps → InOrder low (without n ps)
order-without n low [] r = tt
order-without n low (p ∷ ps) r =
    elim (p.first == n) as (λ b. InOrder low (cond b ps (p ∷ without n ps))) [
      | true ↦ order-weaken low p.first ps r.0 r.1
      | false ↦ (r.0, order-without n p.first ps r.1)
    ]

-- and with one more
pub order-with : (p : Piece) (low : ℕ) (ps : List Piece) → low ≤ p.first → InOrder low ps → InOrder low (with p ps)
order-with p low [] le r = (le, tt)
order-with p low (q ∷ qs) le r = ⊎_elim
    (λ (before : p.first < q.first).
    let e : ltb p.first q.first ≡ true = grind (arith, nat_tests) in
    let less : p.first ≤ q.first = omega arith in
    rw e (le, (less, r.1)))
    (λ (after : q.first ≤ p.first).
    let e : ltb p.first q.first ≡ false = grind (arith, nat_tests) in
    rw e (r.0, order-with p q.first qs after r.1))
    (cases_lt p.first q.first)

-- where every page ends before the number, no row begins there
pub without-none : (n : ℕ) (xs : List (List Piece)) (i : ℕ) → length xs ≤ i → Below n (joined (take i xs)) → without n (joined xs) ≡ joined xs
without-none n xs i past below =
    let all : Below n (joined xs) = rw (take_all i xs past) at below in
    without-below n (joined xs) all
