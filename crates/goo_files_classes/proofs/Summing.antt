-- A count of certificates, number by number.
use Rattle.std.proofs.Common.{◌≡◌, ℕ, zero, suc, ◌+◌, ◌-◌, ◌<◌, ◌≤◌, ◌==◌, ◌&&◌, Bool, true, false, cond, if◌then◌else◌, List, [], ◌∷◌, Some, None, T, refl, sym, ap, ◌∙◌, arith}
use Rattle.std.specs.Prelude.{count_by, sum_by, nat_le}
use Rattle.std.specs.declared.cmp.Ordering.{Ordering}
use Rattle.std.specs.declared.cmp.Ordering.TheVariants.{Less, Equal, Greater}
use Rattle.std.specs.Ordering.{nat_cmp, is_lt, is_eq}
use Rattle.std.specs.Cmp.{nat_cmp_total, tied_itself}
use Rattle.std.specs.FinMap.{find, is_sorted, nat_cmp-IsAntisymmetric}
use Rattle.std.specs.FinMap.Entries.{below_all}
use Rattle.std.proofs.lemmas.Bool.{eqb-true, eq-eqb, false_from_ne_true}
use Rattle.std.proofs.lemmas.Bool.Decides.{nat_tests}
use Rattle.std.proofs.lemmas.List.Sums.{sum_by-cons}
use Rattle.goo_types.specs.Piece.{Label, label_of, covers, at_of, IsForward, IsRisingFrom}
use Rattle.goo_types.specs.declared.piece.Piece.{Piece}
use Rattle.goo_spec.proofs.Counting.{one, one_at}
use Rattle.goo_spec.proofs.Unique.{none_below}

-- ---- sums over the numbers below one

abbrev pub sum_below : ℕ → (ℕ → ℕ) → ℕ
sum_below zero h = 0
sum_below (suc n) h = sum_below n h + h n

pub alike : (n : ℕ) (h g : ℕ → ℕ) → ((k : ℕ) → h k ≡ g k) → sum_below n h ≡ sum_below n g
alike zero h g same = refl
alike (suc n) h g same = let rest = alike n h g same in let here = same n in omega (arith, rest, here)

zeros : (n : ℕ) → sum_below n (λ k. 0) ≡ 0
zeros zero = refl
zeros (suc n) = let rest = zeros n in omega (arith, rest)

adds : (n : ℕ) (h g : ℕ → ℕ) → sum_below n (λ k. h k + g k) ≡ sum_below n h + sum_below n g
adds zero h g = refl
adds (suc n) h g = let rest = adds n h g in omega (arith, rest)

-- ---- what one number adds

pick : (b : Bool) (c : ℕ) → b ≡ false → ◌≡◌ {A = ℕ} (cond b c 0) 0
pick b c is = ap (λ x. cond x c 0) is

taken : (b : Bool) (c : ℕ) → b ≡ true → ◌≡◌ {A = ℕ} (cond b c 0) c
taken b c is = ap (λ x. cond x c 0) is

not_yet : (k c n : ℕ) → n ≤ k → sum_below n (λ m. cond (m == k) c 0) ≡ 0
not_yet k c zero low = refl
not_yet k c (suc n) low =
    let rest = not_yet k c n (omega (arith, low)) in
    let other : (n == k) ≡ false = grind (arith, nat_tests, low) in
    let here = pick (n == k) c other in
    omega (arith, rest, here)

single : (k c n : ℕ) → k < n → sum_below n (λ m. cond (m == k) c 0) ≡ c
single k c zero low = absurd (omega (arith, low))
single k c (suc n) low =
    elim (n == k) as (λ b. (n == k) ≡ b → sum_below n (λ m. cond (m == k) c 0) + cond b c 0 ≡ c) [
      | true ↦ λ is. let same : n ≡ k = eqb-true n k is in let rest = not_yet k c n (omega (arith, same)) in omega (arith, rest)
      | false ↦ λ is. let other : k < n = grind (arith, nat_tests, low, is) in let rest = single k c n other in omega (arith, rest)
    ] refl

-- ---- entries in the order of their keys

first : (a b : Bool) → T (a && b) → T a
first true b p = tt
first false b p = p

second : (a b : Bool) → T (a && b) → T b
second true b p = p
second false b p = absurd p

less : (o : Ordering) → T (is_lt o) → o ≡ Less
less Less p = refl
less Equal p = absurd p
less Greater p = absurd p

module _ {X : Type 0} (p : ℕ × X → Bool) where
  find_below : (k : ℕ) (es : List (ℕ × X)) → T (below_all nat_cmp k es) → find nat_cmp k es ≡ None
  find_below k [] h = refl
  find_below k (e ∷ es) h = ap (λ r. cond (is_eq r) (Some e.1) (find nat_cmp k es)) (less _ (first _ _ h)) ∙ find_below k es (second _ _ h)

  -- a number above all keys
  abbrev pub beyond : List (ℕ × X) → ℕ
  beyond [] = 0
  beyond (e ∷ es) = suc e.0 + beyond es

  differs : (n k : ℕ) (o : Ordering) → nat_cmp n k ≡ o → is_eq o ≡ false → (n == k) ≡ false
  differs n k o is other = false_from_ne_true (n == k) (λ same.
      let tied : is_eq (nat_cmp n k) ≡ true = ap (λ (m : ℕ). is_eq (nat_cmp m k)) (eqb-true n k same) ∙ ap is_eq (tied_itself nat_cmp_total k) in
      let clash : true ≡ false = sym tied ∙ ap is_eq is ∙ other in
      cc)

  point : (n : ℕ) (e : ℕ × X) (es : List (ℕ × X)) → T (is_sorted nat_cmp (e ∷ es)) → one_at p n (find nat_cmp n (e ∷ es)) ≡ cond (n == e.0) (one p e) 0 + one_at p n (find nat_cmp n es)
  point n e es sorted =
      elim (nat_cmp n e.0) as (λ r. nat_cmp n e.0 ≡ r → one_at p n (cond (is_eq r) (Some e.1) (find nat_cmp n es)) ≡ cond (n == e.0) (one p e) 0 + one_at p n (find nat_cmp n es)) [
        | Less ↦ λ is. let none = pick (n == e.0) (one p e) (differs n e.0 Less is refl) in omega (arith, none)
        | Equal ↦ λ is.
            let key : n ≡ e.0 = nat_cmp-IsAntisymmetric n e.0 is in
            let here = taken (n == e.0) (one p e) (eq-eqb n e.0 key) in
            let same : one p (n, e.1) ≡ one p e = ap (λ (m : ℕ). one p (m, e.1)) key in
            let none : one_at p n (find nat_cmp n es) ≡ 0 = ap (one_at p n) (ap (λ (m : ℕ). find nat_cmp m es) key ∙ find_below e.0 es (first _ _ sorted)) in
            omega (arith, here, same, none)
        | Greater ↦ λ is. let none = pick (n == e.0) (one p e) (differs n e.0 Greater is refl) in omega (arith, none)
      ] refl

  -- the entries that pass a test, counted number by number
  pub by_number : (es : List (ℕ × X)) → T (is_sorted nat_cmp es) → (n : ℕ) → beyond es ≤ n → sum_below n (λ k. one_at p k (find nat_cmp k es)) ≡ count_by p es
  by_number [] sorted n far = zeros n
  by_number (e ∷ es) sorted n far =
      let more : beyond es ≤ n = omega (arith, far) in
      let rest : sum_below n (λ k. one_at p k (find nat_cmp k es)) ≡ count_by p es = by_number es (second (below_all nat_cmp e.0 es) (is_sorted nat_cmp es) sorted) n more in
      let here = single e.0 (one p e) n (omega (arith, far)) in
      let each = alike n (λ k. one_at p k (find nat_cmp k (e ∷ es))) (λ k. cond (k == e.0) (one p e) 0 + one_at p k (find nat_cmp k es)) (λ k. point k e es sorted) in
      let both = adds n (λ k. cond (k == e.0) (one p e) 0) (λ k. one_at p k (find nat_cmp k es)) in
      omega (arith, rest, here, each, both, sum_by-cons (one p) e es)

-- ---- runs

abbrev within : ℕ → ℕ → ℕ → ℕ
within a b n = cond (nat_le a n && nat_le n b) 1 0

before : (a b n : ℕ) → n ≤ a → sum_below n (within a b) ≡ 0
before a b zero low = refl
before a b (suc n) low =
    let rest = before a b n (omega (arith, low)) in
    let here : within a b n ≡ 0 = grind (arith, nat_tests, low) in
    omega (arith, rest, here)

during : (a b n : ℕ) → a ≤ n → n ≤ b + 1 → sum_below n (within a b) + a ≡ n
during a b zero low high = omega (arith, low)
during a b (suc n) low high =
    elim (nat_le a n) as (λ t. nat_le a n ≡ t → sum_below n (within a b) + cond (t && nat_le n b) 1 0 + a ≡ suc n) [
      | true ↦ λ is.
          let from : a ≤ n = grind (arith, nat_tests, is) in
          let rest = during a b n from (omega (arith, high)) in
          let here : ◌≡◌ {A = ℕ} (cond (nat_le n b) 1 0) 1 = grind (arith, nat_tests, high) in
          omega (arith, rest, here)
      | false ↦ λ is.
          let at_once : a ≡ suc n = grind (arith, nat_tests, low, is) in
          let none = before a b n (omega (arith, at_once)) in
          omega (arith, none, at_once)
    ] refl

after : (a b n : ℕ) → a ≤ b → b + 1 ≤ n → sum_below n (within a b) + a ≡ b + 1
after a b zero forward far = absurd (omega (arith, far))
after a b (suc n) forward far =
    elim (nat_le n b) as (λ t. nat_le n b ≡ t → sum_below n (within a b) + cond (nat_le a n && t) 1 0 + a ≡ b + 1) [
      | true ↦ λ is.
          let last : n ≡ b = grind (arith, nat_tests, far, is) in
          let rest = during a b n (omega (arith, last, forward)) (omega (arith, last)) in
          let here : ◌≡◌ {A = ℕ} (cond (nat_le a n && true) 1 0) 1 = grind (arith, nat_tests, last, forward) in
          omega (arith, rest, here, last)
      | false ↦ λ is.
          let more : b + 1 ≤ n = grind (arith, nat_tests, far, is) in
          let rest = after a b n forward more in
          let none : ◌≡◌ {A = ℕ} (cond (nat_le a n && false) 1 0) 0 = grind (arith, nat_tests) in
          omega (arith, rest, none)
    ] refl

-- a number above all of these runs
abbrev pub above : List Piece → ℕ
above [] = 0
above (r ∷ rs) = suc r.last + above rs

module _ (p : ℕ × Label → Bool) (test : Piece → Bool) (whole : (r : Piece) → IsForward r → (n : ℕ) → r.first ≤ n → n ≤ r.last → p (n, label_of r) ≡ test r) where
  -- what a number of a run adds
  abbrev adding : Piece → ℕ → ℕ
  adding r n = cond (test r) (within r.first r.last n) 0

  -- what a run adds
  abbrev pub count_if : Piece → ℕ
  count_if r = cond (test r) (r.last - r.first + 1) 0

  of_run : (r : Piece) (n : ℕ) → r.first ≤ r.last → r.last + 1 ≤ n → sum_below n (adding r) ≡ count_if r
  of_run r n forward far =
      elim (test r) as (λ b. sum_below n (λ k. cond b (within r.first r.last k) 0) ≡ cond b (r.last - r.first + 1) 0) [
        | true ↦ let all = after r.first r.last n forward far in omega (arith, all, forward)
        | false ↦ zeros n
      ]

  point_of_run : (n : ℕ) (r : Piece) (rs : List Piece) → IsForward r → IsRisingFrom (r.last + 1) rs → one_at p n (at_of (r ∷ rs) n) ≡ adding r n + one_at p n (at_of rs n)
  point_of_run n r rs forward rising =
      elim (covers r n) as (λ b. covers r n ≡ b → one_at p n (if b then Some (label_of r) else at_of rs n) ≡ cond (test r) (cond b 1 0) 0 + one_at p n (at_of rs n)) [
        | true ↦ λ is.
            let from : r.first ≤ n = grind (arith, nat_tests, is) in
            let to : n ≤ r.last = grind (arith, nat_tests, is) in
            let none : one_at p n (at_of rs n) ≡ 0 = ap (one_at p n) (none_below (r.last + 1) rs n rising (omega (arith, to))) in
            let here : one p (n, label_of r) ≡ cond (test r) 1 0 = ap (λ b. cond b 1 0) (whole r forward n from to) in
            omega (arith, none, here)
        | false ↦ λ is. let none : ◌≡◌ {A = ℕ} (cond (test r) 0 0) 0 = never (test r) in omega (arith, none)
      ] refl
    where
      never : (b : Bool) → ◌≡◌ {A = ℕ} (cond b 0 0) 0
      never true = refl
      never false = refl

  -- the certificates of runs that pass a test, counted number by number
  pub by_run : (low : ℕ) (rs : List Piece) → IsRisingFrom low rs → (n : ℕ) → above rs ≤ n → sum_below n (λ k. one_at p k (at_of rs k)) ≡ sum_by count_if rs
  by_run low [] rising n far = zeros n
  by_run low (r ∷ rs) rising n far =
      let rest = by_run (r.last + 1) rs rising.2 n (omega (arith, far)) in
      let here = of_run r n rising.1.0 (omega (arith, far)) in
      let each = alike n (λ k. one_at p k (at_of (r ∷ rs) k)) (λ k. adding r k + one_at p k (at_of rs k)) (λ k. point_of_run k r rs rising.1 rising.2) in
      let both = adds n (adding r) (λ k. one_at p k (at_of rs k)) in
      omega (arith, rest, here, each, both, sum_by-cons count_if r rs)
