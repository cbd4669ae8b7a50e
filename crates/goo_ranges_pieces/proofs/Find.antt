-- The least number of a span that passes a test.
use Rattle.std.proofs.Common.{◌≡◌, ℕ, zero, suc, ◌+◌, ◌-◌, ◌<◌, ◌≤◌, List, [], ◌∷◌, Bool, true, false, Some, None, refl, ap, ◌∙◌, ⊎_elim, arith}
use Rattle.std.specs.List.{find}
use Rattle.goo_spec.specs.Maps.{numbers_from}
use Rattle.std.proofs.lemmas.Bool.{cases_lt}
use Rattle.goo_ranges_pieces.specs.Walk.{span}

find_skip : (test : ℕ → Bool) (count low middle : ℕ) → low ≤ middle → middle ≤ low + count → ((m : ℕ) → low ≤ m → m < middle → test m ≡ false) → find test (numbers_from low count) ≡ find test (numbers_from middle (low + count - middle))
find_skip test zero low middle up within none = let e : low + 0 - middle ≡ 0 = omega arith in rw e refl
find_skip test (suc count) low middle up within none =
    ⊎_elim
    (λ (lt : low < middle).
    let e : low + 1 + count - middle ≡ low + suc count - middle = omega arith in
    let here = none low (omega arith) lt in
    let later = find_skip test count (low + 1) middle (omega arith) (omega arith) (λ m a b. none m (omega arith) b) in
    rw here (later ∙ ap (λ k. find test (numbers_from middle k)) e))
    (λ (ge : middle ≤ low).
    let e : low + suc count - middle ≡ suc count = omega arith in
    let s : middle ≡ low = omega arith in
    rw (e, s) refl)
    (cases_lt low middle)

-- numbers that fail the test can be left out at the front
pub find-span-skip : (test : ℕ → Bool) (low middle high : ℕ) → low ≤ middle → middle ≤ high → ((m : ℕ) → low ≤ m → m < middle → test m ≡ false) → find test (span low high) ≡ find test (span middle high)
find-span-skip test low middle high up within none =
    let e : low + (high - low) - middle ≡ high - middle = omega arith in
    find_skip test (high - low) low middle up (omega arith) none ∙ ap (λ k. find test (numbers_from middle k)) e

pub find-span-here : (test : ℕ → Bool) (low high : ℕ) → low < high → test low ≡ true → find test (span low high) ≡ Some low
find-span-here test low high lt here =
    let e : high - low ≡ suc (high - low - 1) = omega arith in
    rw (e, here) refl

pub find-span-empty : (test : ℕ → Bool) (low high : ℕ) → high ≤ low → find test (span low high) ≡ None
find-span-empty test low high le = let e : high - low ≡ 0 = omega arith in rw e refl

pub find-span-some : (test : ℕ → Bool) (low middle high : ℕ) → low ≤ middle → middle < high → ((m : ℕ) → low ≤ m → m < middle → test m ≡ false) → test middle ≡ true → find test (span low high) ≡ Some middle
find-span-some test low middle high up lt none here =
    find-span-skip test low middle high up (omega arith) none ∙ find-span-here test middle high lt here

pub find-span-none : (test : ℕ → Bool) (low high : ℕ) → ((m : ℕ) → low ≤ m → m < high → test m ≡ false) → find test (span low high) ≡ None
find-span-none test low high none =
    ⊎_elim
    (λ (lt : low < high). find-span-skip test low high high (omega arith) (omega arith) none ∙ find-span-empty test high high (omega arith))
    (λ (ge : high ≤ low). find-span-empty test low high ge)
    (cases_lt low high)

-- what a least number tells
pub record IsLeast (test : ℕ → Bool) (low high n : ℕ) : Type 0 where
  pub above : low ≤ n
  pub below : n < high
  pub passes : test n ≡ true
  pub least : (m : ℕ) → low ≤ m → m < n → test m ≡ false

least-of_numbers : (test : ℕ → Bool) (count low n : ℕ) → find test (numbers_from low count) ≡ Some n → IsLeast test low (low + count) n
least-of_numbers test zero low n e = absurd (cc)
least-of_numbers test (suc count) low n e =
    elim (test low) as (λ b. test low ≡ b → IsLeast test low (low + suc count) n) [
      | true ↦ λ (yes : test low ≡ true).
          let found : Some low ≡ Some n = rw yes at e in
          let same : low ≡ n = cc in
          record { above = omega (arith, same); below = omega (arith, same); passes = rw (← same) yes; least = λ m from to. absurd (omega (arith, same, from, to)) }
      | false ↦ λ (no : test low ≡ false).
          let later = least-of_numbers test count (low + 1) n (rw no at e) in
          let from : low + 1 ≤ n = later.above in
          let to : n < low + 1 + count = later.below in
          record {
            above = omega (arith, from);
            below = omega (arith, to);
            passes = later.passes;
            least = λ m above below. ⊎_elim
                (λ (lt : low < m). later.least m (omega (arith, lt)) below)
                (λ (ge : m ≤ low). let same : m ≡ low = omega (arith, ge, above) in rw same no)
                (cases_lt low m);
          }
    ] refl

pub least-of_span : (test : ℕ → Bool) (low high n : ℕ) → low ≤ high → find test (span low high) ≡ Some n → IsLeast test low high n
least-of_span test low high n up e =
    let whole : low + (high - low) ≡ high = omega (arith, up) in
    let found = least-of_numbers test (high - low) low n e in
    rw whole at found

none-of_numbers : (test : ℕ → Bool) (count low : ℕ) → find test (numbers_from low count) ≡ None → (m : ℕ) → low ≤ m → m < low + count → test m ≡ false
none-of_numbers test zero low e m above below = absurd (omega (arith, above, below))
none-of_numbers test (suc count) low e m above below =
    elim (test low) as (λ b. test low ≡ b → test m ≡ false) [
      | true ↦ λ (yes : test low ≡ true). let bad : Some low ≡ None = rw yes at e in absurd (cc)
      | false ↦ λ (no : test low ≡ false).
          ⊎_elim
          (λ (lt : low < m). none-of_numbers test count (low + 1) (rw no at e) m (omega (arith, lt)) (omega (arith, below)))
          (λ (ge : m ≤ low). let same : m ≡ low = omega (arith, ge, above) in rw same no)
          (cases_lt low m)
    ] refl

-- where none is found, none passes
pub none-of_span : (test : ℕ → Bool) (low high : ℕ) → find test (span low high) ≡ None → (m : ℕ) → low ≤ m → m < high → test m ≡ false
none-of_span test low high e m above below = none-of_numbers test (high - low) low e m above (omega (arith, above, below))

-- two tests that agree on each number find the same
pub find-alike : (one other : ℕ → Bool) (ns : List ℕ) → ((n : ℕ) → one n ≡ other n) → find one ns ≡ find other ns
find-alike one other [] same = refl
find-alike one other (n ∷ ns) same =
    let here = same n in
    let rest = find-alike one other ns same in
    elim (other n) as (λ b. one n ≡ b → other n ≡ b → find one (n ∷ ns) ≡ find other (n ∷ ns)) [
      | true ↦ λ e f. rw (e, f) refl
      | false ↦ λ e f. rw (e, f) rest
    ] here refl
