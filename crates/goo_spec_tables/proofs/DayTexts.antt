-- The order of days' texts is that of days.
use Rattle.std.proofs.Common.{◌≡◌, inl, inr, ℕ, zero, suc, ◌+◌, ◌*◌, ◌/◌, ◌%◌, ◌^◌, ◌<◌, List, [], ◌∷◌, ◌++◌, Bool, true, false, Some, None, append_assoc, refl, sym, ap, subst, pos, ◌∙◌, arith, nat_lt}
use Rattle.std.specs.Prelude.{if◌then◌else◌}
use Rattle.std.specs.declared.cmp.Ordering.{Ordering}
use Rattle.std.specs.declared.cmp.Ordering.TheVariants.{Less, Equal, Greater}
use Rattle.std.specs.Bool.{one_answer}
use Rattle.std.specs.Ordering.{nat_cmp, ordering_then, is_lt}
use Rattle.std.specs.Cmp.{nat_cmp_is}
use Rattle.std.proofs.lemmas.Bool.{cases_order, ltb-true, lt-ltb, ltb-false}
use Rattle.std.proofs.lemmas.List.{append-nil}
use native.Mathlib.Numerals.{unary_clauses}
use Rattle.sqlite_typed.specs.Tests.{bytes_lt, bytes_cmp}
use Rattle.jiff_core.proofs.CalendarLemmas.{days_in_month_bounds}
use Rattle.goo_types.specs.Day as day
use Rattle.goo_types.specs.Day.{CalendarDay, IsDay, day_number, months_after, day_in_month}
use Rattle.goo_types.specs.Texts.{digits, day_text}
use Rattle.goo_types.proofs.DayOrderLemmas.{compared, is_earlier, Decides-is_earlier}

then_then : (a b c : Ordering) → ordering_then a (ordering_then b c) ≡ ordering_then (ordering_then a b) c
then_then Less b c = refl
then_then Equal b c = refl
then_then Greater b c = refl

last_digit : (a b : ℕ) → a / 10 ≡ b / 10 → nat_cmp (48 + a % 10) (48 + b % 10) ≡ nat_cmp a b
last_digit a b eq = elim (cases_order (a % 10) (b % 10)) [
  | inr (inl lt) ↦ sym (nat_cmp_is (48 + a % 10) (48 + b % 10) Less (omega (arith, lt))) ∙ nat_cmp_is a b Less (omega (arith, eq, lt))
  | inl same ↦ sym (nat_cmp_is (48 + a % 10) (48 + b % 10) Equal (omega (arith, same))) ∙ nat_cmp_is a b Equal (omega (arith, eq, same))
  | inr (inr gt) ↦ sym (nat_cmp_is (48 + a % 10) (48 + b % 10) Greater (omega (arith, gt))) ∙ nat_cmp_is a b Greater (omega (arith, eq, gt))
]

-- the last digit decides where the rest is the same
parted : (a b : ℕ) → ordering_then (nat_cmp (a / 10) (b / 10)) (nat_cmp (48 + a % 10) (48 + b % 10)) ≡ nat_cmp a b
parted a b = elim (cases_order (a / 10) (b / 10)) [
  | inr (inl lt) ↦ (λ i. ordering_then (sym (nat_cmp_is (a / 10) (b / 10) Less lt) i) (nat_cmp (48 + a % 10) (48 + b % 10))) ∙ nat_cmp_is a b Less (omega (arith, lt))
  | inr (inr gt) ↦ (λ i. ordering_then (sym (nat_cmp_is (a / 10) (b / 10) Greater gt) i) (nat_cmp (48 + a % 10) (48 + b % 10))) ∙ nat_cmp_is a b Greater (omega (arith, gt))
  | inl eq ↦ (λ i. ordering_then (sym (nat_cmp_is (a / 10) (b / 10) Equal eq) i) (nat_cmp (48 + a % 10) (48 + b % 10))) ∙ last_digit a b eq
]

tenth : (a p : ℕ) → a < p * 10 → a / 10 < p
tenth a p low = omega (arith, low)

nothing_left : (a b : ℕ) → a < 1 → b < 1 → Equal ≡ nat_cmp a b
nothing_left a b x y = nat_cmp_is a b Equal (omega (arith, x, y))

-- so many digits, and what stands behind them
digits_cmp : (count a b : ℕ) (xs ys : List ℕ) → a < 10 ^ count → b < 10 ^ count → bytes_cmp (digits count a ++ xs) (digits count b ++ ys) ≡ ordering_then (nat_cmp a b) (bytes_cmp xs ys)
unfolding digits
digits_cmp zero a b xs ys x y = ap (λ r. ordering_then r (bytes_cmp xs ys)) (nothing_left a b x y)
digits_cmp (suc count) a b xs ys x y =
    (λ i. bytes_cmp (append_assoc (digits count (a / 10)) ((48 + a % 10) ∷ []) xs i) (append_assoc (digits count (b / 10)) ((48 + b % 10) ∷ []) ys i))
    ∙ digits_cmp count (a / 10) (b / 10) ((48 + a % 10) ∷ xs) ((48 + b % 10) ∷ ys) (tenth a (10 ^ count) (simp unary_clauses at x)) (tenth b (10 ^ count) (simp unary_clauses at y))
    ∙ then_then (nat_cmp (a / 10) (b / 10)) (nat_cmp (48 + a % 10) (48 + b % 10)) (bytes_cmp xs ys)
    ∙ ap (λ r. ordering_then r (bytes_cmp xs ys)) (parted a b)

compared_so : (y m d : Ordering) → is_lt (ordering_then y (ordering_then m d)) ≡ compared y m d
compared_so Less m d = refl
compared_so Equal Less d = refl
compared_so Equal Equal d = refl
compared_so Equal Greater d = refl
compared_so Greater m d = refl

last_is : (d : Ordering) → ordering_then d Equal ≡ d
last_is Less = refl
last_is Equal = refl
last_is Greater = refl

days_cmp : (a b : CalendarDay) → IsDay a → IsDay b → bytes_cmp (day_text a) (day_text b) ≡ ordering_then (nat_cmp a.year b.year) (ordering_then (nat_cmp a.month b.month) (nat_cmp a.day b.day))
unfolding day_text
days_cmp a b h k =
    let long = days_in_month_bounds (pos a.year) a.month in
    let long_too = days_in_month_bounds (pos b.year) b.month in
    let ends = digits_cmp 2 a.day b.day [] [] (omega (arith, h.2, long.0)) (omega (arith, k.2, long_too.0)) ∙ last_is (nat_cmp a.day b.day) in
    digits_cmp 4 a.year b.year _ _ (omega (arith, h.0)) (omega (arith, k.0))
    ∙ ap (ordering_then (nat_cmp a.year b.year)) (digits_cmp 2 a.month b.month _ _ (omega (arith, h.1)) (omega (arith, k.1)) ∙ ap (ordering_then (nat_cmp a.month b.month)) ((λ i. bytes_cmp (sym (append-nil (digits 2 a.day)) i) (sym (append-nil (digits 2 b.day)) i)) ∙ ends))

pub earlier_text : (a b : CalendarDay) → IsDay a → IsDay b → bytes_lt (day_text a) (day_text b) ≡ nat_lt (day_number a) (day_number b)
earlier_text a b h k =
    ap is_lt (days_cmp a b h k) ∙ compared_so (nat_cmp a.year b.year) (nat_cmp a.month b.month) (nat_cmp a.day b.day)
    ∙ one_answer (is_earlier a b) (nat_lt (day_number a) (day_number b)) (Decides-is_earlier a b h k) (ltb-true (day_number a) (day_number b), lt-ltb (day_number a) (day_number b))

-- a day some months after one of the calendar is one
pub later_day : (d : CalendarDay) (k : ℕ) (e : CalendarDay) → IsDay d → months_after d k ≡ Some e → IsDay e
later_day d k e h is = go (nat_lt 2099 (t / 12)) refl is
  where
    t : ℕ
    t = day.month_number d + k

    go : (b : Bool) → nat_lt 2099 (t / 12) ≡ b → (if b then None else Some (day_in_month t d.day)) ≡ Some e → IsDay e
    go true late none = absurd cc
    go false early some =
        let long = days_in_month_bounds (pos (t / 12)) (t % 12 + 1) in
        let same : day_in_month t d.day ≡ e = cc in
        subst IsDay same ((omega (arith, h), ltb-false 2099 (t / 12) early), (omega arith, omega arith), (omega (arith, h, long), omega (arith, h)))
