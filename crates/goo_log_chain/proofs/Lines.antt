-- A report is read line by line.
use Rattle.std.proofs.Common.{◌≡◌, ◌≢◌, ◌<◌, ◌≤◌, ◌+◌, ◌-◌, ◌∙◌, ℕ, suc, true, false, List, [], ◌∷◌, ◌++◌, length, take, drop, get_or, cond, refl, ap, add-one, arith, append_assoc, drop-cons, length-drop}
use Rattle.std.specs.Prelude.{slice_range}
use Rattle.std.specs.Char.{is_ascii_digit}
use Rattle.std.proofs.lemmas.Bool.{ne_eqb}
use Rattle.std.proofs.lemmas.Grind.{common_steps}
use Rattle.std.proofs.lemmas.List.{take_all}
use Rattle.std.proofs.Math.Seq.{take-suc}
use Rattle.std.proofs.Math.ListN.{drop_of_length-le}
use Rattle.goo_log_chain.specs.Rows.{row, rows_behind, digits}

pub digits_short : (line : List ℕ) → digits line ≤ length line
digits_short [] = omega arith
digits_short (x ∷ xs) =
    let rest = digits_short xs in
    elim (is_ascii_digit x) as (λ b. cond b (1 + digits xs) 0 ≤ length (x ∷ xs)) [ true ↦ omega (arith, rest) | false ↦ omega arith ]

get_or-drop : (xs : List ℕ) (s k : ℕ) → get_or (drop s xs) k 0 ≡ get_or xs (s + k) 0
get_or-drop xs s k = grind (arith, common_steps)

-- one byte more of a line
longer : (xs : List ℕ) (s i : ℕ) → s ≤ i → i < length xs → slice_range xs s (i + 1) ≡ slice_range xs s i ++ get_or xs i 0 ∷ []
longer xs s i h k =
    let far : i + 1 - s ≡ suc (i - s) = omega arith in
    let len = length-drop s xs in
    let at : get_or (drop s xs) (i - s) 0 ≡ get_or xs i 0 = get_or-drop xs s (i - s) ∙ ap (λ j. get_or xs j 0) (omega arith) in
    ap (λ n. take n (drop s xs)) far
    ∙ take-suc (drop s xs) (i - s) 0 (omega (arith, len))
    ∙ ap (λ b. take (i - s) (drop s xs) ++ b ∷ []) at

pub byte_more : (xs out : List ℕ) (s i : ℕ) → s ≤ i → i < length xs → get_or xs i 0 ≢ 10
    → out ++ rows_behind (slice_range xs s i) (drop i xs) ≡ out ++ rows_behind (slice_range xs s (i + 1)) (drop (i + 1) xs)
unfolding rows_behind
byte_more xs out s i h k other = rw (drop-cons xs i 0 k, ne_eqb (get_or xs i 0) 10 other, longer xs s i h k, add-one) refl

pub line_more : (xs out : List ℕ) (s i : ℕ) → i < length xs → get_or xs i 0 ≡ 10
    → out ++ rows_behind (slice_range xs s i) (drop i xs)
    ≡ ((out ++ row (slice_range xs s i)) ++ 10 ∷ []) ++ rows_behind (slice_range xs (i + 1) (i + 1)) (drop (i + 1) xs)
unfolding rows_behind
line_more xs out s i k end =
    let none : i + 1 - (i + 1) ≡ 0 = omega arith in
    rw (drop-cons xs i 0 k, end, none, add-one) (simp append_assoc refl)

pub last_line : (xs out : List ℕ) (s i : ℕ) → s ≤ i → length xs ≤ i
    → out ++ rows_behind (slice_range xs s i) (drop i xs) ≡ out ++ row (drop s xs)
unfolding rows_behind
last_line xs out s i h k =
    let len = length-drop s xs in
    rw (drop_of_length-le xs k, take_all (i - s) (drop s xs) (omega (arith, len))) refl

pub whole_rest : (xs : List ℕ) (s : ℕ) → take (length xs - s) (drop s xs) ≡ drop s xs
whole_rest xs s = let len = length-drop s xs in take_all (length xs - s) (drop s xs) (omega (arith, len))
