-- The weighted sum of digits.
use Rattle.std.proofs.Common.{◌≡◌, ℕ, ◌+◌, ◌-◌, ◌*◌, ◌<◌, ◌≤◌, List, [], ◌∷◌, length, drop, get_or, true, ap, sym, ◌∙◌, arith}
use Rattle.std.proofs.lemmas.Grind.{common_steps}
use Rattle.std.specs.Char.{digit_value, is_ascii_digit}
use Rattle.std.specs.List.{list_all}
use Rattle.goo_types_forms.specs.CheckDigit.{weighted_sum, check_sum}
use Rattle.goo_types_forms.proofs.DigitsOf.{digit_in}
use Rattle.goo_types_forms.proofs.WeightLemmas.{check_sum-from_left}

-- the digits before place i are summed
pub record IsSummedTo (text : List ℕ) (i sum weight : ℕ) : Type 0 where
  pub total : sum + weighted_sum weight (drop i text) ≡ weighted_sum 3 text
  pub weight_low : 1 ≤ weight
  pub weight_high : weight ≤ 3
  pub small : sum ≤ 27 * i

pub IsSummedTo-start : (text : List ℕ) → IsSummedTo text 0 0 3
IsSummedTo-start text = record { total = omega arith; weight_low = omega arith; weight_high = omega arith; small = omega arith }

product_small : (w d : ℕ) → w ≤ 3 → d ≤ 9 → w * d ≤ 27
product_small w d h k = grind arith

pub digit_product : (text : List ℕ) (i w c : ℕ) → i < length text → c ≡ get_or text i 0 → list_all is_ascii_digit text ≡ true → w ≤ 3 → w * (c - 48) ≤ 27
digit_product text i w c low e h high = let d = digit_in text i c low e h in product_small w (c - 48) high (omega arith)

pub IsSummedTo-step : (text : List ℕ) (i sum w c : ℕ) → i < length text → c ≡ get_or text i 0 → list_all is_ascii_digit text ≡ true → IsSummedTo text i sum w
    → IsSummedTo text (i + 1) (sum + w * (c - 48)) (4 - w)
IsSummedTo-step text i sum w c low e h s =
    let d = digit_in text i c low e h in
    let cut : drop i text ≡ get_or text i 0 ∷ drop (i + 1) text = grind (arith, common_steps) in
    let first : weighted_sum w (drop i text) ≡ w * digit_value (get_or text i 0) + weighted_sum (4 - w) (drop (i + 1) text) = ap (weighted_sum w) cut in
    let value : digit_value (get_or text i 0) ≡ c - 48 = ap digit_value (sym e) ∙ d.2 in
    let product : w * digit_value (get_or text i 0) ≡ w * (c - 48) = ap (λ v. w * v) value in
    record {
      total = omega (arith, s.total, first, product);
      weight_low = omega (arith, s.weight_high);
      weight_high = omega (arith, s.weight_low);
      small = omega (arith, s.small, digit_product text i w c low e h s.weight_high);
    }

pub IsSummedTo-end : (text : List ℕ) (i sum w : ℕ) → length text ≡ 18 → length text ≤ i → IsSummedTo text i sum w → sum ≡ check_sum text
IsSummedTo-end text i sum w long h s =
    let none : drop i text ≡ [] = grind (arith, common_steps) in
    let whole : sum ≡ weighted_sum 3 text = omega (arith, s.total, ap (weighted_sum w) none) in
    whole ∙ check_sum-from_left text long
