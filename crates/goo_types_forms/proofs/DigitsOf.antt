-- The digits of a text.
use Rattle.std.proofs.Common.{◌≡◌, inl, inr, ℕ, ◌-◌, ◌<◌, ◌≤◌, true, List, length, get_or, sym, ap, ◌∙◌, arith}
use Rattle.std.proofs.lemmas.Bool.Decides.{nat_tests}
use Rattle.std.proofs.lemmas.Bool.{false≢true, cases_Bool}
use Rattle.std.proofs.lemmas.List.Folds.{list_all_at}
use Rattle.std.specs.Char.{digit_value, is_ascii_digit}
use Rattle.std.specs.List.{list_all}

-- a digit's value
pub digit_value-digit : (c : ℕ) → is_ascii_digit c ≡ true → (48 ≤ c) × (c ≤ 57) × (digit_value c ≡ c - 48)
digit_value-digit c h = grind (arith, nat_tests)

digit_at : (text : List ℕ) (i : ℕ) → i < length text → list_all is_ascii_digit text ≡ true → is_ascii_digit (get_or text i 0) ≡ true
digit_at text i low h = elim (cases_Bool (is_ascii_digit (get_or text i 0))) [
  | inl is ↦ is
  | inr is ↦ absurd (false≢true (sym (list_all_at is_ascii_digit text i 0 low is) ∙ h))
]

-- a digit of the text, and what it counts
pub digit_in : (text : List ℕ) (i c : ℕ) → i < length text → c ≡ get_or text i 0 → list_all is_ascii_digit text ≡ true → (48 ≤ c) × (c ≤ 57) × (digit_value c ≡ c - 48)
digit_in text i c low e h = digit_value-digit c (ap is_ascii_digit e ∙ digit_at text i low h)
