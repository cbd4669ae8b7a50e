-- A text with a line feed at its first place for one, and a text with none.
use Rattle.std.proofs.Common.{◌≡◌, ◌==◌, ℕ, List, Some, None, Bool, false, take, drop, length, ◌+◌, ◌-◌, ◌≤◌, ◌∷◌, [], arith, position, inl, inr}
use Rattle.std.specs.List.{position_or_len}
use Rattle.std.proofs.lemmas.Bool.{cases_Bool, ltb-true}
use Rattle.std.proofs.lemmas.Bool.Decides.{nat_tests}
use Rattle.std.proofs.lemmas.List.Elements.{All-from_get_or}
use Rattle.std.proofs.lemmas.List.Splits.{slice_split_first, slice_split_none}
use Rattle.std.proofs.lemmas.List.Sums.{fails_before_first}
use Rattle.std.proofs.lemmas.List.{take_rest}
use Rattle.std.proofs.Math.Dec.{ltb}
use Rattle.goo_desk_lines.specs.Lines.{lines_of}

abbrev is_line_feed : ℕ → Bool
is_line_feed b = b == 10

abbrev feed_at : List ℕ → ℕ
feed_at text = position_or_len is_line_feed text

pub split-at : (text : List ℕ) (at : ℕ) → Some at ≡ position (λ b. b == 10) text → lines_of text ≡ take at text ∷ lines_of (take (length text - (at + 1)) (drop (at + 1) text))
split-at text at e = elim (cases_Bool (ltb (feed_at text) (length text))) [
  | inl holds ↦
      let found : Some at ≡ Some (feed_at text) = rw holds at e in
      let same : at ≡ feed_at text = cc found in
      rw (same, take_rest) (slice_split_first is_line_feed text 0 (ltb-true _ _ holds))
  | inr fails ↦ let none : Some at ≡ None = rw fails at e in cc none
]

pub split-none : (text : List ℕ) → None ≡ position (λ b. b == 10) text → lines_of text ≡ text ∷ []
split-none text e = elim (cases_Bool (ltb (feed_at text) (length text))) [
  | inl holds ↦ let some : None ≡ Some (feed_at text) = rw holds at e in cc some
  | inr fails ↦
      let whole : length text ≤ feed_at text = grind (arith, nat_tests, fails) in
      slice_split_none is_line_feed text (All-from_get_or (λ b. is_line_feed b ≡ false) text 0 (λ i h. fails_before_first is_line_feed text i 0 (omega (arith, whole, h))))
]
