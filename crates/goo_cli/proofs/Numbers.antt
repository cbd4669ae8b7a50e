-- Digits that are too great a number for the machine are too great for every limit.
use Rattle.std.proofs.Common.{rules, ◌≡◌, ◌&&◌, ◌<◌, ◌^◌, ℕ, List, None, Result, Err, Bool, true, false, length, nat_le, inl, inr, arith, refl, if◌then◌else◌, Some}
use Rattle.std.proofs.lemmas.Bool.{cases_Bool}
use Rattle.std.proofs.lemmas.Bool.Decides.{nat_tests}
use Rattle.std.specs.Char.{is_ascii_digit}
use Rattle.std.specs.List.{list_all}
use Rattle.std.specs.Str.Parse.{ParsesUnsigned, digits_value}
use Rattle.std.proofs.lemmas.Str.Parse.{IsNumeralModel, numerals_by_value, parse_gives}
use Rattle.goo_cli.specs.Values.{is_number, number_in}

abbrev AreDigits : List ℕ → Type 0
AreDigits text = list_all is_ascii_digit text ≡ true

own : IsNumeralModel AreDigits (digits_value 10)
own = numerals_by_value AreDigits (search rules)

fits : (n most : ℕ) → nat_le n most ≡ true → most < 2 ^ 64 → n < 2 ^ 64
fits n most within bound = grind (arith, nat_tests)

none-past : (a b : Bool) (n : ℕ) → b ≡ false → (if a && b then Some n else None) ≡ None
none-past true b n e = rw e refl
none-past false b n e = refl

pub none-unparsed : {E : Type 0} (text : List ℕ) (r : Result ℕ E) (e : E) (least most : ℕ) → ParsesUnsigned 64 10 text r → r ≡ Err e → is_number text ≡ true → most < 2 ^ 64 → number_in least most text ≡ None
none-unparsed text r e least most parsed fails number bound = elim (cases_Bool (nat_le (digits_value 10 text) most)) [
  | inl holds ↦
      let some : 0 < length text = grind (arith, nat_tests) in
      let digits : AreDigits text = search rules in
      let read = parse_gives own 64 text r parsed digits some (fits (digits_value 10 text) most holds bound) in
      cc (read, fails)
  | inr past ↦ none-past (is_number text && nat_le least (digits_value 10 text)) _ _ past
]
