-- The fields of a text are read back.
use Rattle.std.proofs.Common.{◌≡◌, ℕ, ◌^◌, ◌<◌, true, Result, Ok, refl, arith}
use Rattle.std.proofs.lemmas.Bool.Decides.{nat_tests}
use Rattle.std.specs.Int.{IsInRange}
use Rattle.goo_types.specs.Number.{IsNumber}
use Rattle.goo_types.specs.Range.{Numbers, IsRange}
use Rattle.goo_types.specs.Support.{support_word, support_reading}
use Rattle.goo_types.specs.declared.number.NumberFault.{NumberFault}
use Rattle.goo_types.specs.declared.support.Support.{Support}
use Rattle.goo_types.specs.declared.support.Support.TheVariants as support
use Rattle.goo_types.specs.Texts.{number_text}
use Rattle.goo_types.proofs.NumberLemmas.{number_reading-number_text}
use Rattle.goo_notice_json.specs.Faults.{◌>>=◌}
use Rattle.goo_notice_json.specs.Fields.{as_field, accepted, is_in_range, is_range, range_of}

-- a limited number has at most 64 bits
pub fits : (low high n : ℕ) → IsInRange low high n → high < 2 ^ 64 → n < 2 ^ 64
fits low high n h small = omega (arith, h, small)

pub is_in_range-true : (low high n : ℕ) → IsInRange low high n → is_in_range low high n ≡ true
is_in_range-true low high n h = grind (arith, nat_tests, h)

is_range-true : (r : Numbers) → IsRange r → is_range r ≡ true
is_range-true r h = grind (arith, nat_tests, h.rising, h.one_code)

both_read : (a b : Result ℕ NumberFault) (r : Numbers) → a ≡ Ok r.first → b ≡ Ok r.last → is_range r ≡ true
    → (as_field a >>= λ first. as_field b >>= λ last. accepted is_range (record { first = first; last = last })) ≡ Ok r
both_read a b r e f g = rw (e, f, g) refl

pub range_of-texts : (r : Numbers) → IsNumber r.first → IsNumber r.last → IsRange r → range_of (number_text r.first) (number_text r.last) ≡ Ok r
unfolding range_of
range_of-texts r first last h = both_read _ _ r (number_reading-number_text r.first first) (number_reading-number_text r.last last) (is_range-true r h)

pub support_reading-support_word : (s : Support) → support_reading (support_word s) ≡ Ok s
support_reading-support_word support.None = refl
support_reading-support_word support.Investment = refl
support_reading-support_word support.Production = refl
support_reading-support_word support.Both = refl
