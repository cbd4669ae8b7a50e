-- The text of a correction is read back.
use Rattle.std.proofs.Common.{◌≡◌, ℕ, List, [], ◌∷◌, length, false, Option, Some, None, Ok, refl, arith}
use Rattle.json.proofs.Printed.Decimals.{IsNumber-decimal}
use Rattle.serde_json.proofs.Numbers.{number_of-decimal}
use Rattle.serde_json.specs.Written.{has_float}
use Rattle.goo_types.specs.Range.{Numbers}
use Rattle.goo_types.specs.Texts.{number_text, digits}
use Rattle.goo_types.proofs.DigitTextLemmas.{length-digits}
use Rattle.goo_types.specs.declared.command.Correct.{Correct}
use Rattle.goo_types.proofs.DayLemmas.{day_reading-day_text}
use Rattle.goo_notice.specs.Correct.{first_text, last_text, correct_data, IsRangeIfAny, IsCorrect, is_empty, range_if_any, correct_of}
use Rattle.goo_notice_json.proofs.FieldLemmas.{fits, is_in_range-true, range_of-texts}
use Rattle.goo_notice_json.proofs.TextLemmas.{ReadsBack}

pub no_float : (c : Correct) → has_float (correct_data c) ≡ false
no_float c = refl

pub reads_back : (c : Correct) → IsCorrect c → ReadsBack (correct_data c)
reads_back c h = record {
  numbers = (tt, (tt, (tt, (tt, (tt, (IsNumber-decimal c.less (fits 0 1000000000000000 c.less h.less (omega arith)), (tt, tt)))))));
  shallow = omega arith;
  again = rw (number_of-decimal c.less (fits 0 1000000000000000 c.less h.less (omega arith))) refl;
}

long : (text : List ℕ) → length text ≡ 14 → is_empty text ≡ false
long [] h = absurd (omega (arith, h))
long (n ∷ ns) h = refl

not_empty : (n : ℕ) → is_empty (number_text n) ≡ false
unfolding number_text
not_empty n = long (digits 14 n) (length-digits 14 n)

range_again : (o : Option Numbers) → IsRangeIfAny o → range_if_any (first_text o) (last_text o) ≡ Ok o
range_again None h = refl
range_again (Some r) h = rw (not_empty r.first, range_of-texts r h.0 h.1 h.2) refl

pub stated : (c : Correct) → IsCorrect c → correct_of 0 (correct_data c) ≡ Ok c
unfolding correct_of
stated c h = rw (h.device, day_reading-day_text c.first_day h.first_day, is_in_range-true 0 1000000000000000 c.less h.less, range_again c.range h.range, h.reason) refl
