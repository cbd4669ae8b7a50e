-- Texts that a reader accepts are short.
use Rattle.std.proofs.Common.{◌≡◌, ℕ, ◌≤◌, ◌==◌, List, ◌∷◌, length, length-append, Bool, true, false, not, nat_lt, Result, Ok, Err, Option, Some, None, option_map, refl, ap, sym, subst, ◌∙◌, arith, true≢false}
use Rattle.std.specs.Prelude.{◌%◌, codes, if◌then◌else◌}
use Rattle.std.specs.List.{list_all}
use Rattle.std.specs.Char.{is_ascii_digit, is_ascii_uppercase}
use Rattle.std.specs.Str.{bytes_eq}
use Rattle.std.proofs.lemmas.Bool.Decides.{nat_tests}
use Rattle.std.proofs.lemmas.Slice.Eq.{bytes_eq-Decides}
use Rattle.sqlite.specs.Order.{bytes}
use Rattle.sqlite.specs.declared.types.Value.TheVariants.{Text}
use Rattle.sqlite_typed.specs.Columns.{or_null}
use Rattle.goo_types.specs.Carrier.{carrier_reading}
use Rattle.goo_types.specs.CodeBytes.{is_holder_byte, is_key_byte, has_letter_and_digits, has_name_chars, is_trimmed}
use Rattle.goo_types.specs.Codes.{holder_reading, name_reading, key_reading, country_reading, tech_reading, source_reading}
use Rattle.goo_types.specs.Day.{CalendarDay, day_reading}
use Rattle.goo_types.specs.Gsrn.{gsrn_reading, check_sum}
use Rattle.goo_types.specs.Support.{support_reading}
use Rattle.goo_types.specs.TextReading.{text_reading}
use Rattle.goo_types.specs.Texts.{digits, day_text}
use Rattle.goo_types.specs.declared.carrier.Carrier.TheVariants as carrier
use Rattle.goo_types.specs.declared.day.DayFault.{DayFault}
use Rattle.goo_types.specs.declared.gsrn.GsrnFault.TheVariants.{Length, Digit, Check}
use Rattle.goo_types.specs.declared.support.Support.TheVariants as support
use Rattle.goo_types.specs.declared.text_fault.TextFault.TheVariants.{Empty, TooLong, BadChar, Shape}
use Rattle.goo_types.proofs.DayLemmas.{only_day_text}
use Rattle.goo_types.proofs.DigitTextLemmas.{length-digits}
use Rattle.goo_spec_tables.specs.Readable.{reads, is_maybe_day, is_other}

-- ---- codes, keys and names

text_short : (limit : ℕ) (good shaped : Bool) (text : List ℕ) → reads (text_reading limit good shaped text) ≡ true → length text ≤ limit
unfolding text_reading
text_short limit good shaped text read = go (length text == 0) (nat_lt limit (length text)) refl read
  where
    go : (none long : Bool) → nat_lt limit (length text) ≡ long
        → reads (if none then Err Empty else (if long then Err TooLong else (if not good then Err BadChar else (if not shaped then Err Shape else Ok text)))) ≡ true → length text ≤ limit
    go true long is read = absurd (true≢false (sym read))
    go false true is read = absurd (true≢false (sym read))
    go false false is read = grind (arith, nat_tests)

pub holder_short : (text : List ℕ) → reads (holder_reading text) ≡ true → length text ≤ 16
holder_short text = text_short 16 (list_all is_holder_byte text) true text

pub key_short : (text : List ℕ) → reads (key_reading text) ≡ true → length text ≤ 40
key_short text = text_short 40 (list_all is_key_byte text) true text

pub name_short : (text : List ℕ) → reads (name_reading text) ≡ true → length text ≤ 64
name_short text = text_short 64 (has_name_chars text) (is_trimmed text) text

pub country_short : (text : List ℕ) → reads (country_reading text) ≡ true → length text ≤ 2
country_short text = text_short 2 (list_all is_ascii_uppercase text) (length text == 2) text

pub tech_short : (text : List ℕ) → reads (tech_reading text) ≡ true → length text ≤ 7
tech_short text = text_short 7 (has_letter_and_digits 84 text) (length text == 7) text

pub source_short : (text : List ℕ) → reads (source_reading text) ≡ true → length text ≤ 9
source_short text = text_short 9 (has_letter_and_digits 70 text) (length text == 9) text

pub gsrn_short : (text : List ℕ) → reads (gsrn_reading text) ≡ true → length text ≤ 18
unfolding gsrn_reading
gsrn_short text read = go (length text == 18) refl read
  where
    go : (long : Bool) → (length text == 18) ≡ long → reads (if not long then Err Length else (if not (list_all is_ascii_digit text) then Err Digit else (if check_sum text % 10 == 0 then Ok text else Err Check))) ≡ true
        → length text ≤ 18
    go false is read = absurd (true≢false (sym read))
    go true is read = grind (arith, nat_tests)

-- ---- words and days

pub support_short : (text : List ℕ) → reads (support_reading text) ≡ true → length text ≤ 10
support_short text read = go (bytes_eq text (codes "none")) (bytes_eq text (codes "investment")) (bytes_eq text (codes "production")) (bytes_eq text (codes "both")) refl refl refl refl read
  where
    word : (w : List ℕ) → length w ≤ 10 → bytes_eq text w ≡ true → length text ≤ 10
    word w few is = subst (λ x. length x ≤ 10) (sym ((bytes_eq-Decides text w).0 is)) few

    go : (a b c d : Bool) → bytes_eq text (codes "none") ≡ a → bytes_eq text (codes "investment") ≡ b → bytes_eq text (codes "production") ≡ c → bytes_eq text (codes "both") ≡ d
        → reads (if a then Ok support.None else (if b then Ok support.Investment else (if c then Ok support.Production else (if d then Ok support.Both else Err Shape)))) ≡ true → length text ≤ 10
    go true b c d is e f g read = word (codes "none") (omega arith) is
    go false true c d e is f g read = word (codes "investment") (omega arith) is
    go false false true d e f is g read = word (codes "production") (omega arith) is
    go false false false true e f g is read = word (codes "both") (omega arith) is
    go false false false false e f g h read = absurd (true≢false (sym read))

pub other_short : (text : List ℕ) → is_other (carrier_reading text) ≡ true → length text ≤ 15
other_short text read = go (bytes_eq text (codes "electricity")) (bytes_eq text (codes "gas")) (bytes_eq text (codes "hydrogen")) (bytes_eq text (codes "heating-cooling")) refl refl refl refl read
  where
    word : (w : List ℕ) → length w ≤ 15 → bytes_eq text w ≡ true → length text ≤ 15
    word w few is = subst (λ x. length x ≤ 15) (sym ((bytes_eq-Decides text w).0 is)) few

    go : (a b c d : Bool) → bytes_eq text (codes "electricity") ≡ a → bytes_eq text (codes "gas") ≡ b → bytes_eq text (codes "hydrogen") ≡ c → bytes_eq text (codes "heating-cooling") ≡ d
        → is_other (if a then Ok carrier.Electricity else (if b then Ok carrier.Gas else (if c then Ok carrier.Hydrogen else (if d then Ok carrier.HeatingCooling else Err Shape)))) ≡ true → length text ≤ 15
    go true b c d is e f g read = absurd (true≢false (sym read))
    go false true c d e is f g read = word (codes "gas") (omega arith) is
    go false false true d e f is g read = word (codes "hydrogen") (omega arith) is
    go false false false true e f g is read = word (codes "heating-cooling") (omega arith) is
    go false false false false e f g h read = absurd (true≢false (sym read))

pub day_text_short : (d : CalendarDay) → length (day_text d) ≡ 10
unfolding day_text
day_text_short d =
    let year = length-digits 4 d.year in
    let month = length-digits 2 d.month in
    let day = length-digits 2 d.day in
    length-append (digits 4 d.year) _ ∙ (let rest = length-append (digits 2 d.month) (45 ∷ digits 2 d.day) in omega (arith, year, month, day, rest))

pub day_short : (text : List ℕ) → reads (day_reading text) ≡ true → length text ≤ 10
day_short text read = go (day_reading text) refl read
  where
    go : (r : Result CalendarDay DayFault) → day_reading text ≡ r → reads r ≡ true → length text ≤ 10
    go (Err e) is read = absurd (true≢false (sym read))
    go (Ok d) is read = let long = ap length (only_day_text text d is) ∙ day_text_short d in omega (arith, long)

-- a day, where there is one
pub maybe_day_short : (o : Option (List ℕ)) → is_maybe_day o ≡ true → length (bytes (or_null Text o)) ≤ 10
maybe_day_short None read = omega arith
maybe_day_short (Some text) read = day_short text read

pub maybe_text_short : (o : Option (List ℕ)) (d : Option CalendarDay) → o ≡ option_map day_text d → length (bytes (or_null Text o)) ≤ 10
maybe_text_short o None is = subst (λ x. length (bytes (or_null Text x)) ≤ 10) (sym is) (omega arith)
maybe_text_short o (Some d) is = subst (λ x. length (bytes (or_null Text x)) ≤ 10) (sym is) (let long = day_text_short d in omega (arith, long))
