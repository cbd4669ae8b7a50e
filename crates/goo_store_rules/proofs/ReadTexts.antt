-- Texts that a reader accepts are UTF-8.
use Rattle.std.proofs.Common.{◌≡◌, ℕ, Bool, true, false, ◌==◌, ◌%◌, not, nat_lt, if◌then◌else◌, List, length, Result, Ok, Err, codes, refl, sym, subst, IsUtf8, true≢false}
use Rattle.std.specs.List.{list_all}
use Rattle.std.specs.Char.{is_ascii_digit}
use Rattle.std.specs.Str.{bytes_eq}
use Rattle.std.proofs.lemmas.Slice.Eq.{bytes_eq-Decides}
use Rattle.std.proofs.lemmas.Bool.{ltb-true}
use Rattle.goo_types.proofs.TextLemmas.{IsUtf8-from_list_all}
use Rattle.goo_types.specs.Carrier.{carrier_reading}
use Rattle.goo_types.specs.Codes.{holder_reading, name_reading, key_reading, country_reading, tech_reading, source_reading}
use Rattle.goo_types.specs.Day.{day_reading}
use Rattle.goo_types.specs.Gsrn.{gsrn_reading, check_sum}
use Rattle.goo_types.specs.Support.{support_reading}
use Rattle.goo_types.specs.TextReading.{text_reading}
use Rattle.goo_types.specs.declared.carrier.Carrier.TheVariants as carrier
use Rattle.goo_types.specs.declared.support.Support.TheVariants as support
use Rattle.goo_types.specs.declared.gsrn.GsrnFault.TheVariants as gsrn
use Rattle.goo_types.specs.declared.text_fault.TextFault.TheVariants.{Empty, TooLong, BadChar, Shape}
use Rattle.goo_types.proofs.CodeLemmas.{holder_utf8, key_utf8, country_utf8, tech_utf8, source_utf8}
use Rattle.goo_types.proofs.DayLemmas.{only_day_text, IsUtf8-day_text}
use Rattle.goo_types.proofs.GsrnLemmas.{gsrn_utf8}
use Rattle.goo_types.proofs.NameLemmas.{name_utf8}
use Rattle.goo_spec_tables.specs.Readable.{reads, is_other}

itself : (a b g s : Bool) (t : List ℕ) → reads (if a then Err Empty else (if b then Err TooLong else (if not g then Err BadChar else (if not s then Err Shape else Ok t)))) ≡ true
    → (if a then Err Empty else (if b then Err TooLong else (if not g then Err BadChar else (if not s then Err Shape else Ok t)))) ≡ Ok t
itself true b g s t e = absurd (true≢false (sym e))
itself false true g s t e = absurd (true≢false (sym e))
itself false false false s t e = absurd (true≢false (sym e))
itself false false true false t e = absurd (true≢false (sym e))
itself false false true true t e = refl

-- a short text reads as itself
short : (limit : ℕ) (good shaped : Bool) (t : List ℕ) → reads (text_reading limit good shaped t) ≡ true → text_reading limit good shaped t ≡ Ok t
unfolding text_reading
short limit good shaped t e = itself (length t == 0) (nat_lt limit (length t)) good shaped t e

pub holder_text : (t : List ℕ) → reads (holder_reading t) ≡ true → IsUtf8 t
holder_text t e = holder_utf8 t (short _ _ _ t e)

pub name_text : (t : List ℕ) → reads (name_reading t) ≡ true → IsUtf8 t
name_text t e = name_utf8 t (short _ _ _ t e)

pub key_text : (t : List ℕ) → reads (key_reading t) ≡ true → IsUtf8 t
key_text t e = key_utf8 t (short _ _ _ t e)

pub country_text : (t : List ℕ) → reads (country_reading t) ≡ true → IsUtf8 t
country_text t e = country_utf8 t (short _ _ _ t e)

pub tech_text : (t : List ℕ) → reads (tech_reading t) ≡ true → IsUtf8 t
tech_text t e = tech_utf8 t (short _ _ _ t e)

pub source_text : (t : List ℕ) → reads (source_reading t) ≡ true → IsUtf8 t
source_text t e = source_utf8 t (short _ _ _ t e)

number_itself : (a b c : Bool) (t : List ℕ) → reads (if not a then Err gsrn.Length else (if not b then Err gsrn.Digit else (if c then Ok t else Err gsrn.Check))) ≡ true
    → (if not a then Err gsrn.Length else (if not b then Err gsrn.Digit else (if c then Ok t else Err gsrn.Check))) ≡ Ok t
number_itself false b c t e = absurd (true≢false (sym e))
number_itself true false c t e = absurd (true≢false (sym e))
number_itself true true false t e = absurd (true≢false (sym e))
number_itself true true true t e = refl

gsrn_itself : (t : List ℕ) → reads (gsrn_reading t) ≡ true → gsrn_reading t ≡ Ok t
unfolding gsrn_reading
gsrn_itself t e = number_itself (length t == 18) (list_all is_ascii_digit t) (check_sum t % 10 == 0) t e

pub gsrn_text : (t : List ℕ) → reads (gsrn_reading t) ≡ true → IsUtf8 t
gsrn_text t e = gsrn_utf8 t (gsrn_itself t e)

pub day_text_utf8 : (t : List ℕ) → reads (day_reading t) ≡ true → IsUtf8 t
day_text_utf8 t e = go (day_reading t) refl e
  where
    go : (r : Result _ _) → day_reading t ≡ r → reads r ≡ true → IsUtf8 t
    go (Ok d) is good = subst IsUtf8 (sym (only_day_text t d is)) (IsUtf8-day_text d)
    go (Err f) is bad = absurd (true≢false (sym bad))

ascii : (t : List ℕ) → list_all (λ c. nat_lt c 128) t ≡ true → IsUtf8 t
ascii t = IsUtf8-from_list_all (λ c. nat_lt c 128) (λ c h. ltb-true c 128 h) t

pub support_text : (t : List ℕ) → reads (support_reading t) ≡ true → IsUtf8 t
support_text t = go (bytes_eq t (codes "none")) (bytes_eq t (codes "investment")) (bytes_eq t (codes "production")) (bytes_eq t (codes "both")) refl refl refl refl
  where
    word : (w : List ℕ) → IsUtf8 w → bytes_eq t w ≡ true → IsUtf8 t
    word w valid is = subst IsUtf8 (sym ((bytes_eq-Decides t w).0 is)) valid

    go : (a b c d : Bool) → bytes_eq t (codes "none") ≡ a → bytes_eq t (codes "investment") ≡ b → bytes_eq t (codes "production") ≡ c → bytes_eq t (codes "both") ≡ d
        → reads (if a then Ok support.None else (if b then Ok support.Investment else (if c then Ok support.Production else (if d then Ok support.Both else Err Shape)))) ≡ true → IsUtf8 t
    go true b c d p q r s e = word (codes "none") (ascii (codes "none") refl) p
    go false true c d p q r s e = word (codes "investment") (ascii (codes "investment") refl) q
    go false false true d p q r s e = word (codes "production") (ascii (codes "production") refl) r
    go false false false true p q r s e = word (codes "both") (ascii (codes "both") refl) s
    go false false false false p q r s e = absurd (true≢false (sym e))

pub carrier_text : (t : List ℕ) → is_other (carrier_reading t) ≡ true → IsUtf8 t
carrier_text t = go (bytes_eq t (codes "electricity")) (bytes_eq t (codes "gas")) (bytes_eq t (codes "hydrogen")) (bytes_eq t (codes "heating-cooling")) refl refl refl
  where
    word : (w : List ℕ) → IsUtf8 w → bytes_eq t w ≡ true → IsUtf8 t
    word w valid is = subst IsUtf8 (sym ((bytes_eq-Decides t w).0 is)) valid

    go : (a b c d : Bool) → bytes_eq t (codes "gas") ≡ b → bytes_eq t (codes "hydrogen") ≡ c → bytes_eq t (codes "heating-cooling") ≡ d
        → is_other (if a then Ok carrier.Electricity else (if b then Ok carrier.Gas else (if c then Ok carrier.Hydrogen else (if d then Ok carrier.HeatingCooling else Err Shape)))) ≡ true → IsUtf8 t
    go true b c d p q r e = absurd (true≢false (sym e))
    go false true c d p q r e = word (codes "gas") (ascii (codes "gas") refl) p
    go false false true d p q r e = word (codes "hydrogen") (ascii (codes "hydrogen") refl) q
    go false false false true p q r e = word (codes "heating-cooling") (ascii (codes "heating-cooling") refl) r
    go false false false false p q r e = absurd (true≢false (sym e))
