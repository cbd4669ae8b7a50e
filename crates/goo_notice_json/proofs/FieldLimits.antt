-- A field that is read is within its limits.
use Rattle.std.proofs.Common.{◌≡◌, ℕ, ℤ, pos, negsuc, ◌%◌, not, if◌then◌else◌, Bool, true, false, List, length, ◌==◌, Result, Ok, Err, refl, subst, arith}
use Rattle.std.proofs.lemmas.Bool.Decides.{nat_tests}
use Rattle.std.specs.Char.{is_ascii_digit}
use Rattle.std.specs.Int.{IsInRange}
use Rattle.std.specs.List.{list_all}
use Rattle.goo_types.specs.Codes.{holder_reading, name_reading, country_reading, tech_reading, source_reading}
use Rattle.goo_types.specs.Gsrn.{check_sum, gsrn_reading}
use Rattle.goo_types.specs.Number.{IsNumber, number_reading}
use Rattle.goo_types.specs.Range.{Numbers, IsRange}
use Rattle.goo_types.specs.declared.gsrn.GsrnFault.TheVariants as gsrn
use Rattle.goo_types.proofs.TextLemmas.{text_reading-same}
use Rattle.goo_notice_json.specs.declared.value_fault.ValueFault.{ValueFault}
use Rattle.goo_notice_json.specs.declared.value_fault.ValueFault.TheVariants.{Field}
use Rattle.goo_notice_json.specs.Faults.{◌>>=◌}
use Rattle.goo_notice_json.specs.Fields.{as_field, accepted, is_in_range, integer_in, is_range, range_of}
use Rattle.goo_notice_json.proofs.LimitLemmas.{IsNumber-reading}

chosen : {A : Type 0} (b : Bool) (x y : A) → (if b then Ok x else Err Field) ≡ Ok y → (b ≡ true) × (x ≡ y)
chosen true x y e = (refl, cc)
chosen false x y e = absurd cc

-- ---- steps that went well

pub bind_ok : {A B E : Type 0} (r : Result A E) (f : A → Result B E) (y : B) → (r >>= f) ≡ Ok y → (x : A) × (r ≡ Ok x) × (f x ≡ Ok y)
bind_ok (Ok x) f y e = (x, refl, e)
bind_ok (Err d) f y e = absurd cc

pub field_ok : {A E : Type 0} (r : Result A E) (x : A) → as_field r ≡ Ok x → r ≡ Ok x
field_ok (Ok a) x e = cc
field_ok (Err d) x e = absurd cc

-- what a step gives that can't fail
abbrev pub given : {A : Type 0} → A → Result A ValueFault
given x = Ok x

pub ok_same : {A : Type 0} (x y : A) → given x ≡ Ok y → x ≡ y
ok_same x y e = cc

pub accepted_ok : {A : Type 0} (test : A → Bool) (x y : A) → accepted test x ≡ Ok y → (test x ≡ true) × (x ≡ y)
accepted_ok test x y e = chosen (test x) x y e

-- ---- fields

is_in_range-holds : (low high n : ℕ) → is_in_range low high n ≡ true → IsInRange low high n
is_in_range-holds low high n h = grind (arith, nat_tests)

pub within_limits : (low high : ℕ) (z : ℤ) (n : ℕ) → integer_in low high z ≡ Ok n → IsInRange low high n
within_limits low high (pos m) n e =
    let t = accepted_ok (is_in_range low high) m n e in
    subst (λ x. IsInRange low high x) t.1 (is_in_range-holds low high m t.0)
within_limits low high (negsuc m) n e = absurd cc

is_range-holds : (r : Numbers) → is_range r ≡ true → IsRange r
is_range-holds r h = record { rising = grind (arith, nat_tests); one_code = grind (arith, nat_tests) }

pub range_numbers : (first last : List ℕ) (r : Numbers) → range_of first last ≡ Ok r → IsNumber r.first × IsNumber r.last × IsRange r
unfolding range_of
range_numbers first last r e =
    let a = bind_ok (as_field (number_reading first)) _ r e in
    let b = bind_ok (as_field (number_reading last)) _ r a.2 in
    let t = accepted_ok is_range (record { first = a.0; last = b.0 }) r b.2 in (
      subst (λ x. IsNumber x.first) t.1 (IsNumber-reading first a.0 (field_ok _ _ a.1)),
      subst (λ x. IsNumber x.last) t.1 (IsNumber-reading last b.0 (field_ok _ _ b.1)),
      is_range-holds r (subst (λ x. is_range x ≡ true) t.1 t.0),
    )

-- a text that reads as another is that one
pub holder_again : (text t : List ℕ) → holder_reading text ≡ Ok t → holder_reading t ≡ Ok t
holder_again text t e = subst (λ x. holder_reading x ≡ Ok t) (text_reading-same _ _ _ text t e) e

pub name_again : (text t : List ℕ) → name_reading text ≡ Ok t → name_reading t ≡ Ok t
name_again text t e = subst (λ x. name_reading x ≡ Ok t) (text_reading-same _ _ _ text t e) e

pub country_again : (text t : List ℕ) → country_reading text ≡ Ok t → country_reading t ≡ Ok t
country_again text t e = subst (λ x. country_reading x ≡ Ok t) (text_reading-same _ _ _ text t e) e

pub tech_again : (text t : List ℕ) → tech_reading text ≡ Ok t → tech_reading t ≡ Ok t
tech_again text t e = subst (λ x. tech_reading x ≡ Ok t) (text_reading-same _ _ _ text t e) e

pub source_again : (text t : List ℕ) → source_reading text ≡ Ok t → source_reading t ≡ Ok t
source_again text t e = subst (λ x. source_reading x ≡ Ok t) (text_reading-same _ _ _ text t e) e

gsrn_same : (a b c : Bool) (t u : List ℕ)
    → (if not a then Err gsrn.Length else (if not b then Err gsrn.Digit else (if c then Ok t else Err gsrn.Check))) ≡ Ok u → t ≡ u
gsrn_same true true true t u e = cc
gsrn_same true true false t u e = absurd cc
gsrn_same true false c t u e = absurd cc
gsrn_same false b c t u e = absurd cc

pub gsrn_again : (text t : List ℕ) → gsrn_reading text ≡ Ok t → gsrn_reading t ≡ Ok t
unfolding gsrn_reading
gsrn_again text t e =
    subst (λ x. gsrn_reading x ≡ Ok t) (gsrn_same (length text == 18) (list_all is_ascii_digit text) (check_sum text % 10 == 0) text t e) e
