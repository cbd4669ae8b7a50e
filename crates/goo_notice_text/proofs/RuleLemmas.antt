-- The test of a notice's rules decides them.
use Rattle.std.proofs.Common.{◌≡◌, ℕ, suc, ◌||◌, ◌==◌, not, nat_lt, Bool, true, false, List, [], ◌∷◌, All, AllPairs, length, refl, arith}
use Rattle.std.proofs.lemmas.Bool.{false≢true}
use Rattle.std.proofs.lemmas.Bool.Decides.{nat_tests, Decides-eqb, Decides-ltb}
use Rattle.std.proofs.lemmas.List.Elements.{All-cons}
use Rattle.std.proofs.lemmas.List.Kept.{AllPairs-cons}
use Rattle.std.proofs.lemmas.Slice.Eq.{bytes_eq-Decides}
use Rattle.std.specs.Bool.{Decides}
use Rattle.std.specs.Int.{IsInRange}
use Rattle.std.specs.List.{list_all}
use Rattle.std.specs.Str.{bytes_eq}
use Rattle.goo_types.specs.Lot.{IsKnownAs}
use Rattle.goo_types.specs.Notice.{NoticeContents, IsNotice}
use Rattle.goo_types.specs.Number.{code_of}
use Rattle.goo_types.specs.Part.{HasCodeOfOrigin, GoesBefore}
use Rattle.goo_types.specs.declared.lot_fields.LotFields.{LotFields}
use Rattle.goo_types.specs.declared.part.Part.{Part}
use Rattle.goo_types.proofs.BoolLemmas.{Decides-and}
use Rattle.goo_types.specs.Equality.{same_lot}
use Rattle.goo_types.proofs.LotLemmas.{Decides-same_day, Decides-same_lot}
use Rattle.std.proofs.Common.{Ok, Err}
use Rattle.goo_notice_json.specs.declared.value_fault.ValueFault.TheVariants.{Field}
use Rattle.goo_notice_json.specs.Fields.{accepted, is_in_range}
use Rattle.goo_notice_text.specs.Notice.{is_known_as, goes_before, are_in_order, has_code_of_origin, is_notice}

-- ---- lists

All-head : {X : Type 0} (P : X → Type 0) (x : X) (xs : List X) → All P (x ∷ xs) → P x
All-head P x xs h = h 0 x (omega arith)

All-tail : {X : Type 0} (P : X → Type 0) (x : X) (xs : List X) → All P (x ∷ xs) → All P xs
All-tail P x xs h = λ i d l. h (suc i) d (omega arith)

Decides-all : {X : Type 0} (test : X → Bool) (P : X → Type 0) → ((x : X) → Decides (test x) (P x)) → (xs : List X) → Decides (list_all test xs) (All P xs)
Decides-all test P each [] = (λ e. λ i d l. absurd (omega (arith, l)), λ h. refl)
Decides-all test P each (x ∷ xs) =
    let d = Decides-and (test x) (list_all test xs) (each x) (Decides-all test P each xs) in
    (λ e. let p = d.0 e in All-cons P x xs p.0 p.1, λ h. d.1 (All-head P x xs h, All-tail P x xs h))

AllPairs-head : {X : Type 0} (R : X → X → Type 0) (x : X) (xs : List X) → AllPairs R (x ∷ xs) → All (R x) xs
AllPairs-head R x xs h = λ k d l. h 0 (suc k) d (omega arith) (omega arith)

AllPairs-tail : {X : Type 0} (R : X → X → Type 0) (x : X) (xs : List X) → AllPairs R (x ∷ xs) → AllPairs R xs
AllPairs-tail R x xs h = λ i j d l m. h (suc i) (suc j) d (omega arith) (omega arith)

-- ---- parts

Decides-is_known_as : (a b : LotFields) → Decides (is_known_as a b) (IsKnownAs a b)
Decides-is_known_as a b =
    let d = Decides-and (a.origin == b.origin) _ (Decides-eqb a.origin b.origin)
    (Decides-and (bytes_eq a.device b.device) _ (bytes_eq-Decides a.device b.device) (Decides-same_day a.first_day b.first_day)) in
    (λ e. let p = d.0 e in record { origin = p.0; device = p.1.0; first_day = p.1.1 }, λ h. d.1 (h.origin, (h.device, h.first_day)))

Decides-if : {P Q : Type 0} (a b : Bool) → Decides a P → Decides b Q → Decides (not a || b) (P → Q)
Decides-if true b p q = (λ e. λ x. q.0 e, λ h. q.1 (h (p.0 refl)))
Decides-if false b p q = (λ e. λ x. absurd (false≢true (p.1 x)), λ h. refl)

Decides-goes_before : (a b : Part) → Decides (goes_before a b) (GoesBefore a b)
Decides-goes_before a b =
    let d = Decides-and (nat_lt a.range.last b.range.first) _ (Decides-ltb a.range.last b.range.first)
    (Decides-if (is_known_as a.lot b.lot) (same_lot a.lot b.lot) (Decides-is_known_as a.lot b.lot) (Decides-same_lot a.lot b.lot)) in
    (λ e. let p = d.0 e in record { below = p.0; one_lot = p.1 }, λ h. d.1 (h.below, h.one_lot))

Decides-are_in_order : (ps : List Part) → Decides (are_in_order ps) (AllPairs GoesBefore ps)
Decides-are_in_order [] = (λ e. λ i j d l m. absurd (omega (arith, m)), λ h. refl)
Decides-are_in_order (p ∷ ps) =
    let d = Decides-and (list_all (goes_before p) ps) (are_in_order ps) (Decides-all (goes_before p) (GoesBefore p) (Decides-goes_before p) ps) (Decides-are_in_order ps) in
    (λ e. let q = d.0 e in AllPairs-cons GoesBefore p ps q.0 q.1, λ h. d.1 (AllPairs-head GoesBefore p ps h, AllPairs-tail GoesBefore p ps h))

Decides-has_code_of_origin : (p : Part) → Decides (has_code_of_origin p) (HasCodeOfOrigin p)
Decides-has_code_of_origin p = Decides-eqb (code_of p.range.first) p.lot.origin

-- ---- notices

Decides-not : {P : Type 0} (a : Bool) → Decides a P → Decides (not a) (P → ⊥)
Decides-not true p = (λ e. absurd (false≢true e), λ h. absurd (h (p.0 refl)))
Decides-not false p = (λ e. λ x. false≢true (p.1 x), λ h. refl)

Decides-is_in_range : (low high n : ℕ) → Decides (is_in_range low high n) (IsInRange low high n)
Decides-is_in_range low high n = (λ e. grind (arith, nat_tests, e), λ h. grind (arith, nat_tests, h))

pub Decides-is_notice : (n : NoticeContents) → Decides (is_notice n) (IsNotice n)
unfolding is_notice
Decides-is_notice n =
    let d = Decides-and (not (n.sender == n.addressee)) _ (Decides-not (n.sender == n.addressee) (Decides-eqb n.sender n.addressee))
    (Decides-and (is_in_range 1 100 (length n.parts)) _ (Decides-is_in_range 1 100 (length n.parts))
    (Decides-and (list_all has_code_of_origin n.parts) (are_in_order n.parts) (Decides-all has_code_of_origin HasCodeOfOrigin Decides-has_code_of_origin n.parts) (Decides-are_in_order n.parts))) in (
      λ e. let p = d.0 e in record { registries = p.0; count = p.1.0; origin = p.1.1.0; order = p.1.1.1 },
      λ h. d.1 (h.registries, (h.count, (h.origin, h.order))),
    )

pub notice-accepted : (n : NoticeContents) → IsNotice n → accepted is_notice n ≡ Ok n
notice-accepted n h = rw ((Decides-is_notice n).1 h) refl

refused : (b : Bool) (n : NoticeContents) → (b ≡ true → ⊥) → is_notice n ≡ b → accepted is_notice n ≡ Err Field
refused true n h e = absurd (h refl)
refused false n h e = rw e refl

pub notice-refused : (n : NoticeContents) → (IsNotice n → ⊥) → accepted is_notice n ≡ Err Field
notice-refused n h = refused (is_notice n) n (λ e. h ((Decides-is_notice n).0 e)) refl
