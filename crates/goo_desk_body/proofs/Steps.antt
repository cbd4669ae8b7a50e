-- Readings in a chain: what a step that fails makes of the whole.
use Rattle.std.proofs.Common.{◌≡◌, ◌∙◌, ℕ, List, Result, Ok, Err, IsErrAnd, ap, refl, sym, subst}
use Rattle.std.proofs.lemmas.Int.{to_z-of_z}
use Rattle.std.specs.Prelude.{ℤ}
use mir.Syntax.{w128}
use mir.Val.{SFits, of_z, to_z}
use Rattle.goo_notice_json.specs.declared.value_fault.ValueFault.{ValueFault}
use Rattle.goo_notice_json.specs.declared.value_fault.ValueFault.TheVariants as fault
use Rattle.goo_notice_json.specs.Faults.{◌>>=◌, Fails, Gives}
use Rattle.goo_notice_json.specs.Fields.{as_field}

-- a step that passes leaves what comes after it
pub past : {A X : Type 0} (step : Result A ValueFault) (x : A) (more : A → Result X ValueFault) (result : Result X ValueFault) → step ≡ Ok x → Gives (λ y. y) result (more x) → Gives (λ y. y) result (step >>= more)
past {A} step x more result is h = subst (λ (r : Result A ValueFault). Gives (λ y. y) result (r >>= more)) (sym is) h

-- so does a field that its reader takes
pub past_field : {A X E : Type 0} (reading : List ℕ → Result A E) (text bytes : List ℕ) (x : A) (more : A → Result X ValueFault) (result : Result X ValueFault) → bytes ≡ text → Ok x ≡ reading bytes → Gives (λ y. y) result (more x) → Gives (λ y. y) result (as_field (reading text) >>= more)
past_field {A} {X} {E} reading text bytes x more result same is h = subst (λ (r : Result A E). Gives (λ y. y) result (as_field r >>= more)) (is ∙ ap reading same) h

-- a step that fails ends the chain
pub ends : {A X : Type 0} (step : Result A ValueFault) (more : A → Result X ValueFault) (result : Result X ValueFault) (e : ValueFault) → IsErrAnd result (λ f. f ≡ e) → Fails {Y = A} e step → Gives (λ x. x) result (step >>= more)
ends step more (Ok x) e is h = absurd is
ends step more (Err f) fault.Shape is h = rw (is, h) refl
ends step more (Err f) fault.Field is h = rw (is, h) refl
ends step more (Err f) fault.Memory is h = rw is tt

-- so does a field that its reader refuses
pub ends_at_field : {A X E : Type 0} (reading : List ℕ → Result A E) (text bytes : List ℕ) (more : A → Result X ValueFault) (result : Result X ValueFault) (e : E) → IsErrAnd result (λ f. f ≡ fault.Field) → bytes ≡ text → Err e ≡ reading bytes → Gives (λ x. x) result (as_field (reading text) >>= more)
ends_at_field reading text bytes more (Ok x) e is same h = absurd is
ends_at_field reading text bytes more (Err f) e is same h = rw (is, ← same, ← h) refl

-- an integer that a call was passed is the one that it was given
pub taken : {A : Type 0} (reading : ℤ → Result A ValueFault) (z : ℤ) (x : A) → SFits w128 z → reading (to_z w128 (of_z w128 z)) ≡ Ok x → reading z ≡ Ok x
taken {A} reading z x fits h = subst (λ (n : ℤ). reading n ≡ Ok x) (to_z-of_z w128 z fits) h

pub refused : {A : Type 0} (reading : ℤ → Result A ValueFault) (z : ℤ) (e : ValueFault) → SFits w128 z → Fails {Y = A} e (reading (to_z w128 (of_z w128 z))) → Fails {Y = A} e (reading z)
refused {A} reading z e fits h = subst (λ (n : ℤ). Fails {Y = A} e (reading n)) (to_z-of_z w128 z fits) h
