-- The promise, of rows that were applied.
use Rattle.std.proofs.Common.{◌≡◌, ◌==◌, ℕ, Bool, true, false, List, [], ◌∷◌, length, Option, Some, None, if◌then◌else◌, refl, subst}
use Rattle.std.proofs.lemmas.List.Elements.{All-nil, All-cons}
use Rattle.std.specs.Result.{result_ok}
use Rattle.goo_types.specs.Codes.{key_reading}
use Rattle.goo_types.specs.Obeys.{Obeys}
use Rattle.goo_types.specs.declared.command.Command.TheVariants as command
use Rattle.goo_types.specs.declared.request.Request.{Request}
use Rattle.goo_spec.specs.State.{State}
use Rattle.goo_spec.specs.Obeys.{AllObey}
use Rattle.goo_spec.specs.Sound.{IsSound}
use Rattle.goo_spec.specs.Promise.{IsPromised}
use Rattle.goo_spec.proofs.Promising.{promised}
use Rattle.goo_files_csv.specs.Rows.{◌>>=◌, field_in, declaration_in, request_in}
use Rattle.goo_files_import.specs.Import.{importing, requests_with, requests_of}
use Rattle.goo_files_import.proofs.Runs.{a_run}

pub bind_some : {A B : Type 0} (o : Option A) (f : A → Option B) (y : B) → (o >>= f) ≡ Some y → (x : A) × (o ≡ Some x) × (f x ≡ Some y)
bind_some None f y is = absurd cc
bind_some (Some x) f y is = (x, refl, is)

pub chosen : (b : Bool) (o : Option Request) (q : Request) → (if b then o else None) ≡ Some q → o ≡ Some q
chosen true o q is = is
chosen false o q is = absurd cc

pub same : (p q : Request) → Some p ≡ Some q → p ≡ q
same p q is = cc

-- the request of a row is a declaration
row_obeys : (caller : List ℕ) (fields : List (List ℕ)) (q : Request) → request_in caller fields ≡ Some q → Obeys q.command
unfolding request_in
row_obeys caller fields q is =
    let a0 = bind_some (result_ok (key_reading (field_in fields 0))) _ q (chosen (length fields == 6) _ q is) in
    let a1 = bind_some (declaration_in fields) _ q a0.2 in
    subst (λ (r : Request). Obeys r.command) (same (record { caller = caller; key = a0.0; command = command.Declare a1.0 }) q a1.2) tt

one_obeys : (o : Option Request) (qs : List Request) → ((q : Request) → o ≡ Some q → Obeys q.command) → AllObey qs → AllObey (requests_with o qs)
one_obeys None qs one rest = rest
one_obeys (Some q) qs one rest = All-cons (λ p. Obeys p.command) q qs (one q refl) rest

pub rows_obey : (caller : List ℕ) (rows : List (List (List ℕ))) → AllObey (requests_of caller rows)
rows_obey caller [] = All-nil (λ q. Obeys q.command)
rows_obey caller (row ∷ rows) = one_obeys (request_in caller row) (requests_of caller rows) (row_obeys caller row) (rows_obey caller rows)

-- after some rows, what is promised of their requests
pub rows_promised : (s : State) (caller : List ℕ) (rows : List (List (List ℕ))) → IsSound s → IsPromised s (requests_of caller rows) (importing s caller rows).state
rows_promised s caller rows sound = promised s (importing s caller rows).state (requests_of caller rows) (rows_obey caller rows) sound (a_run s caller rows).state
