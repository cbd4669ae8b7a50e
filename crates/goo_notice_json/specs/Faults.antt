-- Faults, and steps that may fail.
use Rattle.std.specs.Prelude.{◌≡◌, Result, Ok, Err}
use Rattle.goo_notice_json.specs.declared.value_fault.ValueFault.{ValueFault}
use Rattle.goo_notice_json.specs.declared.value_fault.ValueFault.TheVariants as fault

infixl 10 ◌>>=◌
abbrev pub ◌>>=◌ : {A B E : Type 0} → Result A E → (A → Result B E) → Result B E
(Ok x) >>= f = f x
(Err e) >>= f = Err e

-- What a function returned, seen by view, is what the reading gives, unless memory ran out.
abbrev pub Fails : {Y : Type 0} → ValueFault → Result Y ValueFault → Type 0
Fails fault.Shape reading = reading ≡ Err fault.Shape
Fails fault.Field reading = reading ≡ Err fault.Field
Fails fault.Memory reading = Unit {0}

abbrev pub Gives : {X Y : Type 0} → (X → Y) → Result X ValueFault → Result Y ValueFault → Type 0
Gives view (Ok x) reading = reading ≡ Ok (view x)
Gives view (Err e) reading = Fails e reading
