-- The faults of bodies.
use Rattle.std.specs.Prelude.{◌≡◌, Result, Ok, Err}
use Rattle.goo_desk_body.specs.declared.body_fault.BodyFault.{BodyFault}
use Rattle.goo_desk_body.specs.declared.body_fault.BodyFault.TheVariants as fault
use Rattle.goo_notice_json.specs.declared.value_fault.ValueFault.{ValueFault}
use Rattle.goo_notice_json.specs.declared.value_fault.ValueFault.TheVariants as value

abbrev pub of_value : ValueFault → BodyFault
of_value value.Shape = fault.Shape
of_value value.Field = fault.Field
of_value value.Memory = fault.Memory

-- what a value states, among the faults of bodies
abbrev pub as_body : {A : Type 0} → Result A ValueFault → Result A BodyFault
as_body (Ok x) = Ok x
as_body (Err e) = Err (of_value e)

-- What a function returned is what the reading gives, unless memory ran out.
abbrev pub BodyFails : {Y : Type 0} → BodyFault → Result Y BodyFault → Type 0
BodyFails fault.NotJson reading = reading ≡ Err fault.NotJson
BodyFails fault.Shape reading = reading ≡ Err fault.Shape
BodyFails fault.Field reading = reading ≡ Err fault.Field
BodyFails fault.Memory reading = Unit {0}

abbrev pub BodyGives : {X : Type 0} → Result X BodyFault → Result X BodyFault → Type 0
BodyGives (Ok x) reading = reading ≡ Ok x
BodyGives (Err e) reading = BodyFails e reading
