-- The faults of notices.
use Rattle.std.specs.Prelude.{◌≡◌, Result, Ok, Err}
use Rattle.goo_notice_text.specs.declared.notice_fault.NoticeFault.{NoticeFault}
use Rattle.goo_notice_text.specs.declared.notice_fault.NoticeFault.TheVariants as fault
use Rattle.goo_notice_json.specs.declared.value_fault.ValueFault.{ValueFault}
use Rattle.goo_notice_json.specs.declared.value_fault.ValueFault.TheVariants as value

abbrev pub of_value : ValueFault → NoticeFault
of_value value.Shape = fault.Shape
of_value value.Field = fault.Field
of_value value.Memory = fault.Memory

-- what a value states, among the faults of notices
abbrev pub as_notice : {A : Type 0} → Result A ValueFault → Result A NoticeFault
as_notice (Ok x) = Ok x
as_notice (Err e) = Err (of_value e)

-- What a function returned, seen by view, is what the reading gives, unless memory ran out.
abbrev pub NoticeFails : {Y : Type 0} → NoticeFault → Result Y NoticeFault → Type 0
NoticeFails fault.NotJson reading = reading ≡ Err fault.NotJson
NoticeFails fault.Shape reading = reading ≡ Err fault.Shape
NoticeFails fault.Field reading = reading ≡ Err fault.Field
NoticeFails fault.Canonical reading = reading ≡ Err fault.Canonical
NoticeFails fault.Memory reading = Unit {0}

abbrev pub NoticeGives : {X Y : Type 0} → (X → Y) → Result X NoticeFault → Result Y NoticeFault → Type 0
NoticeGives view (Ok x) reading = reading ≡ Ok (view x)
NoticeGives view (Err e) reading = NoticeFails e reading
