-- The fields that JSON strings and integers state.
use Rattle.std.specs.Prelude.{ℕ, ℤ, pos, negsuc, List, Bool, ◌&&◌, ◌==◌, nat_le, Result, Ok, Err, if◌then◌else◌}
use Rattle.goo_types.specs.Number.{code_of, number_reading}
use Rattle.goo_types.specs.Range.{Numbers}
use Rattle.goo_notice_json.specs.declared.value_fault.ValueFault.{ValueFault}
use Rattle.goo_notice_json.specs.declared.value_fault.ValueFault.TheVariants.{Field}
use Rattle.goo_notice_json.specs.Faults.{◌>>=◌}

-- what a reader of a field gives
abbrev pub as_field : {A E : Type 0} → Result A E → Result A ValueFault
as_field (Ok x) = Ok x
as_field (Err e) = Err Field

-- a value that passes a test
abbrev pub accepted : {A : Type 0} → (A → Bool) → A → Result A ValueFault
accepted test x = if test x then Ok x else Err Field

abbrev pub is_in_range : ℕ → ℕ → ℕ → Bool
is_in_range low high n = nat_le low n && nat_le n high

-- an integer within two limits
abbrev pub integer_in : ℕ → ℕ → ℤ → Result ℕ ValueFault
integer_in low high (pos n) = accepted (is_in_range low high) n
integer_in low high (negsuc n) = Err Field

-- the first is not above the last, and both have one code
abbrev pub is_range : Numbers → Bool
is_range r = nat_le r.first r.last && (code_of r.first == code_of r.last)

-- the range between the numbers that two texts state
unfoldable pub range_of : List ℕ → List ℕ → Result Numbers ValueFault
range_of first last = do
  first ← as_field (number_reading first)
  last ← as_field (number_reading last)
  accepted is_range (record { first = first; last = last })
