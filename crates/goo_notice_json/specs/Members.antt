-- The members of a JSON object, by their kinds.
use Rattle.std.specs.Prelude.{ℕ, ℤ, List, Option, Some, None, option_and_then, Result, Ok, Err, ◌==◌, if◌then◌else◌}
use Rattle.std.specs.Option.{ok_or}
use Rattle.serde_json.specs.Data.{Data, number, unsigned, string, Items, Members, member}
use Rattle.serde_json.specs.Events.{members_len}
use Rattle.serde_json.specs.Find.{get, as_str, as_number, as_integer, as_array}
use Rattle.goo_notice_json.specs.declared.value_fault.ValueFault.{ValueFault}
use Rattle.goo_notice_json.specs.declared.value_fault.ValueFault.TheVariants.{Shape}

-- ---- written

abbrev pub text_member : List ℕ → List ℕ → Members → Members
text_member key text rest = member key (string text) rest

abbrev pub integer_member : List ℕ → ℕ → Members → Members
integer_member key n rest = member key (number (unsigned n)) rest

-- ---- read

-- the string at a key
abbrev pub string_at : List ℕ → Data → Result (List ℕ) ValueFault
string_at key d = ok_or (option_and_then as_str (get key d)) Shape

-- the whole number at a key
abbrev pub integer_at : List ℕ → Data → Result ℤ ValueFault
integer_at key d = ok_or (option_and_then as_integer (option_and_then as_number (get key d))) Shape

-- the items of the array at a key
abbrev pub items_at : List ℕ → Data → Result Items ValueFault
items_at key d = ok_or (option_and_then as_array (get key d)) Shape

-- whatever stands at a key
abbrev pub member_at : List ℕ → Data → Result Data ValueFault
member_at key d = ok_or (get key d) Shape

-- the count of members, where it is this one
abbrev pub of_size : ℕ → Option Members → Result ℕ ValueFault
of_size size None = Err Shape
of_size size (Some ms) = if members_len ms == size then Ok size else Err Shape
