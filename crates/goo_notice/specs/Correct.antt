-- What stands in the JSON text of a correction, and which correction a JSON value states.
use Rattle.std.specs.Prelude.{◌≡◌, ℕ, ◌+◌, ◌&&◌, Bool, true, false, if◌then◌else◌, List, [], ◌∷◌, Option, Some, None, codes, Result, Ok}
use Rattle.std.specs.Int.{IsInRange}
use Rattle.serde_json.specs.Data.{Data, object, no_members}
use Rattle.serde_json.specs.Find.{as_object}
use Rattle.goo_types.specs.Codes.{name_reading}
use Rattle.goo_types.specs.Day.{IsDay, day_reading}
use Rattle.goo_types.specs.Gsrn.{gsrn_reading}
use Rattle.goo_types.specs.Number.{IsNumber}
use Rattle.goo_types.specs.Range.{Numbers, IsRange}
use Rattle.goo_types.specs.declared.command.Correct.{Correct}
use Rattle.goo_types.specs.Texts.{day_text, number_text}
use Rattle.goo_notice_json.specs.declared.value_fault.ValueFault.{ValueFault}
use Rattle.goo_notice_json.specs.Faults.{◌>>=◌}
use Rattle.goo_notice_json.specs.Members.{text_member, integer_member, of_size, string_at, integer_at}
use Rattle.goo_notice_json.specs.Fields.{as_field, integer_in, range_of}

-- the ends of a range, both empty where there is none
abbrev pub first_text : Option Numbers → List ℕ
first_text None = []
first_text (Some r) = number_text r.first

abbrev pub last_text : Option Numbers → List ℕ
last_text None = []
last_text (Some r) = number_text r.last

-- the JSON object, its keys in byte order
abbrev pub correct_data : Correct → Data
correct_data c =
    object
    (text_member (codes "command") (codes "correct")
    (text_member (codes "device") c.device
    (text_member (codes "first") (first_text c.range)
    (text_member (codes "first_day") (day_text c.first_day)
    (text_member (codes "last") (last_text c.range)
    (integer_member (codes "less_wh") c.less
    (text_member (codes "reason") c.reason no_members)))))))

abbrev pub IsRangeIfAny : Option Numbers → Type 0
IsRangeIfAny None = Unit {0}
IsRangeIfAny (Some r) = IsNumber r.first × IsNumber r.last × IsRange r

-- each field is a value of its type
pub record IsCorrect (c : Correct) : Type 0 where
  pub device : gsrn_reading c.device ≡ Ok c.device
  pub first_day : IsDay c.first_day
  pub less : IsInRange 0 1000000000000000 c.less
  pub range : IsRangeIfAny c.range
  pub reason : name_reading c.reason ≡ Ok c.reason

-- the range between two numbers, or none where both texts are empty
abbrev pub is_empty : List ℕ → Bool
is_empty [] = true
is_empty (n ∷ ns) = false

abbrev pub some_range : List ℕ → List ℕ → Result (Option Numbers) ValueFault
some_range first last = do
  range ← range_of first last
  Ok (Some range)

abbrev pub range_if_any : List ℕ → List ℕ → Result (Option Numbers) ValueFault
range_if_any first last = if is_empty first && is_empty last then Ok None else some_range first last

-- what an object states that has so many members beside these: its shape is looked at first, then its fields
unfoldable pub correct_of : ℕ → Data → Result Correct ValueFault
correct_of others d = do
  size ← of_size (7 + others) (as_object d)
  device ← string_at (codes "device") d
  first ← string_at (codes "first") d
  first_day ← string_at (codes "first_day") d
  last ← string_at (codes "last") d
  less ← integer_at (codes "less_wh") d
  reason ← string_at (codes "reason") d
  device ← as_field (gsrn_reading device)
  first_day ← as_field (day_reading first_day)
  less ← integer_in 0 1000000000000000 less
  range ← range_if_any first last
  reason ← as_field (name_reading reason)
  Ok (record { device = device; first_day = first_day; less = less; range = range; reason = reason })
