-- What stands in the JSON text of parts of a notice, and which parts JSON values state.
use Rattle.std.specs.Prelude.{ℕ, Bool, List, [], ◌∷◌, codes, Option, Some, None, is_some, Result, Ok}
use Rattle.serde_json.specs.Data.{Data, object, Items, no_items, item, no_members, member}
use Rattle.serde_json.specs.Find.{get, as_object}
use Rattle.goo_types.specs.Number.{IsNumber}
use Rattle.goo_types.specs.Range.{IsRange}
use Rattle.goo_types.specs.declared.part.Part.{Part}
use Rattle.goo_types.specs.Texts.{number_text}
use Rattle.goo_notice_json.specs.declared.value_fault.ValueFault.{ValueFault}
use Rattle.goo_notice_json.specs.Faults.{◌>>=◌}
use Rattle.goo_notice_json.specs.Members.{text_member, member_at, of_size, string_at}
use Rattle.goo_notice_json.specs.Fields.{range_of}
use Rattle.goo_notice_json.specs.Lot.{lot_data, IsStatedLot, lot_shape, lot_of}

-- the JSON object, its keys in byte order
unfoldable pub part_data : Bool → Part → Data
part_data carried p =
    object
    (text_member (codes "first") (number_text p.range.first)
    (text_member (codes "last") (number_text p.range.last)
    (member (codes "lot") (lot_data carried p.lot) no_members)))

-- each field is a value of its type
pub record IsStatedPart (p : Part) : Type 0 where
  pub first : IsNumber p.range.first
  pub last : IsNumber p.range.last
  pub range : IsRange p.range
  pub lot : IsStatedLot p.lot

-- whether a lot states its carrier, by the version; where no version says so, by the lot itself
abbrev pub is_carried : Option Bool → Data → Bool
is_carried (Some carried) lot = carried
is_carried None lot = is_some (get (codes "carrier") lot)

-- an object of just these keys and kinds
unfoldable pub part_shape : Option Bool → Data → Result ℕ ValueFault
part_shape carried d = do
  size ← of_size 3 (as_object d)
  first ← string_at (codes "first") d
  last ← string_at (codes "last") d
  lot ← member_at (codes "lot") d
  lot_shape (is_carried carried lot) lot

unfoldable pub parts_shape : Option Bool → Items → Result ℕ ValueFault
parts_shape carried no_items = Ok 0
parts_shape carried (item d ds) = do
  size ← part_shape carried d
  parts_shape carried ds

-- what an object of that shape states
unfoldable pub part_of : Bool → Data → Result Part ValueFault
part_of carried d = do
  first ← string_at (codes "first") d
  last ← string_at (codes "last") d
  lot ← member_at (codes "lot") d
  range ← range_of first last
  lot ← lot_of carried lot
  Ok (record { range = range; lot = lot })

unfoldable pub parts_of : Bool → Items → Result (List Part) ValueFault
parts_of carried no_items = Ok []
parts_of carried (item d ds) = do
  part ← part_of carried d
  parts ← parts_of carried ds
  Ok (part ∷ parts)
