-- What stands in the JSON text of a notice, and which notice a JSON value states.
use Rattle.std.specs.Prelude.{ℕ, ℤ, pos, negsuc, false, Option, Some, None, if◌then◌else◌, List, [], ◌∷◌, All, map, length, Bool, true, not, ◌&&◌, ◌||◌, ◌==◌, nat_lt, codes, Result}
use Rattle.std.specs.Int.{IsInRange}
use Rattle.std.specs.List.{list_all, list_any}
use Rattle.std.specs.Str.{bytes_eq}
use Rattle.serde_json.specs.Data.{Data, array, object, Items, no_members, member}
use Rattle.serde_json.specs.Find.{as_object}
use Rattle.serde_json.specs.View.{items_of}
use Rattle.serde_json.specs.Written.{compact_text}
use Rattle.goo_types.specs.Notice.{NoticeContents, notice_contents, IsNotice}
use Rattle.goo_types.specs.Number.{code_of}
use Rattle.goo_types.specs.declared.lot_fields.LotFields.{LotFields}
use Rattle.goo_types.specs.declared.part.Part.{Part}
use Rattle.goo_types.specs.Equality.{same_day, same_lot}
use Rattle.goo_notice_json.specs.declared.value_fault.ValueFault.{ValueFault}
use Rattle.goo_notice_json.specs.Faults.{◌>>=◌}
use Rattle.goo_notice_json.specs.Members.{integer_member, integer_at, items_at, of_size}
use Rattle.goo_notice_json.specs.Fields.{accepted, is_in_range, integer_in}
use Rattle.goo_notice_json.specs.Lot.{is_other}
use Rattle.goo_notice_json.specs.Parts.{part_data, IsStatedPart, parts_shape, parts_of}

-- whether the text of some parts states carriers: where one is another than electricity
abbrev pub are_carried : List Part → Bool
are_carried ps = list_any (λ p. is_other p.lot.carrier) ps

-- lots state their carrier in version 2, and in version 1 they don't
abbrev pub version_of : Bool → ℕ
version_of true = 2
version_of false = 1

-- the JSON object, its keys in byte order
unfoldable pub notice_data : NoticeContents → Data
notice_data n =
    object
    (integer_member (codes "account") n.account
    (integer_member (codes "addressee") n.addressee
    (integer_member (codes "number") n.number
    (member (codes "parts") (array (items_of (map (part_data (are_carried n.parts)) n.parts)))
    (integer_member (codes "sender") n.sender
    (integer_member (codes "version") (version_of (are_carried n.parts)) no_members))))))

-- the one compact text of a notice
unfoldable pub notice_text : NoticeContents → List ℕ
notice_text n = compact_text (notice_data n)

-- each field is a value of its type, and the notice keeps its rules
pub record IsStatedNotice (n : NoticeContents) : Type 0 where
  pub sender : IsInRange 1 99 n.sender
  pub addressee : IsInRange 1 99 n.addressee
  pub number : IsInRange 1 999999999 n.number
  pub account : IsInRange 1 999999999 n.account
  pub parts : All IsStatedPart n.parts
  pub notice : IsNotice n

-- ---- the test of a notice's rules

abbrev pub is_known_as : LotFields → LotFields → Bool
is_known_as a b = (a.origin == b.origin) && (bytes_eq a.device b.device && same_day a.first_day b.first_day)

abbrev pub goes_before : Part → Part → Bool
goes_before a b = nat_lt a.range.last b.range.first && (not (is_known_as a.lot b.lot) || same_lot a.lot b.lot)

abbrev pub are_in_order : List Part → Bool
are_in_order [] = true
are_in_order (p ∷ ps) = list_all (goes_before p) ps && are_in_order ps

abbrev pub has_code_of_origin : Part → Bool
has_code_of_origin p = code_of p.range.first == p.lot.origin

unfoldable pub is_notice : NoticeContents → Bool
is_notice n =
    not (n.sender == n.addressee)
    && (is_in_range 1 100 (length n.parts) && (list_all has_code_of_origin n.parts && are_in_order n.parts))

-- ---- what a value states

unfoldable pub notice_fields_of : ℤ → ℤ → ℤ → ℤ → ℤ → Items → Result NoticeContents ValueFault
notice_fields_of account addressee number sender version items = do
  version ← integer_in 1 2 version
  sender ← integer_in 1 99 sender
  addressee ← integer_in 1 99 addressee
  number ← integer_in 1 999999999 number
  account ← integer_in 1 999999999 account
  parts ← parts_of (version == 2) items
  accepted is_notice (notice_contents sender addressee number account parts)

-- whether lots state their carrier in a version, where there is such a version
abbrev pub carried_in : ℤ → Option Bool
carried_in (pos n) = if n == 1 then Some false else (if n == 2 then Some true else None)
carried_in (negsuc n) = None

-- the shape of the parts is looked at before the fields
abbrev pub shaped_fields_of : ℤ → ℤ → ℤ → ℤ → ℤ → Items → Result NoticeContents ValueFault
shaped_fields_of account addressee number sender version items = do
  size ← parts_shape (carried_in version) items
  notice_fields_of account addressee number sender version items

-- the shape of the whole is looked at first, then its fields
unfoldable pub notice_of : Data → Result NoticeContents ValueFault
notice_of d = do
  size ← of_size 6 (as_object d)
  account ← integer_at (codes "account") d
  addressee ← integer_at (codes "addressee") d
  number ← integer_at (codes "number") d
  items ← items_at (codes "parts") d
  sender ← integer_at (codes "sender") d
  version ← integer_at (codes "version") d
  size ← parts_shape (carried_in version) items
  notice_fields_of account addressee number sender version items
