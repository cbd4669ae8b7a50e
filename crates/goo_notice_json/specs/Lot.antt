-- What stands in the JSON text of a lot, and which lot a JSON value states.
use Rattle.std.specs.Prelude.{◌≡◌, ℕ, List, Bool, true, false, ◌&&◌, ◌==◌, nat_le, nat_lt, codes, Result, Ok}
use Rattle.std.specs.Int.{IsInRange}
use Rattle.serde_json.specs.Data.{Data, string, object, Members, no_members, put}
use Rattle.serde_json.specs.Find.{as_object}
use Rattle.goo_types.specs.Codes.{country_reading, name_reading, source_reading, tech_reading}
use Rattle.goo_types.specs.Day.{IsDay, day_number}
use Rattle.goo_types.specs.Gsrn.{gsrn_reading}
use Rattle.goo_types.specs.Lot.{IsLot}
use Rattle.goo_types.specs.Carrier.{carrier_word}
use Rattle.goo_types.specs.Support.{support_word}
use Rattle.goo_types.specs.declared.carrier.Carrier.{Carrier}
use Rattle.goo_types.specs.declared.carrier.Carrier.TheVariants.{Electricity}
use Rattle.goo_types.specs.declared.lot_fields.LotFields.{LotFields}
use Rattle.goo_types.specs.Texts.{day_text}
use Rattle.goo_notice_json.specs.declared.value_fault.ValueFault.{ValueFault}
use Rattle.goo_notice_json.specs.Faults.{◌>>=◌}
use Rattle.goo_notice_json.specs.Members.{integer_member, text_member, integer_at, of_size, string_at}
use Rattle.goo_notice_json.specs.Fields.{accepted}
use Rattle.goo_notice_json.specs.LotMembers.{origin_at, device_at, country_at, site_at, tech_at, source_at, capacity_at, commissioned_at, first_day_at, last_day_at, issued_on_at, support_at, carrier_at}

-- whether it is another than electricity, which a text may leave out
abbrev pub is_other : Carrier → Bool
is_other Electricity = false
is_other _ = true

-- the members and the carrier, where it is stated, in its place among the keys
abbrev pub with_carrier : Bool → Carrier → Members → Members
with_carrier true c members = put (codes "carrier") (string (carrier_word c)) members
with_carrier false c members = members

-- the JSON object, its keys in byte order, with the carrier or without
unfoldable pub lot_data : Bool → LotFields → Data
lot_data carried l =
    object
    (with_carrier carried l.carrier
    (integer_member (codes "capacity_w") l.capacity_w
    (text_member (codes "commissioned") (day_text l.commissioned)
    (text_member (codes "country") l.country
    (text_member (codes "device") l.device
    (text_member (codes "first_day") (day_text l.first_day)
    (text_member (codes "issued_on") (day_text l.issued_on)
    (text_member (codes "last_day") (day_text l.last_day)
    (integer_member (codes "origin") l.origin
    (text_member (codes "site") l.site
    (text_member (codes "source") l.source
    (text_member (codes "support") (support_word l.support)
    (text_member (codes "tech") l.tech no_members)))))))))))))

-- each field is a value of its type, and the days are in order
pub record IsStatedLot (l : LotFields) : Type 0 where
  pub origin : IsInRange 1 99 l.origin
  pub device : gsrn_reading l.device ≡ Ok l.device
  pub country : country_reading l.country ≡ Ok l.country
  pub site : name_reading l.site ≡ Ok l.site
  pub tech : tech_reading l.tech ≡ Ok l.tech
  pub source : source_reading l.source ≡ Ok l.source
  pub capacity_w : IsInRange 1 100000000000 l.capacity_w
  pub commissioned : IsDay l.commissioned
  pub first_day : IsDay l.first_day
  pub last_day : IsDay l.last_day
  pub issued_on : IsDay l.issued_on
  pub lot : IsLot l

-- the test of a lot's days
unfoldable pub is_lot : LotFields → Bool
is_lot l =
    nat_le (day_number l.commissioned) (day_number l.first_day)
    && nat_le (day_number l.first_day) (day_number l.last_day)
    && nat_lt (day_number l.last_day) (day_number l.issued_on)
    && (l.first_day.year == l.last_day.year)
    && (l.first_day.month == l.last_day.month)

-- what is told of the plant, by its kinds
unfoldable pub plant_shape : Data → Result ℕ ValueFault
plant_shape d = do
  capacity_w ← integer_at (codes "capacity_w") d
  commissioned ← string_at (codes "commissioned") d
  country ← string_at (codes "country") d
  site ← string_at (codes "site") d
  source ← string_at (codes "source") d
  support ← string_at (codes "support") d
  tech ← string_at (codes "tech") d
  Ok 7

-- the carrier's kind, where lots state it
unfoldable pub carrier_shape : Bool → Data → Result ℕ ValueFault
carrier_shape true d = do
  carrier ← string_at (codes "carrier") d
  Ok 13
carrier_shape false d = Ok 12

-- an object of just these keys and kinds, with the carrier or without
unfoldable pub lot_shape : Bool → Data → Result ℕ ValueFault
lot_shape carried d = do
  count ← carrier_shape carried d
  size ← of_size count (as_object d)
  plant ← plant_shape d
  device ← string_at (codes "device") d
  first_day ← string_at (codes "first_day") d
  issued_on ← string_at (codes "issued_on") d
  last_day ← string_at (codes "last_day") d
  origin ← integer_at (codes "origin") d
  Ok size

-- the carrier that an object states, electricity where lots don't state it
unfoldable pub carrier_of : Bool → Data → Result Carrier ValueFault
carrier_of true d = carrier_at d
carrier_of false d = Ok Electricity

-- what an object of that shape states, where these fields of it are known
unfoldable pub lot_rest_of : Bool → ℕ → List ℕ → List ℕ → List ℕ → List ℕ → List ℕ → Data → Result LotFields ValueFault
lot_rest_of carried origin device country site tech source d = do
  capacity_w ← capacity_at d
  commissioned ← commissioned_at d
  support ← support_at d
  first_day ← first_day_at d
  last_day ← last_day_at d
  issued_on ← issued_on_at d
  carrier ← carrier_of carried d
  Ok (record {
    origin = origin;
    device = device;
    country = country;
    site = site;
    tech = tech;
    source = source;
    capacity_w = capacity_w;
    commissioned = commissioned;
    support = support;
    first_day = first_day;
    last_day = last_day;
    issued_on = issued_on;
    carrier = carrier;
  })

unfoldable pub lot_fields_of : Bool → Data → Result LotFields ValueFault
lot_fields_of carried d = do
  origin ← origin_at d
  device ← device_at d
  country ← country_at d
  site ← site_at d
  tech ← tech_at d
  source ← source_at d
  lot_rest_of carried origin device country site tech source d

unfoldable pub lot_of : Bool → Data → Result LotFields ValueFault
lot_of carried d = do
  fields ← lot_fields_of carried d
  accepted is_lot fields
