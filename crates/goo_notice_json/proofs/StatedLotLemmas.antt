-- The text of a lot is read back.
use Rattle.std.proofs.Common.{◌≡◌, ℕ, Bool, true, false, Some, Ok, codes, refl, sym, arith}
use Rattle.std.specs.Prelude.{is_some}
use Rattle.serde_json.specs.Find.{get}
use Rattle.goo_types.specs.Carrier.{carrier_word, carrier_reading}
use Rattle.goo_types.specs.declared.carrier.Carrier.{Carrier}
use Rattle.goo_types.specs.declared.carrier.Carrier.TheVariants as carrier
use Rattle.goo_types.specs.declared.carrier.Carrier.TheVariants.{Electricity}
use Rattle.std.proofs.lemmas.Bool.Decides.{nat_tests}
use Rattle.json.specs.Tree as tree
use Rattle.json.proofs.Printed.Decimals.{IsNumber-decimal}
use Rattle.serde_json.proofs.Numbers.{number_of-decimal}
use Rattle.serde_json.specs.Read.{of_json}
use Rattle.serde_json.specs.Written.{has_float, outline}
use Rattle.goo_types.specs.Lot.{IsLot}
use Rattle.goo_types.specs.declared.lot_fields.LotFields.{LotFields}
use Rattle.goo_types.proofs.DayLemmas.{day_reading-day_text}
use Rattle.goo_notice_json.specs.Lot.{lot_data, IsStatedLot, is_lot, carrier_shape, plant_shape, lot_shape, carrier_of, lot_rest_of, lot_fields_of, lot_of}
use Rattle.goo_notice_json.specs.LotMembers.{origin_at, device_at, country_at, site_at, tech_at, source_at, capacity_at, commissioned_at, first_day_at, last_day_at, issued_on_at, support_at, carrier_at}
use Rattle.goo_notice_json.proofs.FieldLemmas.{fits, is_in_range-true, support_reading-support_word}

-- ---- a lot's days

is_lot-true : (l : LotFields) → IsLot l → is_lot l ≡ true
unfolding is_lot
is_lot-true l h = grind (arith, nat_tests, h.commissioned, h.rising, h.issued, h.month.0, h.month.1)

-- ---- its text

-- without a carrier a lot is one of electricity
abbrev pub IsTold : Bool → LotFields → Type 0
IsTold true l = Unit {0}
IsTold false l = l.carrier ≡ Electricity

pub no_float : (b : Bool) (l : LotFields) → has_float (lot_data b l) ≡ false
unfolding lot_data
no_float true l = refl
no_float false l = refl

pub depth : (b : Bool) (l : LotFields) → tree.depth (outline (lot_data b l)) ≡ 1
unfolding lot_data
depth true l = refl
depth false l = refl

pub numbers : (b : Bool) (l : LotFields) → IsStatedLot l → tree.HasNumbers (outline (lot_data b l))
unfolding lot_data
numbers true l h = (IsNumber-decimal l.capacity_w (fits 1 100000000000 l.capacity_w h.capacity_w (omega arith)), (tt, (tt, (tt, (tt, (tt, (tt, (tt, (IsNumber-decimal l.origin (fits 1 99 l.origin h.origin (omega arith)), (tt, (tt, (tt, (tt, tt)))))))))))))
numbers false l h = (IsNumber-decimal l.capacity_w (fits 1 100000000000 l.capacity_w h.capacity_w (omega arith)), (tt, (tt, (tt, (tt, (tt, (tt, (IsNumber-decimal l.origin (fits 1 99 l.origin h.origin (omega arith)), (tt, (tt, (tt, (tt, tt))))))))))))

pub again : (b : Bool) (l : LotFields) → IsStatedLot l → of_json (outline (lot_data b l)) ≡ Some (lot_data b l)
unfolding lot_data
again true l h =
    rw (number_of-decimal l.capacity_w (fits 1 100000000000 l.capacity_w h.capacity_w (omega arith)), number_of-decimal l.origin (fits 1 99 l.origin h.origin (omega arith))) refl
again false l h =
    rw (number_of-decimal l.capacity_w (fits 1 100000000000 l.capacity_w h.capacity_w (omega arith)), number_of-decimal l.origin (fits 1 99 l.origin h.origin (omega arith))) refl

abbrev pub size_of : Bool → ℕ
size_of true = 13
size_of false = 12

pub shape : (b : Bool) (l : LotFields) → lot_shape b (lot_data b l) ≡ Ok (size_of b)
unfolding lot_shape carrier_shape plant_shape lot_data
shape true l = refl
shape false l = refl

-- a lot that doesn't state its carrier has no such key, and one that does has it
pub key : (b : Bool) (l : LotFields) → is_some (get (codes "carrier") (lot_data b l)) ≡ b
unfolding lot_data
key true l = refl
key false l = refl

carrier_again : (c : Carrier) → carrier_reading (carrier_word c) ≡ Ok c
carrier_again carrier.Electricity = refl
carrier_again carrier.Gas = refl
carrier_again carrier.Hydrogen = refl
carrier_again carrier.HeatingCooling = refl

fields : (b : Bool) (l : LotFields) → IsStatedLot l → IsTold b l → lot_fields_of b (lot_data b l) ≡ Ok l
unfolding lot_fields_of lot_rest_of carrier_of lot_data origin_at device_at country_at site_at tech_at source_at capacity_at commissioned_at first_day_at last_day_at issued_on_at support_at carrier_at
fields true l h told =
    rw (
      is_in_range-true 1 99 l.origin h.origin,
      h.device,
      h.country,
      h.site,
      h.tech,
      h.source,
      is_in_range-true 1 100000000000 l.capacity_w h.capacity_w,
      day_reading-day_text l.commissioned h.commissioned,
      support_reading-support_word l.support,
      day_reading-day_text l.first_day h.first_day,
      day_reading-day_text l.last_day h.last_day,
      day_reading-day_text l.issued_on h.issued_on,
      carrier_again l.carrier,
    ) refl
fields false l h told =
    rw (
      is_in_range-true 1 99 l.origin h.origin,
      h.device,
      h.country,
      h.site,
      h.tech,
      h.source,
      is_in_range-true 1 100000000000 l.capacity_w h.capacity_w,
      day_reading-day_text l.commissioned h.commissioned,
      support_reading-support_word l.support,
      day_reading-day_text l.first_day h.first_day,
      day_reading-day_text l.last_day h.last_day,
      day_reading-day_text l.issued_on h.issued_on,
    ) (λ i. Ok (record l { carrier = sym told i }))

pub stated : (b : Bool) (l : LotFields) → IsStatedLot l → IsTold b l → lot_of b (lot_data b l) ≡ Ok l
unfolding lot_of
stated b l h told = rw (fields b l h told, is_lot-true l h.lot) refl
