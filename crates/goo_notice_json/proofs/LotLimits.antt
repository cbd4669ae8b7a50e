-- A lot that a JSON value states is within its limits.
use Rattle.std.proofs.Common.{◌≡◌, ℕ, Bool, List, codes, true, Ok, subst, arith}
use Rattle.std.proofs.lemmas.Bool.Decides.{nat_tests}
use Rattle.std.specs.Int.{IsInRange}
use Rattle.serde_json.specs.Data.{Data}
use Rattle.goo_types.specs.Codes.{name_reading, country_reading, tech_reading, source_reading}
use Rattle.goo_types.specs.Day.{CalendarDay, IsDay, day_reading}
use Rattle.goo_types.specs.Gsrn.{gsrn_reading}
use Rattle.goo_types.specs.Lot.{IsLot}
use Rattle.goo_types.specs.declared.lot_fields.LotFields.{LotFields}
use Rattle.goo_notice_json.specs.Members.{string_at, integer_at}
use Rattle.goo_notice_json.specs.Lot.{IsStatedLot, is_lot, carrier_of, lot_rest_of, lot_fields_of, lot_of}
use Rattle.goo_notice_json.specs.LotMembers.{origin_at, device_at, country_at, site_at, tech_at, source_at, capacity_at, commissioned_at, first_day_at, last_day_at, issued_on_at, support_at}
use Rattle.goo_notice_json.proofs.LimitLemmas.{IsDay-reading}
use Rattle.goo_notice_json.proofs.FieldLimits.{bind_ok, field_ok, ok_same, accepted_ok, within_limits, name_again, country_again, tech_again, source_again, gsrn_again}

origin : (d : Data) (n : ℕ) → origin_at d ≡ Ok n → IsInRange 1 99 n
unfolding origin_at
origin d n e = let a = bind_ok (integer_at (codes "origin") d) _ n e in within_limits 1 99 a.0 n a.2

capacity : (d : Data) (n : ℕ) → capacity_at d ≡ Ok n → IsInRange 1 100000000000 n
unfolding capacity_at
capacity d n e = let a = bind_ok (integer_at (codes "capacity_w") d) _ n e in within_limits 1 100000000000 a.0 n a.2

device : (d : Data) (t : List ℕ) → device_at d ≡ Ok t → gsrn_reading t ≡ Ok t
unfolding device_at
device d t e = let a = bind_ok (string_at (codes "device") d) _ t e in gsrn_again a.0 t (field_ok (gsrn_reading a.0) t a.2)

country : (d : Data) (t : List ℕ) → country_at d ≡ Ok t → country_reading t ≡ Ok t
unfolding country_at
country d t e = let a = bind_ok (string_at (codes "country") d) _ t e in country_again a.0 t (field_ok (country_reading a.0) t a.2)

site : (d : Data) (t : List ℕ) → site_at d ≡ Ok t → name_reading t ≡ Ok t
unfolding site_at
site d t e = let a = bind_ok (string_at (codes "site") d) _ t e in name_again a.0 t (field_ok (name_reading a.0) t a.2)

tech : (d : Data) (t : List ℕ) → tech_at d ≡ Ok t → tech_reading t ≡ Ok t
unfolding tech_at
tech d t e = let a = bind_ok (string_at (codes "tech") d) _ t e in tech_again a.0 t (field_ok (tech_reading a.0) t a.2)

source : (d : Data) (t : List ℕ) → source_at d ≡ Ok t → source_reading t ≡ Ok t
unfolding source_at
source d t e = let a = bind_ok (string_at (codes "source") d) _ t e in source_again a.0 t (field_ok (source_reading a.0) t a.2)

commissioned : (d : Data) (t : CalendarDay) → commissioned_at d ≡ Ok t → IsDay t
unfolding commissioned_at
commissioned d t e = let a = bind_ok (string_at (codes "commissioned") d) _ t e in IsDay-reading a.0 t (field_ok (day_reading a.0) t a.2)

first_day : (d : Data) (t : CalendarDay) → first_day_at d ≡ Ok t → IsDay t
unfolding first_day_at
first_day d t e = let a = bind_ok (string_at (codes "first_day") d) _ t e in IsDay-reading a.0 t (field_ok (day_reading a.0) t a.2)

last_day : (d : Data) (t : CalendarDay) → last_day_at d ≡ Ok t → IsDay t
unfolding last_day_at
last_day d t e = let a = bind_ok (string_at (codes "last_day") d) _ t e in IsDay-reading a.0 t (field_ok (day_reading a.0) t a.2)

issued_on : (d : Data) (t : CalendarDay) → issued_on_at d ≡ Ok t → IsDay t
unfolding issued_on_at
issued_on d t e = let a = bind_ok (string_at (codes "issued_on") d) _ t e in IsDay-reading a.0 t (field_ok (day_reading a.0) t a.2)

rest : (b : Bool) (o : ℕ) (dev c s t src : List ℕ) (d : Data) (l : LotFields) → lot_rest_of b o dev c s t src d ≡ Ok l
    → IsInRange 1 99 o → gsrn_reading dev ≡ Ok dev → country_reading c ≡ Ok c → name_reading s ≡ Ok s → tech_reading t ≡ Ok t → source_reading src ≡ Ok src
    → IsLot l → IsStatedLot l
unfolding lot_rest_of
rest b o dev c s t src d l e ho hd hc hs ht hsrc =
    let a0 = bind_ok (capacity_at d) _ l e in
    let a1 = bind_ok (commissioned_at d) _ l a0.2 in
    let a2 = bind_ok (support_at d) _ l a1.2 in
    let a3 = bind_ok (first_day_at d) _ l a2.2 in
    let a4 = bind_ok (last_day_at d) _ l a3.2 in
    let a5 = bind_ok (issued_on_at d) _ l a4.2 in
    let a6 = bind_ok (carrier_of b d) _ l a5.2 in
    subst (λ x. IsLot x → IsStatedLot x) (ok_same _ l a6.2) (λ h. record {
      origin = ho;
      device = hd;
      country = hc;
      site = hs;
      tech = ht;
      source = hsrc;
      capacity_w = capacity d a0.0 a0.1;
      commissioned = commissioned d a1.0 a1.1;
      first_day = first_day d a3.0 a3.1;
      last_day = last_day d a4.0 a4.1;
      issued_on = issued_on d a5.0 a5.1;
      lot = h;
    })

fields : (b : Bool) (d : Data) (l : LotFields) → lot_fields_of b d ≡ Ok l → IsLot l → IsStatedLot l
unfolding lot_fields_of
fields b d l e =
    let a0 = bind_ok (origin_at d) _ l e in
    let a1 = bind_ok (device_at d) _ l a0.2 in
    let a2 = bind_ok (country_at d) _ l a1.2 in
    let a3 = bind_ok (site_at d) _ l a2.2 in
    let a4 = bind_ok (tech_at d) _ l a3.2 in
    let a5 = bind_ok (source_at d) _ l a4.2 in
    rest b a0.0 a1.0 a2.0 a3.0 a4.0 a5.0 d l a5.2 (origin d a0.0 a0.1) (device d a1.0 a1.1) (country d a2.0 a2.1) (site d a3.0 a3.1) (tech d a4.0 a4.1) (source d a5.0 a5.1)

is_lot-holds : (l : LotFields) → is_lot l ≡ true → IsLot l
unfolding is_lot
is_lot-holds l h = record {
  commissioned = grind (arith, nat_tests, h);
  rising = grind (arith, nat_tests, h);
  issued = grind (arith, nat_tests, h);
  month = (grind (arith, nat_tests, h), grind (arith, nat_tests, h));
}

pub lot : (b : Bool) (d : Data) (l : LotFields) → lot_of b d ≡ Ok l → IsStatedLot l
unfolding lot_of
lot b d l e =
    let a = bind_ok (lot_fields_of b d) _ l e in
    let t = accepted_ok is_lot a.0 l a.2 in
    subst (λ x. IsStatedLot x) t.1 (fields b d a.0 a.1 (is_lot-holds a.0 t.0))
