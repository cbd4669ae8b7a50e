-- The members of a lot's JSON object.
use Rattle.std.specs.Prelude.{ℕ, List, codes, Result}
use Rattle.serde_json.specs.Data.{Data}
use Rattle.goo_types.specs.Codes.{country_reading, name_reading, source_reading, tech_reading}
use Rattle.goo_types.specs.Day.{CalendarDay, day_reading}
use Rattle.goo_types.specs.Gsrn.{gsrn_reading}
use Rattle.goo_types.specs.Carrier.{carrier_reading}
use Rattle.goo_types.specs.Support.{support_reading}
use Rattle.goo_types.specs.declared.carrier.Carrier.{Carrier}
use Rattle.goo_types.specs.declared.support.Support.{Support}
use Rattle.goo_notice_json.specs.declared.value_fault.ValueFault.{ValueFault}
use Rattle.goo_notice_json.specs.Faults.{◌>>=◌}
use Rattle.goo_notice_json.specs.Members.{integer_at, string_at}
use Rattle.goo_notice_json.specs.Fields.{as_field, integer_in}

unfoldable pub origin_at : Data → Result ℕ ValueFault
origin_at d = do
  number ← integer_at (codes "origin") d
  integer_in 1 99 number

unfoldable pub device_at : Data → Result (List ℕ) ValueFault
device_at d = do
  text ← string_at (codes "device") d
  as_field (gsrn_reading text)

unfoldable pub country_at : Data → Result (List ℕ) ValueFault
country_at d = do
  text ← string_at (codes "country") d
  as_field (country_reading text)

unfoldable pub site_at : Data → Result (List ℕ) ValueFault
site_at d = do
  text ← string_at (codes "site") d
  as_field (name_reading text)

unfoldable pub tech_at : Data → Result (List ℕ) ValueFault
tech_at d = do
  text ← string_at (codes "tech") d
  as_field (tech_reading text)

unfoldable pub source_at : Data → Result (List ℕ) ValueFault
source_at d = do
  text ← string_at (codes "source") d
  as_field (source_reading text)

unfoldable pub capacity_at : Data → Result ℕ ValueFault
capacity_at d = do
  number ← integer_at (codes "capacity_w") d
  integer_in 1 100000000000 number

unfoldable pub support_at : Data → Result Support ValueFault
support_at d = do
  text ← string_at (codes "support") d
  as_field (support_reading text)

unfoldable pub commissioned_at : Data → Result CalendarDay ValueFault
commissioned_at d = do
  text ← string_at (codes "commissioned") d
  as_field (day_reading text)

unfoldable pub first_day_at : Data → Result CalendarDay ValueFault
first_day_at d = do
  text ← string_at (codes "first_day") d
  as_field (day_reading text)

unfoldable pub last_day_at : Data → Result CalendarDay ValueFault
last_day_at d = do
  text ← string_at (codes "last_day") d
  as_field (day_reading text)

unfoldable pub issued_on_at : Data → Result CalendarDay ValueFault
issued_on_at d = do
  text ← string_at (codes "issued_on") d
  as_field (day_reading text)

unfoldable pub carrier_at : Data → Result Carrier ValueFault
carrier_at d = do
  text ← string_at (codes "carrier") d
  as_field (carrier_reading text)
