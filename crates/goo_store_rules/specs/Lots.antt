-- The days of a lot.
use Rattle.std.specs.Prelude.{◌≡◌, true, option_map}
use Rattle.goo_types.specs.Day.{months_after}
use Rattle.goo_types.specs.Lot.{IsLot}
use Rattle.goo_types.specs.Texts.{day_text}
use Rattle.goo_tables_rows.specs.Rows.{Lot}
use Rattle.goo_spec_tables.specs.Places.{lot_of}
use Rattle.goo_spec_tables.specs.Readable.{is_lot}
use Rattle.goo_spec_tables.specs.Texts.{day_of}
use Rattle.goo_types.specs.declared.lot_fields.LotFields.{LotFields}
use Rattle.goo_store_rules.specs.declared.lots.LotDays.{LotDays}

pub record AreDaysOf (l : LotFields) (d : LotDays) : Type 0 where
  pub commissioned : d.commissioned ≡ l.commissioned
  pub first_day : d.first_day ≡ l.first_day
  pub last_day : d.last_day ≡ l.last_day
  pub issued_on : d.issued_on ≡ l.issued_on

-- its values are accepted, its days are in order, and it expires 18 months after its period, where the calendar has that day
pub record IsGoodLot (l : Lot) : Type 0 where
  pub accepted : is_lot l ≡ true
  pub in_order : IsLot (lot_of l)
  pub expires : l.expires_on ≡ option_map day_text (months_after (day_of l.last_day) 18)
