-- The tables of a new registry.
use Rattle.std.specs.Prelude.{ℕ}
use Rattle.std.specs.Int.{IsInRange}
use Rattle.goo_types.specs.Day.{CalendarDay, IsDay}
use Rattle.goo_types.specs.Texts.{day_text}
use Rattle.goo_tables_rows.specs.Rows.{Meta}

-- its row: nothing has a number yet
abbrev pub meta_of : ℕ → CalendarDay → ℕ → Meta
meta_of code today next_serial = record {
  version = 2;
  code = code;
  today = day_text today;
  next_serial = next_serial;
  next_account = 1;
  next_cancellation = 1;
  next_withdrawal = 1;
  next_notice = 1;
}

-- a code, a day and a serial
pub record IsFirst (own : ℕ) (day : CalendarDay) (next_serial : ℕ) : Type 0 where
  pub code : IsInRange 1 99 own
  pub today : IsDay day
  pub serial : IsInRange 1 999_999_999_999 next_serial
