-- Days of the calendar, from 1900-01-01 to 2099-12-31.
use Rattle.std.specs.Prelude.{◌≡◌, ℕ, ◌+◌, ◌-◌, ◌*◌, ◌/◌, ◌%◌, min, pos}
use Rattle.std.specs.Int.{IsInRange}
use Rattle.jiff_core.specs.Calendar.{days_in_month, day_count}
use Rattle.jiff_core.specs.declared.civil.date.Date.{Date}

-- a day by its year, month and day of the month
pub record CalendarDay : Type 0 where
  pub year : ℕ
  pub month : ℕ
  pub day : ℕ

-- the days of a month
abbrev pub month_length : ℕ → ℕ → ℕ
month_length y m = days_in_month (pos y) m

-- the calendar has this day, and it is in the registry's range
abbrev pub IsDay : CalendarDay → Type 0
IsDay d = IsInRange 1900 2099 d.year × IsInRange 1 12 d.month × IsInRange 1 (month_length d.year d.month) d.day

-- the number of a day: consecutive days have consecutive numbers
unfoldable pub day_number : CalendarDay → ℕ
day_number d = day_count (pos d.year) d.month d.day

-- months since January of the year 0
abbrev pub month_number : CalendarDay → ℕ
month_number d = d.year * 12 + (d.month - 1)

-- the day of that month with the day of the month d, or the last one where the month is shorter
abbrev pub day_in_month : ℕ → ℕ → CalendarDay
day_in_month month d =
    record { year = month / 12; month = month % 12 + 1; day = min d (month_length (month / 12) (month % 12 + 1)) }

-- a date of the calendar is that many months after a day, in the day's month or the last one of it
pub record IsMoved (from : CalendarDay) (months : ℕ) (date : Date) : Type 0 where
  pub year : date.year ≡ pos (day_in_month (month_number from + months) from.day).year
  pub month : date.month ≡ (day_in_month (month_number from + months) from.day).month
  pub day : date.day ≡ (day_in_month (month_number from + months) from.day).day
