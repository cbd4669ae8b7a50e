-- Corrections, looked up by what they are of.
use Rattle.std.specs.Prelude.{◌≡◌, ℕ, Bool, ◌&&◌, cond, List}
use Rattle.std.specs.Str.{bytes_eq}
use Rattle.std.specs.declared.cmp.Ordering.{Ordering}
use Rattle.std.specs.BTreeMap.{BTreeMap, get}
use Rattle.std.specs.BTreeSet.{BTreeSet, contains}
use Rattle.std.specs.List.{list_any}
use Rattle.std.specs.Ordering.{nat_cmp, ordering_then}
use Rattle.goo_types.specs.Day.{CalendarDay}
use Rattle.goo_spec.specs.Energy.{withdrew}
use Rattle.goo_spec.specs.Lots.{same_day}
use Rattle.goo_spec.specs.State.{Correction, text_cmp}
use Rattle.goo_store_rules.specs.Summing.{amount}

-- the device, and then the number of the withdrawal
abbrev pub device_act_cmp : List ℕ × ℕ → List ℕ × ℕ → Ordering
device_act_cmp a b = ordering_then (text_cmp a.0 b.0) (nat_cmp a.1 b.1)

-- the withdrawals that corrections made, each with the device that it was of
abbrev pub AreTakenBack : List Correction → BTreeSet (List ℕ × ℕ) → Type 0
AreTakenBack cs set = (device : List ℕ) (act : ℕ) → contains device_act_cmp set (device, act) ≡ list_any (withdrew device act) cs

-- days by year, month and day
abbrev pub day_cmp : CalendarDay → CalendarDay → Ordering
day_cmp a b = ordering_then (nat_cmp a.year b.year) (ordering_then (nat_cmp a.month b.month) (nat_cmp a.day b.day))

-- the device, and then the first day
abbrev pub period_cmp : List ℕ × CalendarDay → List ℕ × CalendarDay → Ordering
period_cmp a b = ordering_then (text_cmp a.0 b.0) (day_cmp a.1 b.1)

-- what was taken off the device's declaration that begins on that day
abbrev pub taken_at : BTreeMap (List ℕ × CalendarDay) ℕ → List ℕ → CalendarDay → ℕ
taken_at sums device first_day = amount (get period_cmp sums (device, first_day))

-- whether a period is the device's and begins on that day
abbrev pub is_period : List ℕ → CalendarDay → List ℕ → CalendarDay → Bool
is_period device first_day d first = bytes_eq d device && same_day first first_day

-- what a correction takes off the device's declaration that begins on that day
abbrev pub less_at : List ℕ → CalendarDay → Correction → ℕ
less_at device first_day c = cond (is_period c.device c.first_day device first_day) c.less 0
