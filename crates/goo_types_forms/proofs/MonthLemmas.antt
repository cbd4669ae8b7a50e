-- What adding months to a date gives.
use Rattle.std.proofs.Common.{◌≡◌, ℕ, ◌+◌, ◌-◌, ◌*◌, ◌/◌, ◌%◌, ◌<◌, ◌≤◌, min, ℤ, pos, ◌+ℤ◌, ◌*ℤ◌, sym, ap, subst, ◌∙◌, arith}
use Rattle.jiff_core.specs.declared.civil.date.Date.{Date}
use Rattle.jiff_core.specs.declared.span.Span.{Span}
use Rattle.jiff_core.specs.declared.unit.Unit.TheVariants.{Month, Hour, Minute, Second, Millisecond, Microsecond, Nanosecond}
use Rattle.jiff_core.specs.Calendar.{IsCivilDate, IsEpochDay, days_in_month, day_count}
use Rattle.jiff_core.specs.Date.{epoch_day}
use Rattle.jiff_core.specs.Span.{IsOnly, magnitude, span_months, span_days, clock_days}
use Rattle.jiff_core.proofs.SignedLemmas.{signed_arith}
use Rattle.jiff_core.proofs.CalendarLemmas.{days_from_civil-day_count}
use Rattle.jiff_core.proofs.DateLemmas.{epoch_day_injective, epoch_day_range}
use Rattle.jiff_span.specs.Add.{date_add, CanAddToDate}
use Rattle.jiff_span.specs.Months.{add_months, shifted_year, shifted_month, IsShiftable, month_number}
use Rattle.jiff_span.proofs.DifferenceLemmas.{signed_zero}
use Rattle.jiff_span.proofs.MonthLemmas.{shift_parts, shifted_civil}
use Rattle.goo_types_forms.specs.Days as day
use Rattle.goo_types_forms.specs.Days.{CalendarDay, day_number, IsMoved}

no_clock : (s : Span) → magnitude Hour s ≡ 0 → magnitude Minute s ≡ 0 → magnitude Second s ≡ 0 → magnitude Millisecond s ≡ 0 → magnitude Microsecond s ≡ 0 → magnitude Nanosecond s ≡ 0 → clock_days s ≡ pos 0
no_clock s a b c d e f = signed_zero s.negative _ (omega arith)

-- a span of months moves a date by that many
pub date_add-months : (a : Date) (n : ℤ) (s : Span) → IsOnly Month n s → (date_add a s ≡ add_months a n) × (span_months s ≡ n)
date_add-months a n s h =
    let m : span_months s ≡ n = omega (arith, signed_arith, h.months) in
    let d : span_days s ≡ pos 0 = omega (arith, signed_arith, h.days) in
    let k : clock_days s ≡ pos 0 = no_clock s (h.others Hour (omega arith)) (h.others Minute (omega arith)) (h.others Second (omega arith)) (h.others Millisecond (omega arith)) (h.others Microsecond (omega arith)) (h.others Nanosecond (omega arith)) in
    (rw (m, d, k) (omega (arith, signed_arith)), m)

-- the date with these parts
plain_date : (y : ℤ) (m d : ℕ) → IsCivilDate y m d → Date
plain_date y m d h = record { year = y; month = m; day = d; year_in = h.0; month_in = h.1; day_in = h.2 }

-- where a date goes by months
shifted_is : (a : Date) (y m k : ℕ) → a.year ≡ pos y → a.month ≡ m → 1 ≤ m → y ≤ 2099 → k < 256
    → (shifted_year a (pos k) ≡ pos ((y * 12 + (m - 1) + k) / 12)) × (shifted_month a (pos k) ≡ (y * 12 + (m - 1) + k) % 12 + 1) × IsShiftable a (pos k)
shifted_is a y m k ey em low high few =
    let t = y * 12 + (m - 1) + k in
    let number : month_number a +ℤ pos k ≡ pos (t / 12) *ℤ pos 12 +ℤ pos (t % 12 + 1 - 1) = omega (arith, signed_arith) in
    let parts = shift_parts a (pos k) (pos (t / 12)) (t % 12 + 1) number (omega arith) (omega arith) in
    (parts.0, parts.1, rw parts.0 (omega (arith, signed_arith)))

-- the registry's days can be moved
pub can_move : (a : Date) (s : Span) (y m k : ℕ) → a.year ≡ pos y → a.month ≡ m → 1 ≤ m → y ≤ 2099 → k < 256 → IsOnly Month (pos k) s → CanAddToDate a s
unfolding plain_date
can_move a s y m k ey em low high few only =
    let sum = date_add-months a (pos k) s only in
    let shift = shifted_is a y m k ey em low high few in
    (subst (IsShiftable a) (sym sum.1) shift.2, subst IsEpochDay (sym sum.0) (epoch_day_range (plain_date _ _ _ (shifted_civil a (pos k) shift.2))))

-- and have these parts then
pub moved_parts : (d : CalendarDay) (k : ℕ) (a r : Date) (s : Span) → a.year ≡ pos d.year → a.month ≡ d.month → a.day ≡ d.day → 1 ≤ d.month → d.year ≤ 2099 → k < 256
    → IsOnly Month (pos k) s → epoch_day r ≡ date_add a s → IsMoved d k r
unfolding plain_date
moved_parts d k a r s ey em ed low high few only e =
    let sum = date_add-months a (pos k) s only in
    let shift = shifted_is a d.year d.month k ey em low high few in
    let same = epoch_day_injective r (plain_date _ _ _ (shifted_civil a (pos k) shift.2)) (e ∙ sum.0) in
    let length_is : days_in_month (shifted_year a (pos k)) (shifted_month a (pos k)) ≡ days_in_month (pos ((day.month_number d + k) / 12)) ((day.month_number d + k) % 12 + 1) =
    ap (λ l. days_in_month l (shifted_month a (pos k))) shift.0 ∙ ap (λ l. days_in_month (pos ((day.month_number d + k) / 12)) l) shift.1 in
    record {
      year = same.0 ∙ shift.0;
      month = same.1 ∙ shift.1;
      day = same.2 ∙ ap (λ l. min a.day l) length_is ∙ ap (λ l. min l (days_in_month (pos ((day.month_number d + k) / 12)) ((day.month_number d + k) % 12 + 1))) ed;
    }

-- the day number of a date
pub number_is : (r : Date) (y m d n : ℕ) → r.year ≡ pos y → pos r.month ≡ pos m → pos r.day ≡ pos d → epoch_day r +ℤ pos 4_371_587 ≡ pos n → n + 366 ≡ day_number (record { year = y; month = m; day = d })
unfolding day_number
number_is r y m d n ey em ed e =
    let month : r.month ≡ m = omega (arith, signed_arith) in
    let on : r.day ≡ d = omega (arith, signed_arith) in
    let same : day_count r.year r.month r.day ≡ day_count (pos y) m d = ap (λ k. day_count k r.month r.day) ey ∙ ap (λ k. day_count (pos y) k r.day) month ∙ ap (λ k. day_count (pos y) m k) on in
    omega (arith, signed_arith, days_from_civil-day_count r.year r.month r.day, same)
