-- The days that the texts of a lot's row state, read one after another.
use Rattle.std.proofs.Common.{◌≡◌, ℕ, true, List, Option, Some, None, Ok, Err, Result, sym, ap, ◌∙◌, true≢false}
use Rattle.std.specs.Result.{result_ok, result_unwrap_or}
use Rattle.std.proofs.lemmas.Bool.{and_parts}
use Rattle.goo_types.specs.Day.{CalendarDay, day_reading}
use Rattle.goo_types.specs.Gsrn.{gsrn_reading}
use Rattle.goo_types.specs.Codes.{country_reading, name_reading, tech_reading, source_reading}
use Rattle.goo_types.specs.Support.{support_reading}
use Rattle.goo_types.specs.declared.day.DayFault.{DayFault}
use Rattle.goo_tables_rows.specs.Rows.{Lot, Plant}
use Rattle.goo_spec_tables.specs.Texts.{day_of, no_day}
use Rattle.goo_spec_tables.specs.Readable.{reads, is_lot, is_code, is_plant, is_between, is_maybe_other}

unwrapped : (r : Result CalendarDay DayFault) (x : CalendarDay) → Some x ≡ result_ok r → x ≡ result_unwrap_or r no_day
unwrapped (Ok y) x is = cc
unwrapped (Err e) x is = absurd cc

pub day_found : (r : Result CalendarDay DayFault) (text bytes : List ℕ) (o : Option CalendarDay) (x : CalendarDay) → o ≡ Some x → o ≡ result_ok r → r ≡ day_reading bytes → bytes ≡ text → x ≡ day_of text
day_found r text bytes o x is ok read same = unwrapped r x (sym is ∙ ok) ∙ ap (λ q. result_unwrap_or q no_day) (read ∙ ap day_reading same)

lost : (r : Result CalendarDay DayFault) → None ≡ result_ok r → reads r ≡ true → ⊥
lost (Ok y) is so = absurd cc
lost (Err e) is so = true≢false (sym so)

pub day_lost : (r : Result CalendarDay DayFault) (text bytes : List ℕ) (o : Option CalendarDay) → o ≡ None → o ≡ result_ok r → r ≡ day_reading bytes → bytes ≡ text → reads (day_reading text) ≡ true → ⊥
day_lost r text bytes o is ok read same so = lost r (sym is ∙ ok) (ap reads (read ∙ ap day_reading same) ∙ so)

pub commissioned_reads : (p : Plant) → is_plant p ≡ true → reads (day_reading p.commissioned) ≡ true
commissioned_reads p is =
    let site = and_parts (reads (country_reading p.country)) _ is in
    let tech = and_parts (reads (name_reading p.site)) _ site.1 in
    let source = and_parts (reads (tech_reading p.tech)) _ tech.1 in
    let capacity = and_parts (reads (source_reading p.source)) _ source.1 in
    let days = and_parts (is_between 1 100000000000 p.capacity_w) _ capacity.1 in
    (and_parts (reads (day_reading p.commissioned)) (reads (support_reading p.support)) days.1).0

pub days_read : (l : Lot) → is_lot l ≡ true → (is_plant l.plant ≡ true) × ((reads (day_reading l.first_day) ≡ true) × ((reads (day_reading l.last_day) ≡ true) × (reads (day_reading l.issued_on) ≡ true)))
days_read l is =
    let device = and_parts (is_code l.origin) _ is in
    let plant = and_parts (reads (gsrn_reading l.device)) _ device.1 in
    let days = and_parts (is_plant l.plant) _ plant.1 in
    let later = and_parts (reads (day_reading l.first_day)) _ days.1 in
    let last = and_parts (reads (day_reading l.last_day)) _ later.1 in
    (days.0, (later.0, (last.0, (and_parts (reads (day_reading l.issued_on)) (is_maybe_other l.carrier) last.1).0)))
