use Rattle.std.proofs.Common.{◌≡◌, ◌<◌, pos, to_z, w64, arith, subst}
use Rattle.std.proofs.lemmas.Int.{to_z_pos}
use Rattle.jiff_core.proofs.SignedLemmas.{signed_arith}
use Rattle.jiff_core.specs.Span.{IsOnly}
use Rattle.jiff_core.specs.declared.unit.Unit.TheVariants.{Month}
use Rattle.goo_types_forms.specs.Days.{CalendarDay}
use Rattle.goo_types_forms.proofs.MonthLemmas.{can_move, moved_parts}
use Rattle.goo_types_forms.proofs.days.moved.Goals as goal

pub unwrap-requires : goal.unwrap-requires
unwrap-requires c =
    let k = c.args.months in
    let few : k < 256 = omega arith in
    let wide : to_z w64 k ≡ pos k = to_z_pos w64 k (omega arith) in
    let only : IsOnly Month (pos k) c.months.result = subst (λ z. IsOnly Month z c.months.result) wide c.months.ensures in
    let month : c.date_on.result.month ≡ c.args.month = omega (arith, signed_arith, c.date_on.ensures.1) in
    let day = c.requires in
    c.checked_add.ensures.succeeds.1 (can_move c.date_on.result c.months.result c.args.year c.args.month k c.date_on.ensures.0 month day.1.0 day.0.1 few only)

pub returns : goal.returns
returns c =
    let d : CalendarDay = record { year = c.args.year; month = c.args.month; day = c.args.day } in
    let k = c.args.months in
    let few : k < 256 = omega arith in
    let wide : to_z w64 k ≡ pos k = to_z_pos w64 k (omega arith) in
    let only : IsOnly Month (pos k) c.months.result = subst (λ z. IsOnly Month z c.months.result) wide c.months.ensures in
    let month : c.date_on.result.month ≡ c.args.month = omega (arith, signed_arith, c.date_on.ensures.1) in
    let on : c.date_on.result.day ≡ c.args.day = omega (arith, signed_arith, c.date_on.ensures.2) in
    let day = c.requires in
    moved_parts d k c.date_on.result c.unwrap.result c.months.result c.date_on.ensures.0 month on day.1.0 day.0.1 few only (rw c.unwrap.ensures at c.checked_add.ensures.value)
