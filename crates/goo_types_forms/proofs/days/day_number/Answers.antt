use Rattle.std.proofs.Common.{pos, sym, subst}
use Rattle.jiff_core.specs.Date.{IsYmd}
use Rattle.goo_types_forms.proofs.MonthLemmas.{number_is}
use Rattle.goo_types_forms.proofs.days.day_number.Goals as goal

pub returns-clause-value : goal.returns-clause-value
returns-clause-value c =
    let a = c.args in
    let parts = subst (IsYmd (pos a.year) (pos a.month) (pos a.day)) (sym c.to_plain.ensures) c.date_on.ensures in
    number_is c.to_plain.result a.year a.month a.day c.days_since_min.result parts.0 parts.1 parts.2 c.days_since_min.ensures.value
