use Rattle.std.proofs.Common.{rules}
use Rattle.goo_types_forms.proofs.days.is_one_month.Goals as goal

pub returns-then-year-other_year : goal.returns-then-year-other_year
returns-then-year-other_year c = search rules
