use Rattle.std.proofs.Common.{rules}
use Rattle.goo_types_forms.proofs.days.months_later.Goals as goal

pub returns : goal.returns
returns c = search rules
