use Rattle.std.proofs.Common.{rules}
use Rattle.goo_types_forms.proofs.numbers.is_number.Goals as goal

pub returns-then-value : goal.returns-then-value
returns-then-value c = search rules
