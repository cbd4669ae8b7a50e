use Rattle.std.proofs.Common.{rules}
use Rattle.goo_types_forms.proofs.days.are_in_order.Goals as goal

pub returns-then-first-last : goal.returns-then-first-last
returns-then-first-last c = search rules
