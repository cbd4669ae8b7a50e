use Rattle.std.proofs.Common.{rules}
use Rattle.goo_core_rules.proofs.range_checks.trade_refusal.Goals as goal

pub returns-in-Some-least_not_held_by : goal.returns-in-Some-least_not_held_by
returns-in-Some-least_not_held_by c = search rules
