use Rattle.std.proofs.Common.{rules}
use Rattle.goo_core_rules.proofs.days.is_past.Goals as goal

pub returns-in-Some : goal.returns-in-Some
returns-in-Some c = search rules
