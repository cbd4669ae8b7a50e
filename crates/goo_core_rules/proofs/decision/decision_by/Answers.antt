use Rattle.std.proofs.Common.{rules}
use Rattle.goo_core_rules.proofs.decision.decision_by.Goals as goal

pub returns-in-Refused-clause-decision : goal.returns-in-Refused-clause-decision
returns-in-Refused-clause-decision c = search rules
