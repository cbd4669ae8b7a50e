use Rattle.std.proofs.Common.{rules}
use Rattle.goo_core_rules.proofs.declare.earn.Goals as goal

pub returns-clause-count : goal.returns-clause-count
returns-clause-count c = search rules

pub returns-clause-carry : goal.returns-clause-carry
returns-clause-carry c = search rules
