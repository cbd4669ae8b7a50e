use Rattle.goo_spec_laws.proofs.Lists.{only_by_right, each_by_right}
use Rattle.goo_spec_laws.proofs.authority.only_by_right.Goals as goal

pub returns-clause-whole : goal.returns-clause-whole
returns-clause-whole c = only_by_right

pub returns-clause-each : goal.returns-clause-each
returns-clause-each c = each_by_right
