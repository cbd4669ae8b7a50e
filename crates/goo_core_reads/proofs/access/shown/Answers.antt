use Rattle.std.proofs.Common.{rules}
use Rattle.goo_core_reads.proofs.access.shown.Goals as goal

pub returns-else-may_see : goal.returns-else-may_see
returns-else-may_see c = search rules
