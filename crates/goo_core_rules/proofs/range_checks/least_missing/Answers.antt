use Rattle.std.proofs.Common.{rules}
use Rattle.goo_core_rules.proofs.range_checks.least_missing.Goals as goal

pub returns : goal.returns
returns c = search rules
