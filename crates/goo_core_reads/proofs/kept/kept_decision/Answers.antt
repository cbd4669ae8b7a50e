use Rattle.std.proofs.Common.{rules}
use Rattle.goo_core_reads.proofs.kept.kept_decision.Goals as goal

pub returns-in-Same : goal.returns-in-Same
returns-in-Same c = search rules

pub returns-in-Other : goal.returns-in-Other
returns-in-Other c = search rules
