use Rattle.std.proofs.Common.{rules}
use Rattle.goo_core_rules.proofs.export.sending_edits.Goals as goal

pub returns-clause-edits : goal.returns-clause-edits
returns-clause-edits c = search rules
