use Rattle.std.proofs.Common.{rules}
use Rattle.goo_store_changes.proofs.once.keep_notice.Goals as goal

pub returns-clause-changed : goal.returns-clause-changed
returns-clause-changed g c = search rules
