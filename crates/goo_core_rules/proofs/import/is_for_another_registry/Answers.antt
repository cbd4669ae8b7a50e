use Rattle.std.proofs.Common.{rules}
use Rattle.goo_core_rules.proofs.import.is_for_another_registry.Goals as goal

pub returns : goal.returns
returns c = search rules
