use Rattle.goo_cli_registry.proofs.Files.{fault_failure}
use Rattle.goo_cli_registry.proofs.in_memory.open_in_memory.Goals as goal

pub returns-in-Err-clause-word : goal.returns-in-Err-clause-word
returns-in-Err-clause-word c = fault_failure c.in-Err.fault c.from.result c.from.ensures
