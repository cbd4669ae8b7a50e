use Rattle.goo_registry.proofs.Alike.{equal_reads}
use Rattle.goo_registry.proofs.law.equal_reads.Goals as goal

pub returns : goal.returns
returns c = equal_reads
