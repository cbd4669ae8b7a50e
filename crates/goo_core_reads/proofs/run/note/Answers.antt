use Rattle.std.proofs.Common.{rules}
use Rattle.goo_core_reads.proofs.run.note.Goals as goal

pub returns-in-Err-clause-noted : goal.returns-in-Err-clause-noted
returns-in-Err-clause-noted g c = search rules
