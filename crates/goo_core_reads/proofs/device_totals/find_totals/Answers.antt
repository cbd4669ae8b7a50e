use Rattle.std.proofs.Common.{rules}
use Rattle.goo_core_reads.proofs.device_totals.find_totals.Goals as goal

pub returns : goal.returns
returns g c = search rules
