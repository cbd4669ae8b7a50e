use Rattle.std.proofs.Common.{length}
use Rattle.goo_core_list.proofs.lots.+add_lots.Given as goal

abbrev pub decreases-add_lots : goal.decreases-add_lots
decreases-add_lots l = length l.parts.now
