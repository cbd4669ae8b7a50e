use Rattle.std.proofs.Common.{length}
use Rattle.goo_store_open.proofs.matching.+are_uniques.Given as goal

abbrev pub decreases-are_uniques : goal.decreases-are_uniques
decreases-are_uniques l = length l.uniques.now
