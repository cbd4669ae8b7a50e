use Rattle.std.proofs.Common.{length}
use Rattle.goo_store_open.proofs.foreign.+lack_meta.Given as goal

abbrev pub decreases-lack_meta : goal.decreases-lack_meta
decreases-lack_meta l = length l.tables.now
