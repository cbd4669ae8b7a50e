use Rattle.std.proofs.Common.{length}
use Rattle.goo_store_trees.proofs.dropping.+tree_of.Given as goal

abbrev pub decreases-tree_of : goal.decreases-tree_of
decreases-tree_of l = length l.tables.now
