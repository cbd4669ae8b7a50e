use Rattle.goo_core_list.proofs.ProductionLemmas.{none_yet}
use Rattle.goo_core_list.proofs.listed_declarations.ListedDeclarations.new.Goals as goal

pub invariant_of-result : goal.invariant_of-result
invariant_of-result c = rw (c.new.ensures.items, c.empty_map.ensures) none_yet
