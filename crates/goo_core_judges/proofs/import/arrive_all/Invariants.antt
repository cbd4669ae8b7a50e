use Rattle.std.proofs.Common.{take, Ok}
use Rattle.goo_core_shelf.specs.Shelf.{Looks}
use Rattle.goo_core_judges.specs.Import.{AreArriving}
use Rattle.goo_core_judges.proofs.import.arrive_all.Given as goal

abbrev pub invariant-loop-part : goal.invariant-loop-part
invariant-loop-part g l = Looks (g.S.Shelf.seen l.initial.shelf) (g.S.Shelf.seen l.shelf) (Ok l.arriving)
    (λ arriving. AreArriving (g.S.Shelf.seen l.initial.shelf).state (g.S.Shelf.seen l.initial.shelf).rows (take l.part-index l.parts) arriving.items)
