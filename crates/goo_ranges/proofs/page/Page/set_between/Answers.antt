use Rattle.goo_ranges_pieces.proofs.Touching.{between-rising}
use Rattle.goo_ranges.proofs.page.Page.set_between.Goals as goal

pub set_pieces-requires : goal.set_pieces-requires
set_pieces-requires c = rw c.deref.ensures.value (between-rising c.self.inside.pieces.items _ _ c.self.invariant)
