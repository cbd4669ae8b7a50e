use Rattle.goo_ranges_pieces.proofs.Touching.{between-rising}
use Rattle.goo_ranges.proofs.page.Page.moved_between.Goals as goal

pub moved_pieces-requires-clause-rising : goal.moved_pieces-requires-clause-rising
moved_pieces-requires-clause-rising c = rw c.deref.ensures.value (between-rising c.self.inside.pieces.items _ _ c.self.invariant)
