-- A registry as a desk, at one moment.
use Rattle.goo_core_shelf.specs.Desk.{Seen}
use Rattle.goo_core_shelf.specs.Shelf.{Moment}

abbrev pub seen_of : Moment → Seen
seen_of m = record { state = m.state; corruptions = m.corruptions; defects = m.defects; refusals = m.refusals; failures = m.failures }
