-- Rows that rise through the edits of a plan.
use Rattle.std.proofs.Common.{List, [], ◌∷◌}
use Rattle.goo_types.specs.Piece.{IsRising}
use Rattle.goo_types.specs.declared.piece.Piece.{Piece}
use Rattle.goo_ranges.specs.declared.edits.Edit.{Edit}
use Rattle.goo_ranges_rows.specs.Plans.{AreEditsOf}
use Rattle.goo_ranges_rows.specs.Rows.{edited}
use Rattle.goo_core_shelf.specs.Plan.{StayRising}

pub stay_rising : (es : List Edit) (rows : List Piece) → IsRising rows → AreEditsOf rows es → StayRising es rows
stay_rising [] rows rising are = rising
stay_rising (e ∷ es) rows rising are = (rising, stay_rising es (edited e rows) are.0.disjoint are.1)
