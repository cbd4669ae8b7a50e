use Rattle.std.proofs.Common.{◌≡◌, ℕ, ◌<◌, ◌≤◌, drop, Bool, false}
use Rattle.goo_types.specs.declared.lot_fields.LotFields.{LotFields}
use Rattle.goo_types.specs.declared.place.Place.{Place}
use Rattle.goo_spec.specs.Lots.{fails}
use Rattle.goo_types.specs.Piece.{at_of}
use Rattle.goo_ranges_pieces.specs.Walk.{IsRest}
use Rattle.goo_ranges_pieces.proofs.Rest.{Starts}
use Rattle.goo_ranges.proofs.page.Page.least_not_between.Given as goal

abbrev pub invariant-loop-piece : goal.invariant-loop-piece
invariant-loop-piece g l =
    (next : ℕ)
    × IsRest l.self (drop l.piece-index l.piece-items) next
    × (l.fn.first ≤ next)
    × Starts l.fn.first next (drop l.piece-index l.piece-items)
    × ((passes : LotFields → Place → Bool) → ((lot : LotFields) (place : Place) (answer : Bool) → goal.F-post g l.test lot place answer → answer ≡ passes lot place) → (n : ℕ) → l.fn.first ≤ n → n < next → fails passes (at_of l.self n) ≡ false)
