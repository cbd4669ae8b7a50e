use Rattle.std.proofs.Common.{◌≡◌, ℕ, ◌≤◌, drop, Bool}
use Rattle.goo_types.specs.declared.lot_fields.LotFields.{LotFields}
use Rattle.goo_types.specs.declared.place.Place.{Place}
use Rattle.goo_spec.specs.Lots.{fails}
use Rattle.goo_types.specs.Piece.{at_of, IsRising}
use Rattle.goo_ranges.specs.Paging.{joined}
use Rattle.goo_ranges.proofs.pages.least_not_in.Given as goal

abbrev pub invariant-loop-page : goal.invariant-loop-page
invariant-loop-page g l =
    IsRising (joined (drop l.page-index l.page-items))
    × ((passes : LotFields → Place → Bool) → ((lot : LotFields) (place : Place) (answer : Bool) → goal.F-post g l.test lot place answer → answer ≡ passes lot place) → (n : ℕ) → l.fn.first ≤ n → n ≤ l.fn.last → fails passes (at_of (joined l.pages) n) ≡ fails passes (at_of (joined (drop l.page-index l.page-items)) n))
