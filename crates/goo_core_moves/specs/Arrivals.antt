-- The checks over the numbers that a notice brings, part by part.
use Rattle.std.specs.Prelude.{◌==◌, ℕ, cond, List, [], ◌∷◌, Option, Some, None}
use Rattle.std.specs.Option.{option_or}
use Rattle.goo_types.specs.Number.{code_of}
use Rattle.goo_types.specs.Piece.{at_of}
use Rattle.goo_types.specs.declared.refusal.Refusal.{Refusal}
use Rattle.goo_types.specs.declared.refusal.Refusal.TheVariants.{UnknownNumber, NumberTaken, LotDiffers}
use Rattle.goo_spec.specs.Checks.{naming}
use Rattle.goo_spec.specs.Import.{is_other_lot}
use Rattle.goo_spec.specs.Lots.{is_exported, same_lot}
use Rattle.goo_spec.specs.Maps.{each, least_absent, least_failing}
use Rattle.goo_core_moves.specs.declared.arriving.Arriving.{Arriving}

-- the least number that some parts give, in their order
abbrev pub least_of : (Arriving → Option ℕ) → List Arriving → Option ℕ
least_of find [] = None
least_of find (a ∷ more) = option_or (find a) (least_of find more)

-- the least own number of a part that isn't there
abbrev pub unknown_in : ℕ → Arriving → Option ℕ
unknown_in own a = cond (code_of a.part.range.first == own) (least_absent (at_of a.book) (each a.part.range)) None

-- the least number of a part that is there and wasn't exported
abbrev pub taken_in : Arriving → Option ℕ
taken_in a = least_failing (λ lot place. is_exported place) (at_of a.book) (each a.part.range)

-- the least number of a part that is known otherwise
abbrev pub differing_in : Arriving → Option ℕ
differing_in a = cond (is_other_lot a.part.lot a.known) (Some a.part.range.first) (least_failing (λ lot place. same_lot lot a.part.lot) (at_of a.book) (each a.part.range))

abbrev pub numbers_checks : ℕ → List Arriving → List (Option Refusal)
numbers_checks own arriving =
    naming UnknownNumber (least_of (unknown_in own) arriving)
    ∷ naming NumberTaken (least_of taken_in arriving)
    ∷ naming LotDiffers (least_of differing_in arriving)
    ∷ []
