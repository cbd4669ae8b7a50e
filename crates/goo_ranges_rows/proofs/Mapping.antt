-- What the changes of the state's map give each number, as the changes of a book do.
use Rattle.std.proofs.Common.{◌≡◌, ℕ, zero, suc, ◌+◌, ◌-◌, ◌≤◌, Bool, cond, Option, Some, None, refl, ap, ◌∙◌, arith}
use Rattle.std.specs.Prelude.{nat_le, nat_lt, ◌&&◌}
use Rattle.std.specs.FinMap.{get}
use Rattle.std.proofs.lemmas.Bool.Decides.{nat_tests}
use Rattle.goo_types.specs.declared.lot_fields.LotFields.{LotFields}
use Rattle.goo_types.specs.declared.place.Place.{Place}
use Rattle.goo_types.specs.Range.{Numbers}
use Rattle.goo_types.specs.Piece.{Label}
use Rattle.goo_ranges.specs.Change.{inside, moved, set_to}
use Rattle.goo_spec.specs.Lots.{Certificates}
use Rattle.goo_spec.specs.Maps.{numbers_from, each, give_each, place_each}
use Rattle.goo_spec.proofs.Placing.{is_one_of, replaced, get-place_each, get-give_each}

one_of-from : (count first n : ℕ) → is_one_of (numbers_from first count) n ≡ (nat_le first n && nat_lt n (first + count))
one_of-from zero first n = grind (arith, nat_tests)
one_of-from (suc count) first n = let rest = one_of-from count (first + 1) n in rw rest (grind (arith, nat_tests))

-- a number is one of a range's where it lies between its ends
pub one_of-each : (range : Numbers) (n : ℕ) → range.first ≤ range.last → is_one_of (each range) n ≡ inside range.first range.last n
one_of-each range n up = one_of-from (suc range.last - range.first) range.first n ∙ grind (arith, nat_tests)

-- each number of the range keeps its lot and gets the place that its lot and its old place give
pub get-place_each-range : (new : LotFields → Place → Place) → ((lot : LotFields) (place : Place) → new lot (new lot place) ≡ new lot place)
    → (range : Numbers) (at : Certificates) (n : ℕ) → range.first ≤ range.last
    → get (place_each new (each range) at) n ≡ cond (inside range.first range.last n) (replaced new (get at n)) (get at n)
get-place_each-range new again range at n up =
    get-place_each new again (each range) at n ∙ ap (λ b. cond b (replaced new (get at n)) (get at n)) (one_of-each range n up)

same-place : (place : Place) (b : Bool) (first last n : ℕ) (o : Option Label) → inside first last n ≡ b → cond b (replaced (λ lot old. place) o) o ≡ moved first last place n o
same-place place b first last n None e = rw e refl
same-place place b first last n (Some label) e = rw e refl

-- each number of the range keeps its lot and gets the place
pub get-move_each : (range : Numbers) (place : Place) (at : Certificates) (n : ℕ) → range.first ≤ range.last
    → get (place_each (λ lot old. place) (each range) at) n ≡ moved range.first range.last place n (get at n)
get-move_each range place at n up =
    get-place_each-range (λ lot old. place) (λ lot old. refl) range at n up ∙ same-place place (inside range.first range.last n) range.first range.last n (get at n) refl

-- each number of the range gets the lot and the place
pub get-give_each-range : (range : Numbers) (lot : LotFields) (place : Place) (at : Certificates) (n : ℕ) → range.first ≤ range.last
    → get (give_each (each range) lot place at) n ≡ set_to range.first range.last (lot, place) n (get at n)
get-give_each-range range lot place at n up =
    get-give_each lot place (each range) at n ∙ ap (λ b. cond b (Some (lot, place)) (get at n)) (one_of-each range n up)
