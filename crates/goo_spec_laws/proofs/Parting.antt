-- Each certificate of a class is in one of five kinds of places.
use Rattle.std.proofs.Common.{◌≡◌, ℕ, ◌+◌, ◌&&◌, Bool, true, false, cond, List, [], ◌∷◌, refl, arith}
use Rattle.std.specs.Prelude.{count_by}
use Rattle.std.specs.FinMap.{entries}
use Rattle.std.proofs.lemmas.List.Sums.{sum_by-cons}
use Rattle.goo_types.specs.declared.lot_fields.LotFields.{LotFields}
use Rattle.goo_types.specs.declared.place.Place.{Place}
use Rattle.goo_types.specs.declared.place.Place.TheVariants.{Held, Cancelled, Expired, Withdrawn, Exported}
use Rattle.goo_spec.specs.Lots.{is_held, is_expired, is_withdrawn, is_exported}
use Rattle.goo_spec.specs.State.{State}
use Rattle.goo_spec.proofs.Counting.{one}
use Rattle.goo_spec_laws.specs.Classes.{Class, is_of, all_of, those_in, is_cancelled}

one_place : (b : Bool) (place : Place)
    → cond b 1 0 ≡ cond (b && is_held place) 1 0 + (cond (b && is_cancelled place) 1 0 + (cond (b && is_expired place) 1 0 + (cond (b && is_withdrawn place) 1 0 + cond (b && is_exported place) 1 0)))
one_place false place = refl
one_place true (Held a) = refl
one_place true (Cancelled a k) = refl
one_place true (Expired a) = refl
one_place true (Withdrawn a k) = refl
one_place true (Exported a k) = refl

module _ (p : ℕ × (LotFields × Place) → Bool) where
  abbrev at : (Place → Bool) → ℕ × (LotFields × Place) → Bool
  at there e = p e && there e.1.1

  parts : (es : List (ℕ × (LotFields × Place)))
      → count_by p es ≡ count_by (at is_held) es + (count_by (at is_cancelled) es + (count_by (at is_expired) es + (count_by (at is_withdrawn) es + count_by (at is_exported) es)))
  parts [] = omega arith
  parts (e ∷ es) =
      let here : one p e ≡ one (at is_held) e + (one (at is_cancelled) e + (one (at is_expired) e + (one (at is_withdrawn) e + one (at is_exported) e))) = one_place (p e) e.1.1 in
      let rest = parts es in
      omega (
        arith,
        here,
        rest,
        sum_by-cons (one p) e es,
        sum_by-cons (one (at is_held)) e es,
        sum_by-cons (one (at is_cancelled)) e es,
        sum_by-cons (one (at is_expired)) e es,
        sum_by-cons (one (at is_withdrawn)) e es,
        sum_by-cons (one (at is_exported)) e es,
      )

pub five_places : (class : Class) (t : State)
    → all_of class t ≡ those_in is_held class t + (those_in is_cancelled class t + (those_in is_expired class t + (those_in is_withdrawn class t + those_in is_exported class t)))
five_places class t = parts (is_of t.own class) (entries t.at)
