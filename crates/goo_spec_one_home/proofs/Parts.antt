-- The parts of a notice have the numbers that are sent, with their lots.
use Rattle.std.proofs.Common.{◌≡◌, ℕ, zero, suc, ◌+◌, ◌≤◌, ◌==◌, ◌&&◌, ◌||◌, Bool, true, false, cond, leb, List, [], ◌∷◌, Option, Some, None, refl, sym, ap, ◌∙◌, arith, inl, inr}
use Rattle.std.specs.List.{list_any}
use Rattle.std.specs.FinMap.{get}
use Rattle.std.proofs.lemmas.Bool.{and_parts, and_from, leb-true, le-leb, cases_lt}
use Rattle.std.proofs.lemmas.Bool.Decides.{nat_tests}
use Rattle.goo_types.specs.declared.lot_fields.LotFields.{LotFields}
use Rattle.goo_types.specs.declared.place.Place.{Place}
use Rattle.goo_types.specs.declared.part.Part.{Part}
use Rattle.goo_types.proofs.LotLemmas.{Decides-same_lot}
use Rattle.goo_spec.specs.Lots.{Certificates, is_absent, same_lot}
use Rattle.goo_spec.specs.Maps.{numbers_from, least_absent}
use Rattle.goo_spec.specs.Export.{joined, joined_known, parts_of}
use Rattle.goo_spec.proofs.Mapping.{none_some}
use Rattle.goo_spec.proofs.Placing.{is_one_of}
use Rattle.goo_spec.specs.Maps.{is_within}
use Rattle.goo_spec_one_home.specs.World.{lot_of, HaveLot}

abbrev pub has_number : List Part → ℕ → Bool
has_number ps q = list_any (λ p. is_within p.range q) ps

-- the first part begins with a number
abbrev pub StartsAt : ℕ → List Part → Type 0
StartsAt n [] = Unit {0}
StartsAt n (p ∷ ps) = (p.range.first ≡ n) × (n ≤ p.range.last)

alone : (n q : ℕ) (b : Bool) → ((leb n q && leb q n) || b) ≡ ((q == n) || b)
alone n q true = grind (arith, nat_tests)
alone n q false = grind (arith, nat_tests)

in_front : (n last q : ℕ) (b : Bool) → n + 1 ≤ last → ((leb n q && leb q last) || b) ≡ ((q == n) || ((leb (n + 1) q && leb q last) || b))
in_front n last q true le = grind (arith, nat_tests)
in_front n last q false le = grind (arith, nat_tests)

module _ (n : ℕ) (lot : LotFields) where
  abbrev with_number : Part → List Part → Bool → List Part
  with_number p ps b = cond b (record { range = record { first = n; last = p.range.last }; lot = p.lot } ∷ ps) (record { range = record { first = n; last = n }; lot = lot } ∷ p ∷ ps)

  starts_by : (p : Part) (ps : List Part) (b : Bool) → n + 1 ≤ p.range.last → StartsAt n (with_number p ps b)
  starts_by p ps true le = (refl, omega arith)
  starts_by p ps false le = (refl, omega arith)

  starts_joined : (ps : List Part) → StartsAt (n + 1) ps → StartsAt n (joined n lot ps)
  starts_joined [] h = (refl, omega arith)
  starts_joined (p ∷ ps) h = starts_by p ps (same_lot lot p.lot) h.1

  has_by : (p : Part) (ps : List Part) (b : Bool) (q : ℕ) → StartsAt (n + 1) (p ∷ ps) → has_number (with_number p ps b) q ≡ ((q == n) || has_number (p ∷ ps) q)
  has_by p ps true q h = in_front n p.range.last q (has_number ps q) h.1 ∙ ap (λ first. (q == n) || ((leb first q && leb q p.range.last) || has_number ps q)) (sym h.0)
  has_by p ps false q h = alone n q (has_number (p ∷ ps) q)

  has_joined : (ps : List Part) (q : ℕ) → StartsAt (n + 1) ps → has_number (joined n lot ps) q ≡ ((q == n) || has_number ps q)
  has_joined [] q h = alone n q false
  has_joined (p ∷ ps) q h = has_by p ps (same_lot lot p.lot) q h

  -- each part has its numbers' lot
  module _ (q : ℕ) (o : Option LotFields) (here : q ≡ n → o ≡ Some lot) where
    one_number : leb n q && leb q n ≡ true → o ≡ Some lot
    one_number within =
        let parts = and_parts (leb n q) (leb q n) within in
        let low : n ≤ q = leb-true n q parts.0 in
        let high : q ≤ n = leb-true q n parts.1 in
        here (omega arith)

    wider : (p : Part) → p.range.first ≡ n + 1 → (is_within p.range q ≡ true → o ≡ Some p.lot) → lot ≡ p.lot → (leb n q && leb q p.range.last) ≡ true → o ≡ Some p.lot
    wider p first later same within =
        let parts = and_parts (leb n q) (leb q p.range.last) within in
        let low : n ≤ q = leb-true n q parts.0 in
        elim (cases_lt n q) [
          | inl lt ↦ later (and_from _ _ (le-leb p.range.first q (omega arith)) parts.1)
          | inr le ↦ let e : q ≡ n = omega arith in here e ∙ ap Some same
        ]

    lots_by : (p : Part) (ps : List Part) (b : Bool) → same_lot lot p.lot ≡ b → p.range.first ≡ n + 1 → HaveLot o q (p ∷ ps) → HaveLot o q (with_number p ps b)
    lots_by p ps true is first h = (wider p first h.0 ((Decides-same_lot lot p.lot).0 is), h.1)
    lots_by p ps false is first h = (one_number, h)

    lots_joined : (ps : List Part) → StartsAt (n + 1) ps → HaveLot o q ps → HaveLot o q (joined n lot ps)
    lots_joined [] starts h = (one_number, tt)
    lots_joined (p ∷ ps) starts h = lots_by p ps _ refl starts.0 h

-- the numbers are there
abbrev pub AreThere : Certificates → List ℕ → Type 0
AreThere at [] = Unit {0}
AreThere at (n ∷ ns) = (is_absent (get at n) ≡ false) × AreThere at ns

pub are_there : (at : Certificates) (ns : List ℕ) → least_absent (get at) ns ≡ None → AreThere at ns
are_there at [] none = tt
are_there at (n ∷ ns) none =
    elim (is_absent (get at n)) as (λ b. is_absent (get at n) ≡ b → cond b (Some n) (least_absent (get at) ns) ≡ None → (is_absent (get at n) ≡ false) × AreThere at ns) [
      | true ↦ λ is h. none_some n (sym h)
      | false ↦ λ is h. (is, are_there at ns h)
    ] refl none

module _ (at : Certificates) where
  starts_known : (n : ℕ) (o : Option (LotFields × Place)) (ps : List Part) → is_absent o ≡ false → StartsAt (n + 1) ps → StartsAt n (joined_known n o ps)
  starts_known n None ps there h = absurd cc
  starts_known n (Some known) ps there h = starts_joined n known.0 ps h

  pub starts_parts : (count first : ℕ) → AreThere at (numbers_from first count) → StartsAt first (parts_of at (numbers_from first count))
  starts_parts zero first there = tt
  starts_parts (suc count) first there = starts_known first (get at first) _ there.0 (starts_parts count (first + 1) there.1)

  has_known : (n : ℕ) (o : Option (LotFields × Place)) (ps : List Part) (q : ℕ) → is_absent o ≡ false → StartsAt (n + 1) ps → has_number (joined_known n o ps) q ≡ ((q == n) || has_number ps q)
  has_known n None ps q there h = absurd cc
  has_known n (Some known) ps q there h = has_joined n known.0 ps q h

  -- the parts have just the numbers
  pub has_parts : (count first q : ℕ) → AreThere at (numbers_from first count) → has_number (parts_of at (numbers_from first count)) q ≡ is_one_of (numbers_from first count) q
  has_parts zero first q there = refl
  has_parts (suc count) first q there =
      has_known first (get at first) _ q there.0 (starts_parts count (first + 1) there.1) ∙ ap (λ b. (q == first) || b) (has_parts count (first + 1) q there.1)

  lots_known : (n : ℕ) (o : Option (LotFields × Place)) (ps : List Part) (q : ℕ) → get at n ≡ o → StartsAt (n + 1) ps → HaveLot (lot_of (get at q)) q ps → HaveLot (lot_of (get at q)) q (joined_known n o ps)
  lots_known n None ps q is starts h = h
  lots_known n (Some known) ps q is starts h = lots_joined n known.0 q (lot_of (get at q)) (λ e. ap (λ m. lot_of (get at m)) e ∙ ap lot_of is) ps starts h

  pub lots_parts : (count first q : ℕ) → AreThere at (numbers_from first count) → HaveLot (lot_of (get at q)) q (parts_of at (numbers_from first count))
  lots_parts zero first q there = tt
  lots_parts (suc count) first q there = lots_known first (get at first) _ q refl (starts_parts count (first + 1) there.1) (lots_parts count (first + 1) q there.1)
