-- The pieces near to a range, and what follows where they are changed.
use Rattle.std.proofs.Common.{◌≡◌, ℕ, zero, suc, ◌+◌, ◌-◌, ◌<◌, ◌≤◌, List, [], ◌∷◌, ◌++◌, true, false, ltb, leb, length, get_or, take, drop, refl, ap, ◌∙◌, ⊎_elim, arith}
use Rattle.std.specs.List.{AllWithin}
use Rattle.std.specs.List.Sorted.{IsPartitionPoint, IsPartitionedBy}
use Rattle.std.proofs.lemmas.Bool.{cases_lt}
use Rattle.std.proofs.lemmas.Bool.Decides.{nat_tests}
use Rattle.std.proofs.lemmas.List.{take-append-drop, drop-drop}
use Rattle.goo_types.specs.declared.place.Place.{Place}
use Rattle.goo_types.specs.declared.piece.Piece.{Piece}
use Rattle.goo_types.specs.Piece.{at_of, IsRising, IsRisingFrom}
use Rattle.goo_ranges_pieces.specs.Walk.{end_of}
use Rattle.goo_ranges_pieces.specs.Change.{inside, moved, cuts, IsChanged}
use Rattle.goo_ranges_pieces.specs.Touching.{AreNear, IsTouched}
use Rattle.goo_ranges_pieces.proofs.Covers.{or_else, at_of-append}
use Rattle.goo_ranges_pieces.proofs.Changing.{or_else-none}
use Rattle.goo_ranges_pieces.proofs.Joining.{rising-take}
use Rattle.goo_ranges_pieces.proofs.Rising.{end_of-take, rising-weaken, rising-append, rising-front, rising-back, rising-drop, at_of-below, at_of-above, last-rises}

first-below : (low : ℕ) (ps : List Piece) (j : ℕ) (d : Piece) → IsRisingFrom low ps → j < length ps → low ≤ (get_or ps j d).first
first-below low [] j d r h = absurd (omega arith)
first-below low (p ∷ ps) zero d r h = r.0
first-below low (p ∷ ps) (suc j) d r h =
    let here : low ≤ p.first = r.0 in
    let forward : p.first ≤ p.last = r.1.0 in
    let far = first-below (p.last + 1) ps j d r.2 (omega arith) in
    omega arith

first-rises : (low : ℕ) (ps : List Piece) (i j : ℕ) (d : Piece) → IsRisingFrom low ps → i ≤ j → j < length ps → (get_or ps i d).first ≤ (get_or ps j d).first
first-rises low [] i j d r le h = absurd (omega arith)
first-rises low (p ∷ ps) zero zero d r le h = omega arith
first-rises low (p ∷ ps) zero (suc j) d r le h =
    let forward : p.first ≤ p.last = r.1.0 in
    let far = first-below (p.last + 1) ps j d r.2 (omega arith) in
    omega arith
first-rises low (p ∷ ps) (suc i) zero d r le h = absurd (omega arith)
first-rises low (p ∷ ps) (suc i) (suc j) d r le h = first-rises (p.last + 1) ps i j d r.2 (omega arith) (omega arith)

pub partitioned-from : (ps : List Piece) (n : ℕ) → IsRising ps → IsPartitionedBy (λ p. ltb (p.last + 1) n) ps
partitioned-from ps n r i j d le lt h = let up = last-rises 0 ps i j d r le lt in grind (arith, nat_tests)

pub partitioned-to : (ps : List Piece) (n : ℕ) → IsRising ps → IsPartitionedBy (λ p. leb p.first n) ps
partitioned-to ps n r i j d le lt h = let up = first-rises 0 ps i j d r le lt in grind (arith, nat_tests)

below-from : (ps : List Piece) (n i : ℕ) → 1 ≤ n → i ≤ length ps → AllWithin (λ p. ltb (p.last + 1) n ≡ true) ps 0 i → end_of 0 (take i ps) < n
below-from ps n zero pos le h = omega arith
below-from [] n (suc i) pos le h = absurd (omega arith)
below-from (p ∷ ps) n (suc i) pos le h =
    let here = h i p (omega arith) (omega arith) in
    rw (end_of-take 0 (p ∷ ps) i p (omega arith)) (grind (arith, nat_tests))

above-to : (low : ℕ) (ps : List Piece) (n i : ℕ) → IsRisingFrom low ps → AllWithin (λ p. leb p.first n ≡ false) ps i (length ps) → IsRisingFrom (n + 1) (drop i ps)
above-to low [] n zero r h = tt
above-to low [] n (suc i) r h = tt
above-to low (p ∷ ps) n zero r h = let here = h 0 p (omega arith) (omega arith) in (grind (arith, nat_tests), r.1, r.2)
above-to low (p ∷ ps) n (suc i) r h = above-to (p.last + 1) ps n i r.2 (λ k d a b. h (suc k) d (omega arith) (omega arith))

near-take : (ps : List Piece) (first last to : ℕ) → to ≤ length ps → AllWithin (λ p. ltb (p.last + 1) first ≡ false) ps 0 (length ps) → AllWithin (λ p. leb p.first (last + 1) ≡ true) ps 0 to → AreNear first last (take to ps)
near-take ps first last zero le f t = tt
near-take [] first last (suc to) le f t = absurd (omega arith)
near-take (p ∷ ps) first last (suc to) le f t =
    let one = f 0 p (omega arith) (omega arith) in
    let two = t 0 p (omega arith) (omega arith) in (
      grind (arith, nat_tests),
      grind (arith, nat_tests),
      near-take ps first last to (omega arith) (λ k d a b. f (suc k) d (omega arith) (omega arith)) (λ k d a b. t (suc k) d (omega arith) (omega arith)),
    )

near-between : (ps : List Piece) (first last from to : ℕ) → from ≤ to → to ≤ length ps → AllWithin (λ p. ltb (p.last + 1) first ≡ false) ps from (length ps) → AllWithin (λ p. leb p.first (last + 1) ≡ true) ps 0 to → AreNear first last (take (to - from) (drop from ps))
near-between ps first last zero to up le f t = let e : to - 0 ≡ to = omega arith in rw e (near-take ps first last to le f t)
near-between [] first last (suc from) to up le f t = absurd (omega arith)
near-between (p ∷ ps) first last (suc from) zero up le f t = absurd (omega arith)
near-between (p ∷ ps) first last (suc from) (suc to) up le f t =
    let e : suc to - suc from ≡ to - from = omega arith in
    rw e (near-between ps first last from to (omega arith) (omega arith) (λ k d a b. f (suc k) d (omega arith) (omega arith)) (λ k d a b. t (suc k) d (omega arith) (omega arith)))

-- a piece before `from` isn't one that `to` leaves behind
in-order : (low : ℕ) (ps : List Piece) (first last from to : ℕ) → IsRisingFrom low ps → first ≤ last + 2 → from ≤ length ps → AllWithin (λ p. ltb (p.last + 1) first ≡ true) ps 0 from → AllWithin (λ p. leb p.first (last + 1) ≡ false) ps to (length ps) → from ≤ to
in-order low ps first last zero to r up le f t = omega arith
in-order low [] first last (suc from) to r up le f t = absurd (omega arith)
in-order low (p ∷ ps) first last (suc from) zero r up le f t =
    let forward : p.first ≤ p.last = r.1.0 in
    let one = f 0 p (omega arith) (omega arith) in
    let two = t 0 p (omega arith) (omega arith) in
    absurd (grind (arith, nat_tests))
in-order low (p ∷ ps) first last (suc from) (suc to) r up le f t =
    let more = in-order (p.last + 1) ps first last from to r.2 up (omega arith) (λ k d a b. f (suc k) d (omega arith) (omega arith)) (λ k d a b. t (suc k) d (omega arith) (omega arith)) in
    omega arith

pub touched-from_points : (ps : List Piece) (first last from to : ℕ) → IsRising ps → 1 ≤ first → first ≤ last + 2 → from ≤ length ps → to ≤ length ps → IsPartitionPoint (λ p. ltb (p.last + 1) first ≡ true) (λ p. ltb (p.last + 1) first ≡ false) ps from → IsPartitionPoint (λ p. leb p.first (last + 1) ≡ true) (λ p. leb p.first (last + 1) ≡ false) ps to → IsTouched ps first last from to
touched-from_points ps first last from to r pos up lf lt f t =
    let order = in-order 0 ps first last from to r up lf f.0 t.1 in
    let e : last + 1 + 1 ≡ last + 2 = omega arith in
    record {
      order = order;
      bound = lt;
      below = below-from ps first from pos lf f.0;
      above = rw (← e) (above-to 0 ps (last + 1) to r t.1);
      near = near-between ps first last from to order lt f.1 t.0;
    }

pub in-three : (ps : List Piece) (from to : ℕ) → from ≤ to → take from ps ++ (take (to - from) (drop from ps) ++ drop to ps) ≡ ps
in-three ps from to up =
    let e : from + (to - from) ≡ to = omega arith in
    let rest : drop (to - from) (drop from ps) ≡ drop to ps = drop-drop (to - from) from ps ∙ ap (λ k. drop k ps) e in
    let back : take (to - from) (drop from ps) ++ drop to ps ≡ drop from ps = rw (← rest) (take-append-drop (to - from) (drop from ps)) in
    rw back (take-append-drop from ps)

-- what a changed block gives the whole
module _ (ps : List Piece) (first last from to : ℕ) (place : Place) (out : List Piece) (r : IsRising ps) (near : IsTouched ps first last from to) (changed : IsChanged (moved first last place) (cuts first last) (take (to - from) (drop from ps)) out) where
  three : IsRising (take from ps ++ (take (to - from) (drop from ps) ++ drop to ps))
  three = rw (in-three ps from to near.order) r

  before_rising : IsRising (take from ps)
  before_rising = rising-front 0 (take from ps) (take (to - from) (drop from ps) ++ drop to ps) three

  rest_rising : IsRisingFrom (end_of 0 (take from ps)) (take (to - from) (drop from ps) ++ drop to ps)
  rest_rising = rising-back 0 (take from ps) (take (to - from) (drop from ps) ++ drop to ps) three

  middle_rising : IsRisingFrom (end_of 0 (take from ps)) (take (to - from) (drop from ps))
  middle_rising = rising-front (end_of 0 (take from ps)) (take (to - from) (drop from ps)) (drop to ps) rest_rising

  pub spliced-rising : IsRising (take from ps ++ (out ++ drop to ps))
  spliced-rising =
      let base = end_of 0 (take from ps) in
      let after = rising-back base (take (to - from) (drop from ps)) (drop to ps) rest_rising in
      rising-append 0 (take from ps) (out ++ drop to ps) before_rising
      (rising-append base out (drop to ps) (changed.rising base middle_rising)
      (rising-weaken (end_of base out) (end_of base (take (to - from) (drop from ps))) (drop to ps) (changed.within base middle_rising) after))

  pub spliced-same : (n : ℕ) → at_of (take from ps ++ (out ++ drop to ps)) n ≡ moved first last place n (at_of ps n)
  spliced-same n =
      let middle = take (to - from) (drop from ps) in
      let whole : at_of ps n ≡ at_of (take from ps ++ (middle ++ drop to ps)) n = rw (in-three ps from to near.order) refl in
      let e = changed.same (end_of 0 (take from ps)) middle_rising n in
      let split : at_of (take from ps ++ (out ++ drop to ps)) n ≡ or_else (at_of (take from ps) n) (or_else (at_of out n) (at_of (drop to ps) n)) = rw (at_of-append, at_of-append) refl in
      let split_old : at_of (take from ps ++ (middle ++ drop to ps)) n ≡ or_else (at_of (take from ps) n) (or_else (at_of middle n) (at_of (drop to ps) n)) = rw (at_of-append, at_of-append) refl in
      let outside : inside first last n ≡ false → at_of (take from ps ++ (out ++ drop to ps)) n ≡ moved first last place n (at_of ps n) =
      λ h. rw (split, e, whole, split_old, h) refl
      in
      ⊎_elim
      (λ (before : n < first). outside (grind (arith, nat_tests)))
      (λ (above : first ≤ n).
      ⊎_elim
      (λ (after : last < n). outside (grind (arith, nat_tests)))
      (λ (to_last : n ≤ last).
      let low = near.below in
      let x = at_of-above 0 (take from ps) n before_rising (omega arith) in
      let y = at_of-below (last + 2) (drop to ps) n near.above (omega arith) in
      rw (split, e, whole, split_old, x, y, or_else-none, or_else-none) refl)
      (cases_lt last n))
      (cases_lt n first)

pub between-rising : (ps : List Piece) (from to : ℕ) → IsRising ps → IsRising (take to (drop from ps))
between-rising ps from to r = rising-take (drop from ps) to (rising-drop ps from r)
