-- The pieces that a range meets.
use Rattle.std.proofs.Common.{◌≡◌, ℕ, ◌+◌, ◌-◌, ◌<◌, ◌≤◌, List, [], ◌∷◌, true, false, ltb, leb, length, take, drop, arith}
use Rattle.std.specs.List.Sorted.{IsPartitionPoint}
use Rattle.std.proofs.lemmas.Bool.Decides.{nat_tests}
use Rattle.goo_types.specs.declared.piece.Piece.{Piece}
use Rattle.goo_types.specs.Piece.{IsRising}
use Rattle.goo_ranges_pieces.specs.Walk.{end_of}
use Rattle.goo_ranges_pieces.specs.Touching.{AreNear, IsTouched, AreMet, IsMeeting}
use Rattle.goo_ranges_pieces.proofs.Touching.{touched-from_points}

met-near : (first last : ℕ) (ps : List Piece) → 1 ≤ last → AreNear (first + 1) (last - 1) ps → AreMet first last ps
met-near first last [] some near = tt
met-near first last (p ∷ ps) some near =
    let one : first + 1 ≤ p.last + 1 = near.0 in
    let two : p.first ≤ last - 1 + 1 = near.1 in
    (omega arith, omega arith, met-near first last ps some near.2)

-- pieces with a number of a range are those near to the range within it
meeting-from_touched : (ps : List Piece) (first last from to : ℕ) → 1 ≤ last → IsTouched ps (first + 1) (last - 1) from to → IsMeeting ps first last from to
meeting-from_touched ps first last from to some near =
    let below : end_of 0 (take from ps) < first + 1 = near.below in
    let e : last - 1 + 2 ≡ last + 1 = omega arith in
    record {
      order = near.order;
      bound = near.bound;
      below = omega arith;
      above = rw e at near.above;
      met = met-near first last (take (to - from) (drop from ps)) some near.near;
    }

pub meeting-from_points : (ps : List Piece) (first last from to : ℕ) → IsRising ps → 1 ≤ last → first ≤ last → from ≤ length ps → to ≤ length ps
    → IsPartitionPoint (λ p. ltb p.last first ≡ true) (λ p. ltb p.last first ≡ false) ps from → IsPartitionPoint (λ p. leb p.first last ≡ true) (λ p. leb p.first last ≡ false) ps to → IsMeeting ps first last from to
meeting-from_points ps first last from to r some up lf lt f t =
    meeting-from_touched ps first last from to some
    (touched-from_points ps (first + 1) (last - 1) from to r (omega arith) (omega arith) lf lt
    (λ k d a b. (let h = f.0 k d a b in grind (arith, nat_tests)), λ k d a b. (let h = f.1 k d a b in grind (arith, nat_tests)))
    (λ k d a b. (let h = t.0 k d a b in grind (arith, nat_tests)), λ k d a b. (let h = t.1 k d a b in grind (arith, nat_tests))))
