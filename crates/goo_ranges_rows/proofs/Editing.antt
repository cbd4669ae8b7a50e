-- An edit that replaces one block of the rows.
use Rattle.std.proofs.Common.{◌≡◌, ℕ, ◌+◌, ◌≤◌, List, [], ◌∷◌, ◌++◌, true, false, map, refl, ap, sym, ◌∙◌, arith, append_assoc}
use Rattle.std.specs.Prelude.{nat_lt, ◌==◌}
use Rattle.std.proofs.lemmas.Bool.Decides.{nat_tests}
use Rattle.goo_types.specs.declared.piece.Piece.{Piece}
use Rattle.goo_ranges.specs.declared.edits.Edit.{Edit}
use Rattle.goo_types.specs.Piece.{IsRising, IsRisingFrom}
use Rattle.goo_ranges.specs.Edit.{IsExact}
use Rattle.goo_ranges_pieces.proofs.Rising.{rising-weaken}
use Rattle.goo_ranges_rows.specs.Rows.{without, without_each, with, with_each, edited}

pub from-low : (low : ℕ) (front : List Piece) (q : Piece) (back : List Piece) → IsRisingFrom low (front ++ q ∷ back) → low ≤ q.first
from-low low [] q back r = r.0
from-low low (x ∷ front) q back r =
    let here : low ≤ x.first = r.0 in
    let forward : x.first ≤ x.last = r.1.0 in
    let more = from-low (x.last + 1) front q back r.2 in
    omega arith

pub without-here : (low : ℕ) (front : List Piece) (q : Piece) (back : List Piece) → IsRisingFrom low (front ++ q ∷ back) → without q.first (front ++ q ∷ back) ≡ front ++ back
without-here low [] q back r = let e : (q.first == q.first) ≡ true = grind (arith, nat_tests) in rw e refl
without-here low (x ∷ front) q back r =
    let above = from-low (x.last + 1) front q back r.2 in
    let forward : x.first ≤ x.last = r.1.0 in
    let e : (x.first == q.first) ≡ false = grind (arith, nat_tests) in
    rw e (ap (λ l. x ∷ l) (without-here (x.last + 1) front q back r.2))

rising-without : (low : ℕ) (front : List Piece) (q : Piece) (back : List Piece) → IsRisingFrom low (front ++ q ∷ back) → IsRisingFrom low (front ++ back)
rising-without low [] q back r = let here : low ≤ q.first = r.0 in let forward : q.first ≤ q.last = r.1.0 in rising-weaken low (q.last + 1) back (omega arith) r.2
rising-without low (x ∷ front) q back r = (r.0, r.1, rising-without (x.last + 1) front q back r.2)

without-block : (front block back : List Piece) → IsRising (front ++ (block ++ back)) → without_each (map (λ p. p.first) block) (front ++ (block ++ back)) ≡ front ++ back
without-block front [] back r = refl
without-block front (q ∷ block) back r =
    ap (without_each (map (λ p. p.first) block)) (without-here 0 front q (block ++ back) r) ∙ without-block front block back (rising-without 0 front q (block ++ back) r)

with-here : (low : ℕ) (front : List Piece) (p : Piece) (back : List Piece) → IsRisingFrom low (front ++ p ∷ back) → with p (front ++ back) ≡ front ++ p ∷ back
with-here low [] p [] r = refl
with-here low [] p (q ∷ back) r =
    let forward : p.first ≤ p.last = r.1.0 in
    let above : p.last + 1 ≤ q.first = r.2.0 in
    let e : nat_lt p.first q.first ≡ true = grind (arith, nat_tests) in
    rw e refl
with-here low (x ∷ front) p back r =
    let above = from-low (x.last + 1) front p back r.2 in
    let forward : x.first ≤ x.last = r.1.0 in
    let e : nat_lt p.first x.first ≡ false = grind (arith, nat_tests) in
    rw e (ap (λ l. x ∷ l) (with-here (x.last + 1) front p back r.2))

pub with-block : (front block back : List Piece) → IsRising (front ++ (block ++ back)) → with_each block (front ++ back) ≡ front ++ (block ++ back)
with-block front [] back r = refl
with-block front (p ∷ block) back r =
    let split : IsRising ((front ++ p ∷ []) ++ (block ++ back)) = rw append_assoc r in
    let first : IsRising (front ++ p ∷ back) = fewer 0 front p block back r in
    ap (with_each block) (with-here 0 front p back first ∙ sym (append_assoc front (p ∷ []) back))
    ∙ with-block (front ++ p ∷ []) block back split
    ∙ append_assoc front (p ∷ []) (block ++ back)
  where
    shorter : (low : ℕ) (qs back : List Piece) → IsRisingFrom low (qs ++ back) → IsRisingFrom low back
    shorter low [] back r = r
    shorter low (q ∷ qs) back r = let here : low ≤ q.first = r.0 in let forward : q.first ≤ q.last = r.1.0 in rising-weaken low (q.last + 1) back (omega arith) (shorter (q.last + 1) qs back r.2)

    fewer : (low : ℕ) (front : List Piece) (p : Piece) (block back : List Piece) → IsRisingFrom low (front ++ p ∷ (block ++ back)) → IsRisingFrom low (front ++ p ∷ back)
    fewer low [] p block back r = (r.0, r.1, shorter (p.last + 1) block back r.2)
    fewer low (x ∷ front) p block back r = (r.0, r.1, fewer (x.last + 1) front p block back r.2)

-- an edit of a part, as an edit of all rows
pub edited-whole : (front met new back : List Piece) (edit : Edit) → IsExact met new edit → IsRising (front ++ (met ++ back)) → IsRising (front ++ (new ++ back)) → edited edit (front ++ (met ++ back)) ≡ front ++ (new ++ back)
unfolding edited
edited-whole front met new back edit exact was becomes =
    let left = front ++ exact.before in
    let right = exact.after ++ back in
    let old : front ++ (met ++ back) ≡ left ++ (exact.deleted ++ right) = rw exact.was (simp append_assoc) in
    let now : front ++ (new ++ back) ≡ left ++ (edit.insert.items ++ right) = rw exact.becomes (simp append_assoc) in
    rw (old, now, exact.named)
    (ap (with_each edit.insert.items) (without-block left exact.deleted right (rw (← old) was)) ∙ with-block left edit.insert.items right (rw (← now) becomes))
