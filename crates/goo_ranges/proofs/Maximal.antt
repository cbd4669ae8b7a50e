-- Pieces that don't follow one another, and the map that they give.
use Rattle.std.proofs.Common.{◌≡◌, ℕ, ◌+◌, ◌<◌, ◌≤◌, List, [], ◌∷◌, ◌++◌, Some, None, refl, ap, sym, ◌∙◌, ⊎_elim, arith}
use Rattle.std.proofs.lemmas.Bool.{cases_lt}
use Rattle.goo_types.specs.declared.piece.Piece.{Piece}
use Rattle.goo_types.specs.Piece.{label_of, at_of, IsRising, IsRisingFrom, Follows}
use Rattle.goo_spec.specs.Runs.{IsNotFollowed, IsApart}
use Rattle.goo_ranges_pieces.proofs.Covers.{covers-inside, covers-below, covers-above}
use Rattle.goo_ranges_pieces.proofs.Rising.{at_of-below}

from-low : (low : ℕ) (front : List Piece) (q : Piece) (back : List Piece) → IsRisingFrom low (front ++ q ∷ back) → low ≤ q.first
from-low low [] q back r = r.0
from-low low (x ∷ front) q back r =
    let here : low ≤ x.first = r.0 in
    let forward : x.first ≤ x.last = r.1.0 in
    let more = from-low (x.last + 1) front q back r.2 in
    omega arith

pub forward-of : (low : ℕ) (front : List Piece) (q : Piece) (back : List Piece) → IsRisingFrom low (front ++ q ∷ back) → q.first ≤ q.last
forward-of low [] q back r = r.1.0
forward-of low (x ∷ front) q back r = forward-of (x.last + 1) front q back r.2

-- a piece's own numbers have its label
pub at-own : (low : ℕ) (front : List Piece) (q : Piece) (back : List Piece) (n : ℕ) → IsRisingFrom low (front ++ q ∷ back) → q.first ≤ n → n ≤ q.last → at_of (front ++ q ∷ back) n ≡ Some (label_of q)
at-own low [] q back n r from to = let e = covers-inside q n from to in rw e refl
at-own low (x ∷ front) q back n r from to =
    let above = from-low (x.last + 1) front q back r.2 in
    let past : x.last < n = omega arith in
    let e = covers-above x n past in
    rw e (at-own (x.last + 1) front q back n r.2 from to)

next-of : (q : Piece) (back : List Piece) → IsRisingFrom (q.last + 1) back → IsNotFollowed q back → at_of back (q.last + 1) ≡ Some (label_of q) → ⊥
next-of q [] r free h = cc
next-of q (p ∷ back) r free h =
    let here : q.last + 1 ≤ p.first = r.0 in
    let forward : p.first ≤ p.last = r.1.0 in
    ⊎_elim
    (λ (gap : q.last + 1 < p.first).
    let e = covers-below p (q.last + 1) gap in
    let f = at_of-below (p.last + 1) back (q.last + 1) r.2 (omega arith) in
    let g : None ≡ Some (label_of q) = sym (rw e f) ∙ h in
    cc)
    (λ (at_once : p.first ≤ q.last + 1).
    let same : q.last + 1 ≡ p.first = omega arith in
    let e = covers-inside p (q.last + 1) at_once (omega arith) in
    let f : at_of (p ∷ back) (q.last + 1) ≡ Some (label_of p) = rw e refl in
    let g : Some (label_of p) ≡ Some (label_of q) = sym f ∙ h in
    let label : label_of q ≡ label_of p = cc in
    free (same, label))
    (cases_lt (q.last + 1) p.first)

-- the number after a piece doesn't have its label
pub not-after : (low : ℕ) (front : List Piece) (q : Piece) (back : List Piece) → IsRisingFrom low (front ++ q ∷ back) → IsApart (front ++ q ∷ back) → at_of (front ++ q ∷ back) (q.last + 1) ≡ Some (label_of q) → ⊥
not-after low [] q back r a h =
    let past : q.last < q.last + 1 = omega arith in
    let e = covers-above q (q.last + 1) past in
    next-of q back r.2 a.0 (rw e at h)
not-after low (x ∷ front) q back r a h =
    let above = from-low (x.last + 1) front q back r.2 in
    let forward = forward-of (x.last + 1) front q back r.2 in
    let past : x.last < q.last + 1 = omega arith in
    let e = covers-above x (q.last + 1) past in
    not-after (x.last + 1) front q back r.2 a.1 (rw e at h)

-- the number before a piece doesn't have its label
pub not-before : (low : ℕ) (front : List Piece) (p : Piece) (back : List Piece) (n : ℕ) → n + 1 ≡ p.first → IsRisingFrom low (front ++ p ∷ back) → IsApart (front ++ p ∷ back) → at_of (front ++ p ∷ back) n ≡ Some (label_of p) → ⊥
not-before low [] p back n e r a h =
    let f = covers-below p n (omega arith) in
    let forward : p.first ≤ p.last = r.1.0 in
    let g = at_of-below (p.last + 1) back n r.2 (omega arith) in
    let k : None ≡ Some (label_of p) = sym (rw f g) ∙ h in
    cc
not-before low (x ∷ []) p back n e r a h =
    let above : x.last + 1 ≤ p.first = r.2.0 in
    let ahead : x.first ≤ x.last = r.1.0 in
    ⊎_elim
    (λ (past : x.last < n).
    let f = covers-above x n past in
    not-before (x.last + 1) [] p back n e r.2 a.1 (rw f at h))
    (λ (to : n ≤ x.last).
    let last : x.last + 1 ≡ p.first = omega arith in
    let f = covers-inside x n (omega arith) to in
    let own : at_of (x ∷ p ∷ back) n ≡ Some (label_of x) = rw f refl in
    let g : Some (label_of x) ≡ Some (label_of p) = sym own ∙ h in
    let label : label_of x ≡ label_of p = cc in
    a.0 (last, label))
    (cases_lt x.last n)
not-before low (x ∷ y ∷ front) p back n e r a h =
    let next : x.last + 1 ≤ y.first = r.2.0 in
    let forward : y.first ≤ y.last = r.2.1.0 in
    let above = from-low (y.last + 1) front p back r.2.2 in
    let past : x.last < n = omega arith in
    let f = covers-above x n past in
    not-before (x.last + 1) (y ∷ front) p back n e r.2 a.1 (rw f at h)

pub apart-front : (xs ys : List Piece) → IsApart (xs ++ ys) → IsApart xs
apart-front [] ys a = tt
apart-front (x ∷ []) ys a = (tt, tt)
apart-front (x ∷ y ∷ xs) ys a = (a.0, apart-front (y ∷ xs) ys a.1)

pub apart-back : (xs ys : List Piece) → IsApart (xs ++ ys) → IsApart ys
apart-back [] ys a = a
apart-back (x ∷ xs) ys a = apart-back xs ys a.1

-- two such lists, of which the second doesn't follow the first
pub apart-append : (xs ys : List Piece) → IsApart xs → IsApart ys → ((front : List Piece) (q p : Piece) (back : List Piece) → xs ≡ front ++ q ∷ [] → ys ≡ p ∷ back → ¬ (Follows q p)) → IsApart (xs ++ ys)
apart-append [] ys a b joint = b
apart-append (x ∷ []) [] a b joint = (tt, tt)
apart-append (x ∷ []) (p ∷ ys) a b joint = (joint [] x p ys refl refl, b)
apart-append (x ∷ y ∷ xs) ys a b joint =
    (a.0, apart-append (y ∷ xs) ys a.1 b (λ front q p back e f. joint (x ∷ front) q p back (ap (λ l. x ∷ l) e) f))

-- where the new list keeps the old map after a kept piece, the next piece doesn't follow it
pub joint-left : (front : List Piece) (q : Piece) (rest : List Piece) (p : Piece) (back : List Piece) → IsRising (front ++ q ∷ rest) → IsApart (front ++ q ∷ rest) → IsRising ((front ++ q ∷ []) ++ p ∷ back) → at_of ((front ++ q ∷ []) ++ p ∷ back) (q.last + 1) ≡ at_of (front ++ q ∷ rest) (q.last + 1) → ¬ (Follows q p)
joint-left front q rest p back r a new same f =
    let next : q.last + 1 ≡ p.first = f.0 in
    let forward = forward-of 0 (front ++ q ∷ []) p back new in
    let own = at-own 0 (front ++ q ∷ []) p back (q.last + 1) new (omega arith) (omega arith) in
    not-after 0 front q rest r a (sym same ∙ own ∙ ap Some (sym f.1))

-- the same before a kept piece
pub joint-right : (front : List Piece) (q : Piece) (old : List Piece) (p : Piece) (back : List Piece) → IsRising (old ++ p ∷ back) → IsApart (old ++ p ∷ back) → IsRising (front ++ q ∷ (p ∷ back)) → at_of (front ++ q ∷ (p ∷ back)) q.last ≡ at_of (old ++ p ∷ back) q.last → ¬ (Follows q p)
joint-right front q old p back r a new same f =
    let forward = forward-of 0 front q (p ∷ back) new in
    let own = at-own 0 front q (p ∷ back) q.last new forward (omega arith) in
    not-before 0 old p back q.last f.0 r a (sym same ∙ own ∙ ap Some f.1)
