-- Rows of pages.
use Rattle.std.proofs.Common.{◌≡◌, ℕ, zero, suc, ◌-◌, ◌<◌, ◌≤◌, List, [], ◌∷◌, length, get_or, slice_get, Some, refl, sym, ap, ◌∙◌, arith}
use Rattle.std.specs.List.Sorted.{IsNonDecreasingBy}
use Rattle.goo_types.specs.declared.piece.Piece.{Piece}
use Rattle.goo_core_pages.specs.Paging.{InOrder, last_begin}

not-below : (low : ℕ) (ps : List Piece) (j : ℕ) (d : Piece) → InOrder low ps → j < length ps → low ≤ (get_or ps j d).first
not-below low [] j d r h = absurd (omega arith)
not-below low (p ∷ ps) zero d r h = r.0
not-below low (p ∷ ps) (suc j) d r h =
    let here : low ≤ p.first = r.0 in
    let far = not-below p.first ps j d r.1 (omega arith) in
    omega arith

pub in_order-sorted : (low : ℕ) (ps : List Piece) → InOrder low ps → IsNonDecreasingBy (λ p. p.first) ps
in_order-sorted low [] r i j d le h = absurd (omega arith)
in_order-sorted low (p ∷ ps) r zero zero d le h = omega arith
in_order-sorted low (p ∷ ps) r zero (suc j) d le h = not-below p.first ps j d r.1 (omega arith)
in_order-sorted low (p ∷ ps) r (suc i) zero d le h = absurd (omega arith)
in_order-sorted low (p ∷ ps) r (suc i) (suc j) d le h = in_order-sorted p.first ps r.1 i j d (omega arith) (omega arith)

same-some : (p q : Piece) → Some p ≡ Some q → p ≡ q
same-some p q e = cc

last-is : (low n : ℕ) (ps : List Piece) (r : Piece) → suc n ≡ length ps → slice_get ps n ≡ Some r → last_begin low ps ≡ r.first
last-is low n [] r e is = absurd (omega arith)
last-is low zero (p ∷ []) r e is = ap (λ (q : Piece). q.first) (same-some p r is)
last-is low zero (p ∷ q ∷ qs) r e is = absurd (omega arith)
last-is low (suc n) (p ∷ ps) r e is = last-is p.first n ps r (omega arith) is

pub last-found : (low : ℕ) (ps : List Piece) (r : Piece) → slice_get ps (length ps - 1) ≡ Some r → last_begin low ps ≡ r.first
last-found low [] r is = absurd (cc)
last-found low (p ∷ ps) r is =
    let less : suc (length ps) - 1 ≡ length ps = omega arith in
    let found : slice_get (p ∷ ps) (length ps) ≡ Some r = ap (slice_get (p ∷ ps)) (sym less) ∙ is in
    last-is low (length ps) (p ∷ ps) r refl found
