-- Lists of pieces that rise.
use Rattle.std.proofs.Common.{◌≡◌, ℕ, zero, suc, ◌+◌, ◌-◌, ◌<◌, ◌≤◌, List, [], ◌∷◌, ◌++◌, None, length, get_or, take, drop, take-append-drop, refl, ap, sym, ◌∙◌, arith}
use Rattle.std.proofs.lemmas.List.{take_more}
use Rattle.std.proofs.Math.Numerals.{sub-one}
use Rattle.goo_types.specs.declared.piece.Piece.{Piece}
use Rattle.goo_types.specs.Piece.{at_of, IsForward, IsRising, IsRisingFrom}
use Rattle.goo_ranges_pieces.specs.Walk.{end_of}
use Rattle.goo_ranges_pieces.proofs.Covers.{covers-below, covers-above, or_else, at_of-append}

pub end_of-append : (low : ℕ) (xs ys : List Piece) → end_of low (xs ++ ys) ≡ end_of (end_of low xs) ys
end_of-append low [] ys = refl
end_of-append low (p ∷ xs) ys = end_of-append (p.last + 1) xs ys

pub end_of-take : (low : ℕ) (ps : List Piece) (i : ℕ) (d : Piece) → i < length ps → end_of low (take (suc i) ps) ≡ (get_or ps i d).last + 1
end_of-take low [] i d h = absurd (omega arith)
end_of-take low (p ∷ ps) zero d h = refl
end_of-take low (p ∷ ps) (suc i) d h = end_of-take (p.last + 1) ps i d (omega arith)

pub rising-weaken : (low high : ℕ) (ps : List Piece) → low ≤ high → IsRisingFrom high ps → IsRisingFrom low ps
rising-weaken low high [] h r = tt
rising-weaken low high (p ∷ ps) h r = (omega arith, r.1, r.2)

pub rising-append : (low : ℕ) (xs ys : List Piece) → IsRisingFrom low xs → IsRisingFrom (end_of low xs) ys → IsRisingFrom low (xs ++ ys)
rising-append low [] ys r s = s
rising-append low (p ∷ xs) ys r s = (r.0, r.1, rising-append (p.last + 1) xs ys r.2 s)

pub rising-front : (low : ℕ) (xs ys : List Piece) → IsRisingFrom low (xs ++ ys) → IsRisingFrom low xs
rising-front low [] ys r = tt
rising-front low (p ∷ xs) ys r = (r.0, r.1, rising-front (p.last + 1) xs ys r.2)

pub rising-back : (low : ℕ) (xs ys : List Piece) → IsRisingFrom low (xs ++ ys) → IsRisingFrom (end_of low xs) ys
rising-back low [] ys r = r
rising-back low (p ∷ xs) ys r = rising-back (p.last + 1) xs ys r.2

pub end_of-low : (low : ℕ) (ps : List Piece) → IsRisingFrom low ps → low ≤ end_of low ps
end_of-low low [] r = omega arith
end_of-low low (p ∷ ps) r = let up = end_of-low (p.last + 1) ps r.2 in let here : low ≤ p.first = r.0 in let forward : p.first ≤ p.last = r.1.0 in omega arith

-- a number below a rising list is not in it
pub at_of-below : (low : ℕ) (ps : List Piece) (n : ℕ) → IsRisingFrom low ps → n < low → at_of ps n ≡ None
at_of-below low [] n r h = refl
at_of-below low (p ∷ ps) n r h =
    let here : low ≤ p.first = r.0 in
    let forward : p.first ≤ p.last = r.1.0 in
    let before : n < p.first = omega arith in
    let later : n < p.last + 1 = omega arith in
    rw (covers-below p n before) (at_of-below (p.last + 1) ps n r.2 later)

-- nor is one at or after its end
pub at_of-above : (low : ℕ) (ps : List Piece) (n : ℕ) → IsRisingFrom low ps → end_of low ps ≤ n → at_of ps n ≡ None
at_of-above low [] n r h = refl
at_of-above low (p ∷ ps) n r h =
    let up = end_of-low (p.last + 1) ps r.2 in
    let after : p.last < n = omega arith in
    rw (covers-above p n after) (at_of-above (p.last + 1) ps n r.2 h)

pub at_of-drop : (ps : List Piece) (i n : ℕ) → IsRising ps → end_of 0 (take i ps) ≤ n → at_of ps n ≡ at_of (drop i ps) n
at_of-drop ps i n r h =
    let whole : take i ps ++ drop i ps ≡ ps = take-append-drop i ps in
    let split : IsRising (take i ps ++ drop i ps) = rw whole r in
    let joined = at_of-append (take i ps) (drop i ps) n in
    let front = at_of-above 0 (take i ps) n (rising-front 0 (take i ps) (drop i ps) split) h in
    let e : at_of ps n ≡ at_of (take i ps ++ drop i ps) n = rw whole in
    let f : or_else (at_of (take i ps) n) (at_of (drop i ps) n) ≡ at_of (drop i ps) n = rw front in
    e ∙ joined ∙ f

pub rising-drop : (ps : List Piece) (i : ℕ) → IsRising ps → IsRising (drop i ps)
rising-drop ps i r =
    let split : IsRising (take i ps ++ drop i ps) = rw (take-append-drop i ps) r in
    rising-weaken 0 _ _ (omega arith) (rising-back 0 (take i ps) (drop i ps) split)

-- the last numbers rise
pub last-below : (low : ℕ) (ps : List Piece) (j : ℕ) (d : Piece) → IsRisingFrom low ps → j < length ps → low ≤ (get_or ps j d).last
last-below low [] j d r h = absurd (omega arith)
last-below low (p ∷ ps) zero d r h = let here : low ≤ p.first = r.0 in let forward : p.first ≤ p.last = r.1.0 in omega arith
last-below low (p ∷ ps) (suc j) d r h =
    let here : low ≤ p.first = r.0 in
    let forward : p.first ≤ p.last = r.1.0 in
    let far = last-below (p.last + 1) ps j d r.2 (omega arith) in
    omega arith

pub last-rises : (low : ℕ) (ps : List Piece) (i j : ℕ) (d : Piece) → IsRisingFrom low ps → i ≤ j → j < length ps → (get_or ps i d).last ≤ (get_or ps j d).last
last-rises low [] i j d r le h = absurd (omega arith)
last-rises low (p ∷ ps) zero zero d r le h = omega arith
last-rises low (p ∷ ps) zero (suc j) d r le h = let far = last-below (p.last + 1) ps j d r.2 (omega arith) in omega arith
last-rises low (p ∷ ps) (suc i) zero d r le h = absurd (omega arith)
last-rises low (p ∷ ps) (suc i) (suc j) d r le h = last-rises (p.last + 1) ps i j d r.2 (omega arith) (omega arith)

rising-one : (low : ℕ) (p : Piece) → low ≤ p.first → IsForward p → IsRisingFrom low (p ∷ [])
rising-one low p here forward = (here, forward, tt)

-- a list that rises up to i still does with a forward piece that begins after the one before it
pub rising-more : (ps : List Piece) (i : ℕ) (p : Piece) → i < length ps → p ≡ get_or ps i p → IsForward p → IsRising (take i ps) → (0 < i → (d : Piece) → (get_or ps (i - 1) d).last < p.first) → IsRising (take (i + 1) ps)
rising-more ps zero p lt is forward r after =
    let more = take_more ps 0 p lt in
    let one : take 1 ps ≡ p ∷ [] = more ∙ ap (λ q. q ∷ []) (sym is) in
    rw one (rising-one 0 p (omega arith) forward)
rising-more ps (suc i) p lt is forward r after =
    let more = take_more ps (suc i) p lt in
    let here = after (omega arith) p in
    let before : (get_or ps i p).last < p.first = rw sub-one at here in
    let end = end_of-take 0 ps i p (omega arith) in
    let above : end_of 0 (take (suc i) ps) ≤ p.first = omega arith in
    rw (more, ← is) (rising-append 0 (take (suc i) ps) (p ∷ []) r (rising-one _ p above forward))
