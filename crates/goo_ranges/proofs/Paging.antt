-- Pieces in pages that rise.
use Rattle.std.proofs.Common.{◌≡◌, ℕ, zero, suc, ◌+◌, ◌-◌, ◌<◌, ◌≤◌, List, [], ◌∷◌, ◌++◌, true, ltb, None, length, get_or, Some, take, drop, refl, ap, sym, ◌∙◌, arith, Result, Ok, Err}
use Rattle.std.specs.List.{AllWithin}
use Rattle.std.specs.Result.{OnOk, OnErr}
use Rattle.std.specs.List.Sorted.{IsNonDecreasingBy}
use Rattle.std.proofs.lemmas.Bool.Decides.{nat_tests}
use Rattle.std.proofs.lemmas.List.{drop_all, take-take, drop-take, drop-drop, take-append-drop}
use Rattle.std.specs.Prelude.{slice_get}
use Rattle.goo_types.specs.declared.piece.Piece.{Piece}
use Rattle.goo_types.specs.Piece.{at_of, IsRising, IsRisingFrom}
use Rattle.goo_ranges_pieces.specs.Walk.{end_of}
use Rattle.goo_ranges.specs.Paging.{joined, between, begin_of, AreFilled, IsLeft}
use Rattle.goo_ranges_pieces.proofs.Changing.{or_else-none}
use Rattle.goo_ranges.proofs.JoinedPages.{joined-append, joined-split, joined-drop, sorted-ends}
use Rattle.goo_ranges_pieces.proofs.Covers.{or_else, at_of-append}
use Rattle.goo_ranges_pieces.proofs.Rising.{end_of-append, end_of-low, rising-weaken, rising-front, rising-back, at_of-below, at_of-above}

-- the pages before two indices, between them and behind them
pub joined-three : (xs : List (List Piece)) (from to : ℕ) → from ≤ to → joined (take from xs) ++ (between xs from to ++ joined (drop to xs)) ≡ joined xs
joined-three xs from to up =
    let e : from + (to - from) ≡ to = omega arith in
    let rest : drop (to - from) (drop from xs) ≡ drop to xs = drop-drop (to - from) from xs ∙ ap (λ k. drop k xs) e in
    let back : between xs from to ++ joined (drop to xs) ≡ joined (drop from xs) = rw (← rest) (joined-split (to - from) (drop from xs)) in
    rw back (joined-split from xs)

pub joined-put : (xs more : List (List Piece)) (from to : ℕ) → joined (take from xs ++ (more ++ drop to xs)) ≡ joined (take from xs) ++ (joined more ++ joined (drop to xs))
joined-put xs more from to = joined-append (take from xs) (more ++ drop to xs) ∙ ap (λ l. joined (take from xs) ++ l) (joined-append more (drop to xs))

pub filled-append : (xs ys : List (List Piece)) → AreFilled xs → AreFilled ys → AreFilled (xs ++ ys)
filled-append [] ys f g = g
filled-append (x ∷ xs) ys f g = (f.0, filled-append xs ys f.1 g)

pub filled-take : (i : ℕ) (xs : List (List Piece)) → AreFilled xs → AreFilled (take i xs)
filled-take zero xs f = tt
filled-take (suc i) [] f = tt
filled-take (suc i) (x ∷ xs) f = (f.0, filled-take i xs f.1)

pub filled-drop : (i : ℕ) (xs : List (List Piece)) → AreFilled xs → AreFilled (drop i xs)
filled-drop zero xs f = f
filled-drop (suc i) [] f = tt
filled-drop (suc i) (x ∷ xs) f = filled-drop i xs f.1

pub filled-put : (xs more : List (List Piece)) (from to : ℕ) → AreFilled xs → AreFilled more → AreFilled (take from xs ++ (more ++ drop to xs))
filled-put xs more from to f g = filled-append (take from xs) (more ++ drop to xs) (filled-take from xs f) (filled-append more (drop to xs) g (filled-drop to xs f))

pub filled-either : {E : Type 0} (r : Result (Unit {0}) E) (xs ys more : List (List Piece)) (from to : ℕ) → AreFilled xs → AreFilled more → OnOk r (ys ≡ take from xs ++ (more ++ drop to xs)) → OnErr r (ys ≡ xs) → AreFilled ys
filled-either (Ok u) xs ys more from to f g ok err = rw ok (filled-put xs more from to f g)
filled-either (Err e) xs ys more from to f g ok err = rw err f

-- the pieces of some of the pages rise
pub between-rises : (xs : List (List Piece)) (from to : ℕ) → from ≤ to → IsRising (joined xs) → IsRising (between xs from to)
between-rises xs from to up r =
    let three : IsRising (joined (take from xs) ++ (between xs from to ++ joined (drop to xs))) = rw (joined-three xs from to up) r in
    let back = rising-back 0 (joined (take from xs)) (between xs from to ++ joined (drop to xs)) three in
    rising-weaken 0 (end_of 0 (joined (take from xs))) (between xs from to) (omega arith) (rising-front (end_of 0 (joined (take from xs))) (between xs from to) (joined (drop to xs)) back)

pub begin-found : (ps : List Piece) (p : Piece) → slice_get ps 0 ≡ Some p → begin_of ps ≡ p.first
begin-found [] p e = absurd (cc)
begin-found (q ∷ ps) p e = let same : q ≡ p = cc in rw same refl

-- some more of a list
pub take-on : (xs : List Piece) (i n : ℕ) → i ≤ n → take i xs ++ take (n - i) (drop i xs) ≡ take n xs
take-on xs i n le =
    let e : i + (n - i) ≡ n = omega arith in
    let back : drop i (take n xs) ≡ take (n - i) (drop i xs) = ap (λ k. drop i (take k xs)) (sym e) ∙ drop-take i (n - i) xs in
    let front : take i (take n xs) ≡ take i xs = take-take i n xs le in
    (λ j. sym front j ++ sym back j) ∙ take-append-drop i (take n xs)

-- ---- where pages end and begin

pub same-end : (a b : ℕ) (ps : List Piece) → 1 ≤ length ps → end_of a ps ≡ end_of b ps
same-end a b [] some = absurd (omega arith)
same-end a b (p ∷ ps) some = refl

-- the pages' ends rise
pub ends-sorted : (low : ℕ) (xs : List (List Piece)) → AreFilled xs → IsRisingFrom low (joined xs) → IsNonDecreasingBy (end_of 0) xs
ends-sorted = sorted-ends end_of IsRisingFrom same-end (λ low x ys r. end_of-low low x (rising-front low x ys r)) rising-back

begin-low : (low : ℕ) (x ys : List Piece) → 1 ≤ length x → IsRisingFrom low (x ++ ys) → low ≤ begin_of x
begin-low low [] ys some r = absurd (omega arith)
begin-low low (p ∷ x) ys some r = r.0

begin-end : (low : ℕ) (x : List Piece) → 1 ≤ length x → IsRisingFrom low x → begin_of x ≤ end_of low x
begin-end low [] some r = absurd (omega arith)
begin-end low (p ∷ x) some r =
    let forward : p.first ≤ p.last = r.1.0 in
    let up = end_of-low (p.last + 1) x r.2 in
    omega (arith, forward, up)

begins-above : (low : ℕ) (xs : List (List Piece)) (j : ℕ) (d : List Piece) → AreFilled xs → IsRisingFrom low (joined xs) → j < length xs → low ≤ begin_of (get_or xs j d)
begins-above low [] j d fit r lt = absurd (omega arith)
begins-above low (x ∷ xs) zero d fit r lt = begin-low low x (joined xs) fit.0 r
begins-above low (x ∷ xs) (suc j) d fit r lt =
    let up = end_of-low low x (rising-front low x (joined xs) r) in
    let far = begins-above (end_of low x) xs j d fit.1 (rising-back low x (joined xs) r) (omega arith) in
    omega (arith, up, far)

-- the pages' beginnings rise
pub begins-sorted : (low : ℕ) (xs : List (List Piece)) → AreFilled xs → IsRisingFrom low (joined xs) → IsNonDecreasingBy begin_of xs
begins-sorted low [] fit r i j d le lt = absurd (omega arith)
begins-sorted low (x ∷ xs) fit r zero zero d le lt = omega arith
begins-sorted low (x ∷ xs) fit r zero (suc j) d le lt =
    let far = begins-above (end_of low x) xs j d fit.1 (rising-back low x (joined xs) r) (omega arith) in
    let here = begin-end low x fit.0 (rising-front low x (joined xs) r) in
    omega (arith, far, here)
begins-sorted low (x ∷ xs) fit r (suc i) zero d le lt = absurd (omega arith)
begins-sorted low (x ∷ xs) fit r (suc i) (suc j) d le lt = begins-sorted (end_of low x) xs fit.1 (rising-back low x (joined xs) r) i j d (omega arith) (omega arith)

-- pages that end before a number do so together
pub ended-below : (low n : ℕ) (xs : List (List Piece)) (i : ℕ) → low < n → AreFilled xs → i ≤ length xs → AllWithin (λ x. ltb (end_of 0 x) n ≡ true) xs 0 i → end_of low (joined (take i xs)) < n
ended-below low n xs zero lt fit le all = lt
ended-below low n [] (suc i) lt fit le all = absurd (omega arith)
ended-below low n (x ∷ xs) (suc i) lt fit le all =
    let here = all 0 x (omega arith) (omega arith) in
    let less : end_of 0 x < n = grind (arith, nat_tests) in
    let same = same-end low 0 x fit.0 in
    rw (end_of-append low x (joined (take i xs))) (ended-below (end_of low x) n xs i (omega (arith, less, same)) fit.1 (omega arith) (λ k d a b. all (suc k) d (omega arith) (omega arith)))

take-fewer : (xs : List (List Piece)) (k i : ℕ) → k ≤ i → take k (take i xs) ≡ take k xs
take-fewer xs zero i le = refl
take-fewer xs (suc k) zero le = absurd (omega arith)
take-fewer [] (suc k) (suc i) le = refl
take-fewer (x ∷ xs) (suc k) (suc i) le = ap (λ l. x ∷ l) (take-fewer xs k i (omega arith))

-- fewer pages end no later
pub ended-fewer : (n : ℕ) (xs : List (List Piece)) (k i : ℕ) → k ≤ i → IsRising (joined xs) → end_of 0 (joined (take i xs)) < n → end_of 0 (joined (take k xs)) < n
ended-fewer n xs k i le r below =
    let whole = joined-split k (take i xs) in
    let same : joined (take k (take i xs)) ≡ joined (take k xs) = ap joined (take-fewer xs k i le) in
    let all : IsRising (joined (take i xs) ++ joined (drop i xs)) = rw (joined-split i xs) r in
    let front : IsRising (joined (take k (take i xs)) ++ joined (drop k (take i xs))) = rw whole (rising-front 0 (joined (take i xs)) (joined (drop i xs)) all) in
    let up = end_of-low (end_of 0 (joined (take k (take i xs)))) (joined (drop k (take i xs))) (rising-back 0 (joined (take k (take i xs))) (joined (drop k (take i xs))) front) in
    let end : end_of 0 (joined (take i xs)) ≡ end_of (end_of 0 (joined (take k (take i xs)))) (joined (drop k (take i xs))) = ap (end_of 0) (sym whole) ∙ end_of-append 0 (joined (take k (take i xs))) (joined (drop k (take i xs))) in
    let less : end_of 0 (joined (take k (take i xs))) < n = omega (arith, up, end, below) in
    rw same at less

-- from the first page on that begins after a number, all do
pub begun-above : (low : ℕ) (xs : List (List Piece)) (i n : ℕ) → AreFilled xs → IsRisingFrom low (joined xs) → (i < length xs → n < begin_of (get_or xs i [])) → IsRisingFrom (n + 1) (joined (drop i xs))
begun-above low [] zero n fit r h = tt
begun-above low [] (suc i) n fit r h = tt
begun-above low ([] ∷ xs) zero n fit r h = let some : 1 ≤ 0 = fit.0 in absurd (omega arith)
begun-above low ((p ∷ x) ∷ xs) zero n fit r h = let above : n < p.first = h (omega arith) in (omega (arith, above), r.1, r.2)
begun-above low (x ∷ xs) (suc i) n fit r h = begun-above (end_of low x) xs i n fit.1 (rising-back low x (joined xs) r) (λ lt. h (omega arith))

pub above-more : (n : ℕ) (xs : List (List Piece)) (i j : ℕ) → i ≤ j → IsRisingFrom n (joined (drop i xs)) → IsRisingFrom n (joined (drop j xs))
above-more n [] zero zero le r = r
above-more n [] zero (suc j) le r = tt
above-more n [] (suc i) zero le r = absurd (omega arith)
above-more n [] (suc i) (suc j) le r = tt
above-more n (x ∷ xs) zero zero le r = r
above-more n (x ∷ xs) zero (suc j) le r =
    let up = end_of-low n x (rising-front n x (joined xs) r) in
    above-more n xs zero j (omega arith) (rising-weaken n (end_of n x) (joined xs) up (rising-back n x (joined xs) r))
above-more n (x ∷ xs) (suc i) zero le r = absurd (omega arith)
above-more n (x ∷ xs) (suc i) (suc j) le r = above-more n xs i j (omega arith) r

-- ---- the map of what is left from a number on

pub left-from_count : (xs : List (List Piece)) (i n : ℕ) → IsRising (joined xs) → end_of 0 (joined (take i xs)) < n + 1 → IsLeft (joined xs) (joined (drop i xs)) n
left-from_count xs i n r below =
    let front = joined (take i xs) in
    let back = joined (drop i xs) in
    let whole : front ++ back ≡ joined xs = joined-split i xs in
    let split : IsRising (front ++ back) = rw whole r in
    record {
      same = λ m above.
          let none = at_of-above 0 front m (rising-front 0 front back split) (omega (arith, below, above)) in
          let e : at_of (joined xs) m ≡ at_of (front ++ back) m = rw whole refl in
          let f : or_else (at_of front m) (at_of back m) ≡ at_of back m = rw none refl in
          e ∙ at_of-append front back m ∙ f;
      rising = rising-weaken 0 (end_of 0 front) back (omega arith) (rising-back 0 front back split);
    }

-- below the end of the first page that page says it
pub left-page : (all x ys : List Piece) (n m : ℕ) → IsLeft all (x ++ ys) n → n ≤ m → m < end_of 0 x → at_of all m ≡ at_of x m
left-page all x ys n m left above below =
    let none = at_of-below (end_of 0 x) ys m (rising-back 0 x ys left.rising) below in
    let e : or_else (at_of x m) (at_of ys m) ≡ at_of x m = rw none (or_else-none (at_of x m)) in
    left.same m above ∙ at_of-append x ys m ∙ e

-- from there on the others do
pub left-next : (all x ys : List Piece) (n m : ℕ) → IsLeft all (x ++ ys) n → n ≤ m → end_of 0 x ≤ m → IsLeft all ys m
left-next all x ys n m left up past = record {
  same = λ k above.
      let none = at_of-above 0 x k (rising-front 0 x ys left.rising) (omega (arith, past, above)) in
      let e : or_else (at_of x k) (at_of ys k) ≡ at_of ys k = rw none refl in
      left.same k (omega (arith, up, above)) ∙ at_of-append x ys k ∙ e;
  rising = rising-weaken 0 (end_of 0 x) ys (omega arith) (rising-back 0 x ys left.rising);
}

same-default : (xs : List (List Piece)) (i : ℕ) (d e : List Piece) → i < length xs → get_or xs i d ≡ get_or xs i e
same-default [] i d e lt = absurd (omega arith)
same-default (x ∷ xs) zero d e lt = refl
same-default (x ∷ xs) (suc i) d e lt = same-default xs i d e (omega arith)

-- the first page that reaches a number says it
pub at-page : (xs : List (List Piece)) (i n : ℕ) (page : List Piece) → IsRising (joined xs) → i < length xs → page ≡ get_or xs i [] → end_of 0 (joined (take i xs)) < n + 1 → n + 1 ≤ end_of 0 (get_or xs i []) → at_of (joined xs) n ≡ at_of page n
at-page xs i n page r lt is below reaches =
    let left = left-from_count xs i n r below in
    let whole = joined-drop xs i (get_or xs i []) lt (same-default xs i [] (get_or xs i []) lt) in
    let first = left-page (joined xs) (get_or xs i []) (joined (drop (i + 1) xs)) n n (rw whole at left) (omega arith) (omega (arith, reaches)) in
    rw is first

-- where none reaches it there is nothing
pub at-none : (xs : List (List Piece)) (i n : ℕ) → IsRising (joined xs) → length xs ≤ i → end_of 0 (joined (take i xs)) < n + 1 → at_of (joined xs) n ≡ None
at-none xs i n r past below =
    let left = left-from_count xs i n r below in
    let none = drop_all i xs past in
    left.same n (omega arith) ∙ rw none refl
