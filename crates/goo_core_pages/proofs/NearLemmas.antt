-- The rows near a range are one block.
use Rattle.std.proofs.Common.{◌≡◌, ℕ, zero, suc, ◌+◌, ◌<◌, ◌≤◌, List, [], ◌∷◌, ◌++◌, ◌-◌, Bool, true, false, ltb, leb, length, length-drop, get_or, take, drop, refl, ap, sym, ◌∙◌, arith}
use Rattle.std.specs.List.{AllWithin, filter}
use Rattle.std.specs.List.Sorted.{IsPartitionPoint}
use Rattle.std.proofs.lemmas.Bool.Decides.{nat_tests}
use Rattle.std.proofs.lemmas.List.Elements.{filter-append}
use Rattle.std.proofs.lemmas.List.{get_or-drop, append-nil, at_drop_more}
use Rattle.goo_types.specs.Range.{Numbers}
use Rattle.goo_types.specs.declared.piece.Piece.{Piece}
use Rattle.goo_types.specs.Piece.{IsRising, IsRisingFrom}
use Rattle.goo_ranges_pieces.specs.Walk.{end_of}
use Rattle.goo_ranges.proofs.JoinedPages.{joined-next, joined-split}
use Rattle.goo_ranges_pieces.proofs.Rising.{rising-weaken, rising-front, rising-back}
use Rattle.goo_core_pages.specs.Paging.{joined, AreFit, BeginAfter, Below}
use Rattle.goo_core_pages.proofs.CutLemmas.{fit-at}
use Rattle.goo_core_pages.proofs.OrderLemmas.{below-behind}
use Rattle.goo_ranges_rows.specs.Rows.{is_near, meeting}

module _ {X : Type 0} (p : X → Bool) where
  filter-skip : (xs : List X) (i : ℕ) → AllWithin (λ x. p x ≡ false) xs 0 i → i ≤ length xs → filter p xs ≡ filter p (drop i xs)
  filter-skip xs zero fails le = refl
  filter-skip [] (suc i) fails le = refl
  filter-skip (x ∷ xs) (suc i) fails le =
      let here = fails 0 x (omega arith) (omega arith) in
      rw here (filter-skip xs i (λ k d a b. fails (suc k) d (omega arith) (omega arith)) (omega arith))

  filter-front : (xs : List X) (i : ℕ) → AllWithin (λ x. p x ≡ true) xs 0 i → AllWithin (λ x. p x ≡ false) xs i (length xs) → i ≤ length xs → filter p xs ≡ take i xs
  filter-front [] zero passes fails le = refl
  filter-front [] (suc i) passes fails le = refl
  filter-front (x ∷ xs) zero passes fails le =
      let here = fails 0 x (omega arith) (omega arith) in
      rw here (filter-front xs zero (λ k d a b. absurd (omega arith)) (λ k d a b. fails (suc k) d (omega arith) (omega arith)) (omega arith))
  filter-front (x ∷ xs) (suc i) passes fails le =
      let here = passes 0 x (omega arith) (omega arith) in
      rw here (ap (λ ys. x ∷ ys) (filter-front xs i (λ k d a b. passes (suc k) d (omega arith) (omega arith)) (λ k d a b. fails (suc k) d (omega arith) (omega arith)) (omega arith)))

pub near-block : (range : Numbers) (ps : List Piece) (start count : ℕ) → start ≤ length ps → count ≤ length (drop start ps)
    → IsPartitionPoint (λ p. ltb (p.last + 1) range.first ≡ true) (λ p. ltb (p.last + 1) range.first ≡ false) ps start
    → IsPartitionPoint (λ p. leb p.first (range.last + 1) ≡ true) (λ p. leb p.first (range.last + 1) ≡ false) (drop start ps) count
    → take count (drop start ps) ≡ meeting range ps
near-block range ps start count within within_too one two =
    let later : (k : ℕ) (d : Piece) → k < length (drop start ps) → ltb ((get_or (drop start ps) k d).last + 1) range.first ≡ false =
    λ k d lt. rw (get_or-drop start ps k d) (one.1 (start + k) d (omega arith) (let e = length-drop start ps in omega (arith, e, lt))) in
    sym (filter-skip (is_near range) ps start (λ k d a b. let far = one.0 k d a b in grind (arith, nat_tests)) within
    ∙ filter-front (is_near range) (drop start ps) count
    (λ k d a b. let low = later k d (omega (arith, b, within_too)) in let high = two.0 k d a b in grind (arith, nat_tests))
    (λ k d a b. let high = two.1 k d a b in grind (arith, nat_tests))
    within_too)

-- one page more
pub meeting-more : (range : Numbers) (xs : List (List Piece)) (i : ℕ) (d : List Piece) → i < length xs → meeting range (joined (take i xs)) ++ meeting range (get_or xs i d) ≡ meeting range (joined (take (i + 1) xs))
meeting-more range xs i d lt =
    sym (filter-append (is_near range) (joined (take i xs)) (get_or xs i d)) ∙ ap (meeting range) (joined-next xs i d lt)

none-far : (range : Numbers) (low : ℕ) (ps : List Piece) → IsRisingFrom low ps → range.last + 1 < low → meeting range ps ≡ []
none-far range low [] rising far = refl
none-far range low (p ∷ ps) rising far =
    let here : low ≤ p.first = rising.0 in
    let forward : p.first ≤ p.last = rising.1.0 in
    let e : is_near range p ≡ false = grind (arith, nat_tests) in
    rw e (none-far range (p.last + 1) ps rising.2 (omega arith))

none-after : (range : Numbers) (page rest : List Piece) → IsRisingFrom 0 (page ++ rest) → BeginAfter (range.last + 1) page → meeting range (page ++ rest) ≡ []
none-after range [] rest rising after = absurd after
none-after range (p ∷ page) rest rising after =
    let far : range.last + 1 < p.first = after in
    let same : p.first ≤ p.first = omega arith in
    none-far range p.first (p ∷ page ++ rest) (same, rising.1, rising.2) far

rising-rest : (low : ℕ) (xs : List (List Piece)) (i : ℕ) → IsRisingFrom low (joined xs) → IsRising (joined (drop i xs))
rising-rest low xs zero rising = let least : 0 ≤ low = omega arith in rising-weaken 0 low (joined xs) least rising
rising-rest low [] (suc i) rising = tt
rising-rest low (x ∷ xs) (suc i) rising = rising-rest (end_of low x) xs i (rising-back low x (joined xs) rising)

-- pages from some index on rise, and so does each
pub rising-from : (xs : List (List Piece)) (i : ℕ) → IsRising (joined xs) → IsRising (joined (drop i xs))
rising-from xs i rising = rising-rest 0 xs i rising

rising-at : (low : ℕ) (xs : List (List Piece)) (i : ℕ) (d : List Piece) → IsRisingFrom low (joined xs) → i < length xs → IsRising (get_or xs i d)
rising-at low [] i d rising lt = absurd (omega arith)
rising-at low (x ∷ xs) zero d rising lt = let least : 0 ≤ low = omega arith in rising-weaken 0 low x least (rising-front low x (joined xs) rising)
rising-at low (x ∷ xs) (suc i) d rising lt = rising-at (end_of low x) xs i d (rising-back low x (joined xs) rising) (omega arith)

pub rising-page : (xs : List (List Piece)) (i : ℕ) (d : List Piece) → IsRising (joined xs) → i < length xs → IsRising (get_or xs i d)
rising-page xs i d rising lt = rising-at 0 xs i d rising lt

-- from a page on that begins after the range, no row is near
pub meeting-ended : (range : Numbers) (xs : List (List Piece)) (i : ℕ) (d : List Piece) → IsRising (joined xs) → i < length xs → BeginAfter (range.last + 1) (get_or xs i d) → meeting range (joined (take i xs)) ≡ meeting range (joined xs)
meeting-ended range xs i d rising lt after =
    let rest : joined (drop i xs) ≡ get_or xs i d ++ joined (drop (i + 1) xs) = at_drop_more joined xs i d lt in
    let later : IsRising (get_or xs i d ++ joined (drop (i + 1) xs)) = rw rest at (rising-from xs i rising) in
    let none = none-after range (get_or xs i d) (joined (drop (i + 1) xs)) later after in
    sym (ap (meeting range) (sym (joined-split i xs))
    ∙ filter-append (is_near range) (joined (take i xs)) (joined (drop i xs))
    ∙ ap (λ l. meeting range (joined (take i xs)) ++ l) (ap (meeting range) rest ∙ none)
    ∙ append-nil (meeting range (joined (take i xs))))

reaches-up : (low : ℕ) (front : List Piece) (p : Piece) (rest : List Piece) → IsRisingFrom low (front ++ p ∷ rest) → low ≤ p.first
reaches-up low [] p rest rising = rising.0
reaches-up low (q ∷ front) p rest rising =
    let here : low ≤ q.first = rising.0 in
    let forward : q.first ≤ q.last = rising.1.0 in
    let far = reaches-up (q.last + 1) front p rest rising.2 in
    omega (arith, here, forward, far)

none-before : (range : Numbers) (low : ℕ) (front : List Piece) (p : Piece) (rest : List Piece) → IsRisingFrom low (front ++ p ∷ rest) → p.first < range.first → meeting range front ≡ []
none-before range low [] p rest rising before = refl
none-before range low (q ∷ front) p rest rising before =
    let far = reaches-up (q.last + 1) front p rest rising.2 in
    let e : is_near range q ≡ false = grind (arith, nat_tests) in
    rw e (none-before range (q.last + 1) front p rest rising.2 before)

skipped : (range : Numbers) (low : ℕ) (front page rest : List Piece) → IsRisingFrom low (front ++ (page ++ rest)) → 1 ≤ length page → Below range.first page → meeting range front ≡ []
skipped range low front [] rest rising some below = absurd (omega arith)
skipped range low front (p ∷ page) rest rising some below = none-before range low front p (page ++ rest) rising below.0

below-last : (n : ℕ) (xs : List (List Piece)) (i : ℕ) → i < length xs → Below n (joined (take (suc i) xs)) → Below n (get_or xs i [])
below-last n [] i lt below = absurd (omega arith)
below-last n (x ∷ xs) zero lt below = rw append-nil at below
below-last n (x ∷ xs) (suc i) lt below = below-last n xs i (omega arith) (below-behind n x (joined (take (suc i) xs)) below)

-- the page before those that don't end before the range may have rows next to it, but none before that page
pub meeting-begun : (range : Numbers) (xs : List (List Piece)) (i : ℕ) → IsRising (joined xs) → AreFit xs → i ≤ length xs → Below range.first (joined (take i xs)) → meeting range (joined (drop (i - 1) xs)) ≡ meeting range (joined xs)
meeting-begun range xs zero rising fit le below = refl
meeting-begun range xs (suc i) rising fit le below =
    let less : suc i - 1 ≡ i = omega arith in
    let lt : i < length xs = omega (arith, le) in
    let split = sym (joined-split i xs) in
    let rest : joined (drop i xs) ≡ get_or xs i [] ++ joined (drop (i + 1) xs) = at_drop_more joined xs i [] lt in
    let whole : joined xs ≡ joined (take i xs) ++ (get_or xs i [] ++ joined (drop (i + 1) xs)) = split ∙ ap (λ l. joined (take i xs) ++ l) rest in
    let far : IsRising (joined (take i xs) ++ (get_or xs i [] ++ joined (drop (i + 1) xs))) = rw whole at rising in
    let none = skipped range 0 (joined (take i xs)) (get_or xs i []) (joined (drop (i + 1) xs)) far (fit-at xs i fit lt).0 (below-last range.first xs i lt below) in
    ap (λ n. meeting range (joined (drop n xs))) less
    ∙ sym (ap (meeting range) split ∙ filter-append (is_near range) (joined (take i xs)) (joined (drop i xs)) ∙ ap (λ l. l ++ meeting range (joined (drop i xs))) none)
