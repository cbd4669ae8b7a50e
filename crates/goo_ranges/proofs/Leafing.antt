-- Look-ups that go from page to page.
use Rattle.std.proofs.Common.{◌≡◌, ℕ, suc, ◌+◌, ◌<◌, ◌≤◌, List, [], ◌∷◌, ◌++◌, Bool, true, false, None, Some, refl, sym, ap, ◌∙◌, ⊎_elim, arith}
use Rattle.std.proofs.lemmas.Bool.{cases_lt}
use Rattle.goo_types.specs.declared.lot_fields.LotFields.{LotFields}
use Rattle.goo_types.specs.declared.place.Place.{Place}
use Rattle.goo_types.specs.declared.piece.Piece.{Piece}
use Rattle.goo_types.specs.Piece.{at_of, IsRising, IsRisingFrom}
use Rattle.goo_spec.specs.Lots.{is_absent, fails}
use Rattle.goo_spec.specs.Maps.{least_absent, least_failing}
use Rattle.goo_ranges_pieces.specs.Walk.{end_of, span}
use Rattle.goo_ranges.specs.Paging.{begin_of, IsLeft}
use Rattle.goo_ranges_pieces.proofs.Changing.{or_else-none}
use Rattle.goo_ranges_pieces.proofs.Covers.{or_else, at_of-append}
use Rattle.goo_ranges_pieces.proofs.Find.{least-of_span, none-of_span, find-span-none, find-span-some}
use Rattle.goo_ranges.proofs.Paging.{left-page}
use Rattle.goo_ranges_pieces.proofs.Rising.{rising-front, rising-back, at_of-below, at_of-above}

-- ---- the least number that is missing

-- a number that the first page has, all have
has-page : (all x ys : List Piece) (n m : ℕ) → IsLeft all (x ++ ys) n → n ≤ m → is_absent (at_of x m) ≡ false → is_absent (at_of all m) ≡ false
has-page all x ys n m left above has = ⊎_elim
    (λ (lt : m < end_of 0 x). ap is_absent (left-page all x ys n m left above lt) ∙ has)
    (λ (ge : end_of 0 x ≤ m).
    let none = at_of-above 0 x m (rising-front 0 x ys left.rising) ge in
    let bad : true ≡ false = rw none at has in
    absurd (cc))
    (cases_lt m (end_of 0 x))

-- what is known up to a number goes on to the next one that the page lacks
pub known-more : (all x ys : List Piece) (first from next : ℕ) → IsLeft all (x ++ ys) from → ((m : ℕ) → first ≤ m → m < from → is_absent (at_of all m) ≡ false) → ((m : ℕ) → from ≤ m → m < next → is_absent (at_of x m) ≡ false) → (m : ℕ) → first ≤ m → m < next → is_absent (at_of all m) ≡ false
known-more all x ys first from next left known has m above below = ⊎_elim
    (λ (lt : m < from). known m above lt)
    (λ (ge : from ≤ m). has-page all x ys from m left ge (has m ge below))
    (cases_lt m from)

-- the page lacks none
pub missing-none : (all x ys : List Piece) (first from last : ℕ) → IsLeft all (x ++ ys) from → ((m : ℕ) → first ≤ m → m < from → is_absent (at_of all m) ≡ false) → None ≡ least_absent (at_of x) (span from (suc last)) → None ≡ least_absent (at_of all) (span first (suc last))
missing-none all x ys first from last left known none =
    sym (find-span-none (λ n. is_absent (at_of all n)) first (suc last) (known-more all x ys first from (suc last) left known (none-of_span (λ n. is_absent (at_of x n)) from (suc last) (sym none))))

-- the page lacks one before its end
pub missing-here : (all x ys : List Piece) (first from last next : ℕ) → first ≤ from → from ≤ last → IsLeft all (x ++ ys) from → ((m : ℕ) → first ≤ m → m < from → is_absent (at_of all m) ≡ false) → Some next ≡ least_absent (at_of x) (span from (suc last)) → next + 1 ≤ end_of 0 x → Some next ≡ least_absent (at_of all) (span first (suc last))
missing-here all x ys first from last next low high left known found within =
    let least = least-of_span (λ n. is_absent (at_of x n)) from (suc last) next (omega (arith, high)) (sym found) in
    let up : from ≤ next = least.above in
    let same = left-page all x ys from next left up (omega (arith, within)) in
    sym (find-span-some (λ n. is_absent (at_of all n)) first next (suc last) (omega (arith, low, up)) least.below (known-more all x ys first from next left known least.least) (ap is_absent same ∙ least.passes))

-- none is left
pub missing-last : (all rest : List Piece) (first from last : ℕ) → first ≤ from → from ≤ last → rest ≡ [] → IsLeft all rest from → ((m : ℕ) → first ≤ m → m < from → is_absent (at_of all m) ≡ false) → Some from ≡ least_absent (at_of all) (span first (suc last))
missing-last all rest first from last low high none left known =
    let gone : at_of all from ≡ None = left.same from (omega arith) ∙ ap (λ l. at_of l from) none in
    sym (find-span-some (λ n. is_absent (at_of all n)) first from (suc last) low (omega (arith, high)) known (rw gone refl))

-- ---- the least number that fails a test

module _ (passes : LotFields → Place → Bool) where
  -- a number that doesn't fail on the first page is looked up on the others
  pub failing-later : (x ys : List Piece) (n : ℕ) → IsRising (x ++ ys) → fails passes (at_of x n) ≡ false → fails passes (at_of (x ++ ys) n) ≡ fails passes (at_of ys n)
  failing-later x ys n r ok = ap (fails passes) (at_of-append x ys n) ∙ ⊎_elim
      (λ (lt : n < end_of 0 x).
      let none = at_of-below (end_of 0 x) ys n (rising-back 0 x ys r) lt in
      let e : fails passes (or_else (at_of x n) (at_of ys n)) ≡ fails passes (at_of x n) = rw none (ap (fails passes) (or_else-none (at_of x n))) in
      let f : fails passes (at_of ys n) ≡ false = rw none refl in
      e ∙ ok ∙ sym f)
      (λ (ge : end_of 0 x ≤ n). let none = at_of-above 0 x n (rising-front 0 x ys r) ge in rw none refl)
      (cases_lt n (end_of 0 x))

  -- one that fails there is before the end of that page
  failing-within : (x ys : List Piece) (n : ℕ) → IsRising (x ++ ys) → fails passes (at_of x n) ≡ true → n < end_of 0 x
  failing-within x ys n r bad = ⊎_elim
      (λ (lt : n < end_of 0 x). lt)
      (λ (ge : end_of 0 x ≤ n).
      let none = at_of-above 0 x n (rising-front 0 x ys r) ge in
      let wrong : false ≡ true = rw none at bad in
      absurd (cc))
      (cases_lt n (end_of 0 x))

  inside-first : (x ys : List Piece) (n : ℕ) → IsRising (x ++ ys) → n < end_of 0 x → at_of (x ++ ys) n ≡ at_of x n
  inside-first x ys n r lt =
      let none = at_of-below (end_of 0 x) ys n (rising-back 0 x ys r) lt in
      at_of-append x ys n ∙ rw none (or_else-none (at_of x n))

  pub failing-here : (all x ys : List Piece) (first last n : ℕ) → first ≤ last → IsRising (x ++ ys) → ((m : ℕ) → first ≤ m → m ≤ last → fails passes (at_of all m) ≡ fails passes (at_of (x ++ ys) m)) → Some n ≡ least_failing passes (at_of x) (span first (suc last)) → Some n ≡ least_failing passes (at_of all) (span first (suc last))
  failing-here all x ys first last n up r same found =
      let least = least-of_span (λ m. fails passes (at_of x m)) first (suc last) n (omega (arith, up)) (sym found) in
      let above : first ≤ n = least.above in
      let below : n < suc last = least.below in
      let within = failing-within x ys n r least.passes in
      let here : fails passes (at_of all n) ≡ true = same n above (omega (arith, below)) ∙ ap (fails passes) (inside-first x ys n r within) ∙ least.passes in
      let before : (m : ℕ) → first ≤ m → m < n → fails passes (at_of all m) ≡ false =
      λ m from to. same m from (omega (arith, below, to)) ∙ ap (fails passes) (inside-first x ys m r (omega (arith, within, to))) ∙ least.least m from to
      in
      sym (find-span-some (λ m. fails passes (at_of all m)) first n (suc last) above below before here)

  pub failing-next : (all x ys : List Piece) (first last : ℕ) → IsRising (x ++ ys) → ((m : ℕ) → first ≤ m → m ≤ last → fails passes (at_of all m) ≡ fails passes (at_of (x ++ ys) m)) → None ≡ least_failing passes (at_of x) (span first (suc last)) → (m : ℕ) → first ≤ m → m ≤ last → fails passes (at_of all m) ≡ fails passes (at_of ys m)
  failing-next all x ys first last r same none m from to =
      same m from to ∙ failing-later x ys m r (none-of_span (λ n. fails passes (at_of x n)) first (suc last) (sym none) m from (omega (arith, to)))

  -- the rest begins after the range
  pub failing-past : (all x ys : List Piece) (first last : ℕ) → IsRising (x ++ ys) → last < begin_of x → ((m : ℕ) → first ≤ m → m ≤ last → fails passes (at_of all m) ≡ fails passes (at_of (x ++ ys) m)) → None ≡ least_failing passes (at_of all) (span first (suc last))
  failing-past all [] ys first last r past same = absurd (omega (arith, past))
  failing-past all (p ∷ x) ys first last r past same =
      let later : IsRisingFrom (last + 1) (p ∷ (x ++ ys)) = (omega (arith, past), r.1, r.2) in
      sym (find-span-none (λ m. fails passes (at_of all m)) first (suc last) (λ m from to.
      let none = at_of-below (last + 1) (p ∷ (x ++ ys)) m later (omega (arith, to)) in
      same m from (omega (arith, to)) ∙ ap (fails passes) none))

  pub failing-none : (all rest : List Piece) (first last : ℕ) → rest ≡ [] → ((m : ℕ) → first ≤ m → m ≤ last → fails passes (at_of all m) ≡ fails passes (at_of rest m)) → None ≡ least_failing passes (at_of all) (span first (suc last))
  failing-none all rest first last none same =
      sym (find-span-none (λ m. fails passes (at_of all m)) first (suc last) (λ m from to. same m from (omega (arith, to)) ∙ ap (λ l. fails passes (at_of l m)) none))
