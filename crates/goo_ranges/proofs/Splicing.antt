-- A block of a book's pieces that is replaced: no piece follows another afterwards, and few are replaced.
use Rattle.std.proofs.Common.{◌≡◌, ℕ, ◌+◌, ◌-◌, ◌<◌, ◌≤◌, List, [], ◌∷◌, ◌++◌, Bool, true, false, Some, length, take, drop, refl, ap, sym, subst, ◌∙◌, ⊎_elim, arith, append_assoc}
use Rattle.std.specs.Prelude.{sum_by, nat_lt}
use Rattle.std.specs.List.{count_by}
use Rattle.std.proofs.lemmas.Bool.{cases_lt}
use Rattle.std.proofs.lemmas.Bool.Decides.{nat_tests}
use Rattle.std.proofs.lemmas.List.Sums.{sum_by-append}
use Rattle.goo_types.specs.declared.place.Place.{Place}
use Rattle.goo_types.specs.declared.piece.Piece.{Piece}
use Rattle.goo_types.specs.Piece.{Label, label_of, at_of, IsRising, IsRisingFrom}
use Rattle.goo_spec.specs.Runs.{IsApart}
use Rattle.goo_ranges_pieces.specs.Walk.{end_of}
use Rattle.goo_ranges_pieces.specs.Change.{inside, moved, set_to, meets, one_if, cuts, IsChanged}
use Rattle.goo_ranges_pieces.specs.Touching.{AreNear, IsTouched, IsAround}
use Rattle.goo_ranges.proofs.Maximal.{apart-front, apart-back, apart-append, joint-left, joint-right, at-own, forward-of}
use Rattle.goo_ranges_pieces.proofs.Rising.{end_of-append}
use Rattle.goo_ranges_pieces.proofs.Touching.{in-three, spliced-rising, spliced-same}

pub spliced-apart : (ps : List Piece) (first last from to : ℕ) (place : Place) (out : List Piece) → IsRising ps → IsTouched ps first last from to → IsChanged (moved first last place) (cuts first last) (take (to - from) (drop from ps)) out → IsApart out → IsApart ps → IsApart (take from ps ++ (out ++ drop to ps))
spliced-apart ps first last from to place out r near changed joined a =
    let before = take from ps in
    let middle = take (to - from) (drop from ps) in
    let after = drop to ps in
    let whole = in-three ps from to near.order in
    let rising = spliced-rising ps first last from to place out r near changed in
    let outside : (n : ℕ) → inside first last n ≡ false → at_of (before ++ (out ++ after)) n ≡ at_of ps n = λ n h. (let same = spliced-same ps first last from to place out r near changed n in rw h at same) in
    let apart_three : IsApart (before ++ (middle ++ after)) = rw whole a in
    let apart_after : IsApart after = apart-back middle after (apart-back before (middle ++ after) apart_three) in
    let second : IsApart (out ++ after) =
    apart-append out after joined apart_after (λ front q p back e f.
    let old : ps ≡ (before ++ middle) ++ p ∷ back = sym whole ∙ sym (append_assoc before middle after) ∙ ap (λ l. (before ++ middle) ++ l) f in
    let new : before ++ (out ++ after) ≡ (before ++ front) ++ q ∷ (p ∷ back) = rw (e, f) (simp append_assoc) in
    let above = subst (IsRisingFrom (last + 2)) f near.above in
    λ follows.
    let next : q.last + 1 ≡ p.first = follows.0 in
    let far : last + 2 ≤ p.first = above.0 in
    let out_of_it : inside first last q.last ≡ false = grind (arith, nat_tests) in
    joint-right (before ++ front) q (before ++ middle) p back (subst IsRising old r) (subst IsApart old a) (subst IsRising new rising)
    (ap (λ l. at_of l q.last) (sym new) ∙ outside q.last out_of_it ∙ ap (λ l. at_of l q.last) old) follows)
    in
    apart-append before (out ++ after) (apart-front before (middle ++ after) apart_three) second (λ front q p back e f.
    let old : ps ≡ front ++ q ∷ (middle ++ after) = sym whole ∙ rw e (simp append_assoc) in
    let new : before ++ (out ++ after) ≡ (front ++ q ∷ []) ++ (p ∷ back) = rw (e, f) refl in
    let end : end_of 0 before ≡ q.last + 1 = rw e (end_of-append 0 front (q ∷ [])) in
    let low : end_of 0 before < first = near.below in
    let out_of_it : inside first last (q.last + 1) ≡ false = grind (arith, nat_tests) in
    joint-left front q (middle ++ after) p back (subst IsRising old r) (subst IsApart old a) (subst IsRising new rising)
    (ap (λ l. at_of l (q.last + 1)) (sym new) ∙ outside (q.last + 1) out_of_it ∙ ap (λ l. at_of l (q.last + 1)) old))

-- the same where the range gets one label, and a neighbour that has it as well is within
pub spliced-apart-joined : (ps : List Piece) (first last from to : ℕ) (label : Label) (out : List Piece) → IsRising ps → first ≤ last → IsAround ps first last from to → IsRising (take from ps ++ (out ++ drop to ps))
    → ((n : ℕ) → at_of (take from ps ++ (out ++ drop to ps)) n ≡ set_to first last label n (at_of ps n))
    → ((front : List Piece) (q : Piece) → take from ps ≡ front ++ q ∷ [] → q.last + 1 ≡ first → label_of q ≡ label → at_of ps first ≡ Some label)
    → ((q : Piece) (back : List Piece) → drop to ps ≡ q ∷ back → last + 1 ≡ q.first → label_of q ≡ label → at_of ps last ≡ Some label)
    → IsApart out → IsApart ps → IsApart (take from ps ++ (out ++ drop to ps))
spliced-apart-joined ps first last from to label out r up near rising same on_left on_right joined a =
    let before = take from ps in
    let middle = take (to - from) (drop from ps) in
    let after = drop to ps in
    let whole = in-three ps from to near.order in
    let apart_three : IsApart (before ++ (middle ++ after)) = rw whole a in
    let apart_after : IsApart after = apart-back middle after (apart-back before (middle ++ after) apart_three) in
    let outside : (n : ℕ) → inside first last n ≡ false → at_of (before ++ (out ++ after)) n ≡ at_of ps n = λ n h. same n ∙ rw h refl in
    let given : (n : ℕ) → inside first last n ≡ true → at_of (before ++ (out ++ after)) n ≡ Some label = λ n h. same n ∙ rw h refl in
    let second : IsApart (out ++ after) =
    apart-append out after joined apart_after (λ front q p back e f.
    let old : ps ≡ (before ++ middle) ++ p ∷ back = sym whole ∙ sym (append_assoc before middle after) ∙ ap (λ l. (before ++ middle) ++ l) f in
    let new : before ++ (out ++ after) ≡ (before ++ front) ++ q ∷ (p ∷ back) = rw (e, f) (simp append_assoc) in
    let above = subst (IsRisingFrom (last + 1)) f near.above in
    λ follows.
    let next : q.last + 1 ≡ p.first = follows.0 in
    let far : last + 1 ≤ p.first = above.0 in
    let kept : at_of (before ++ (out ++ after)) q.last ≡ at_of ps q.last =
    ⊎_elim
    (λ (beyond : last < q.last). outside q.last (grind (arith, nat_tests)))
    (λ (at_end : q.last ≤ last).
    let is : q.last ≡ last = omega arith in
    let here : inside first last q.last ≡ true = grind (arith, nat_tests) in
    let own : at_of (before ++ (out ++ after)) q.last ≡ Some (label_of q) =
    ap (λ l. at_of l q.last) new ∙ at-own 0 (before ++ front) q (p ∷ back) q.last (subst IsRising new rising) (forward-of 0 (before ++ front) q (p ∷ back) (subst IsRising new rising)) (omega arith) in
    let clash : Some (label_of q) ≡ Some label = sym own ∙ given q.last here in
    let label_q : label_of q ≡ label = cc in
    given q.last here ∙ sym (ap (λ (n : ℕ). at_of ps n) is ∙ on_right p back f (omega arith) (sym follows.1 ∙ label_q)))
    (cases_lt last q.last) in
    joint-right (before ++ front) q (before ++ middle) p back (subst IsRising old r) (subst IsApart old a) (subst IsRising new rising)
    (ap (λ l. at_of l q.last) (sym new) ∙ kept ∙ ap (λ l. at_of l q.last) old) follows)
    in
    apart-append before (out ++ after) (apart-front before (middle ++ after) apart_three) second (λ front q p back e f.
    let old : ps ≡ front ++ q ∷ (middle ++ after) = sym whole ∙ rw e (simp append_assoc) in
    let new : before ++ (out ++ after) ≡ (front ++ q ∷ []) ++ (p ∷ back) = rw (e, f) refl in
    let end : end_of 0 before ≡ q.last + 1 = rw e (end_of-append 0 front (q ∷ [])) in
    let low : end_of 0 before ≤ first = near.below in
    λ follows.
    let next : q.last + 1 ≡ p.first = follows.0 in
    let kept : at_of (before ++ (out ++ after)) (q.last + 1) ≡ at_of ps (q.last + 1) =
    ⊎_elim
    (λ (beyond : q.last + 1 < first). outside (q.last + 1) (grind (arith, nat_tests)))
    (λ (at_start : first ≤ q.last + 1).
    let is : q.last + 1 ≡ first = omega arith in
    let here : inside first last (q.last + 1) ≡ true = grind (arith, nat_tests) in
    let forward = forward-of 0 (front ++ q ∷ []) p back (subst IsRising new rising) in
    let own : at_of (before ++ (out ++ after)) (q.last + 1) ≡ Some (label_of p) =
    ap (λ l. at_of l (q.last + 1)) new ∙ at-own 0 (front ++ q ∷ []) p back (q.last + 1) (subst IsRising new rising) (omega arith) (omega arith) in
    let clash : Some (label_of p) ≡ Some label = sym own ∙ given (q.last + 1) here in
    let label_p : label_of p ≡ label = cc in
    given (q.last + 1) here ∙ sym (ap (λ (n : ℕ). at_of ps n) is ∙ on_left front q e is (follows.1 ∙ label_p)))
    (cases_lt (q.last + 1) first) in
    joint-left front q (middle ++ after) p back (subst IsRising old r) (subst IsApart old a) (subst IsRising new rising)
    (ap (λ l. at_of l (q.last + 1)) (sym new) ∙ kept ∙ ap (λ l. at_of l (q.last + 1)) old) follows)

sum-cons : (cost : Piece → ℕ) (p : Piece) (ps : List Piece) → sum_by cost (p ∷ ps) ≡ cost p + sum_by cost ps
sum-cons cost p ps = let e = sum_by-append cost (p ∷ []) ps in omega arith

none-begin_before : (low first : ℕ) (ps : List Piece) → first ≤ low → IsRisingFrom low ps → sum_by (λ p. one_if (nat_lt p.first first)) ps ≡ 0
none-begin_before low first [] le r = omega arith
none-begin_before low first (p ∷ ps) le r =
    let here : low ≤ p.first = r.0 in
    let forward : p.first ≤ p.last = r.1.0 in
    let more = none-begin_before (p.last + 1) first ps (omega arith) r.2 in
    let e : nat_lt p.first first ≡ false = grind (arith, nat_tests) in
    let s = sum-cons (λ q. one_if (nat_lt q.first first)) p ps in
    s ∙ rw (e, more) (omega arith)

one-begins_before : (low first last : ℕ) (ps : List Piece) → IsRisingFrom low ps → AreNear first last ps → sum_by (λ p. one_if (nat_lt p.first first)) ps ≤ 1
one-begins_before low first last [] r near = omega arith
one-begins_before low first last (p ∷ ps) r near =
    let touches : first ≤ p.last + 1 = near.0 in
    let more = none-begin_before (p.last + 1) first ps touches r.2 in
    let s = sum-cons (λ q. one_if (nat_lt q.first first)) p ps in
    let one : one_if (nat_lt p.first first) ≤ 1 = elim (nat_lt p.first first) as (λ b. one_if b ≤ 1) [ true ↦ omega arith | false ↦ omega arith ] in
    omega arith

one-ends_after : (low first last : ℕ) (ps : List Piece) → IsRisingFrom low ps → AreNear first last ps → sum_by (λ p. one_if (nat_lt last p.last)) ps ≤ 1
one-ends_after low first last [] r near = omega arith
one-ends_after low first last (p ∷ []) r near =
    let one : one_if (nat_lt last p.last) ≤ 1 = elim (nat_lt last p.last) as (λ b. one_if b ≤ 1) [ true ↦ omega arith | false ↦ omega arith ] in
    omega arith
one-ends_after low first last (p ∷ q ∷ ps) r near =
    let next : p.last + 1 ≤ q.first = r.2.0 in
    let touches : q.first ≤ last + 1 = near.2.1 in
    let e : nat_lt last p.last ≡ false = grind (arith, nat_tests) in
    let more = one-ends_after (p.last + 1) first last (q ∷ ps) r.2 near.2 in
    let s = sum-cons (λ x. one_if (nat_lt last x.last)) p (q ∷ ps) in
    let none : one_if (nat_lt last p.last) ≡ 0 = rw e refl in
    omega arith

cuts-split : (first last : ℕ) (ps : List Piece) → sum_by (cuts first last) ps ≡ sum_by (λ p. one_if (nat_lt p.first first)) ps + (count_by (meets first last) ps + sum_by (λ p. one_if (nat_lt last p.last)) ps)
cuts-split first last [] = omega arith
cuts-split first last (p ∷ ps) =
    let more = cuts-split first last ps in
    let a = sum-cons (cuts first last) p ps in
    let b = sum-cons (λ x. one_if (nat_lt x.first first)) p ps in
    let d = sum-cons (λ x. one_if (meets first last x)) p ps in
    let e = sum-cons (λ x. one_if (nat_lt last x.last)) p ps in
    omega arith

pub few-cuts : (low first last : ℕ) (ps : List Piece) → IsRisingFrom low ps → AreNear first last ps → sum_by (cuts first last) ps ≤ count_by (meets first last) ps + 2
few-cuts low first last ps r near =
    let a = one-begins_before low first last ps r near in
    let b = one-ends_after low first last ps r near in
    let e = cuts-split first last ps in
    omega arith

cut-once : (first last : ℕ) (p : Piece) → first ≤ last → p.first ≤ p.last → 1 ≤ cuts first last p
cut-once first last p up forward =
    ⊎_elim
    (λ (before : p.first < first). let e : nat_lt p.first first ≡ true = grind (arith, nat_tests) in rw e (omega arith))
    (λ (from : first ≤ p.first).
    ⊎_elim
    (λ (after : last < p.last). let e : nat_lt last p.last ≡ true = grind (arith, nat_tests) in rw e (omega arith))
    (λ (to : p.last ≤ last). let e : meets first last p ≡ true = grind (arith, nat_tests) in rw e (omega arith))
    (cases_lt last p.last))
    (cases_lt p.first first)

pub length-cuts : (low first last : ℕ) (ps : List Piece) → first ≤ last → IsRisingFrom low ps → length ps ≤ sum_by (cuts first last) ps
length-cuts low first last [] up r = omega arith
length-cuts low first last (p ∷ ps) up r =
    let more = length-cuts (p.last + 1) first last ps up r.2 in
    let one = cut-once first last p up r.1.0 in
    let s = sum-cons (cuts first last) p ps in
    omega arith

pub count-middle : (test : Piece → Bool) (before middle after : List Piece) → count_by test middle ≤ count_by test (before ++ (middle ++ after))
count-middle test before middle after =
    let a = sum_by-append (λ p. one_if (test p)) before (middle ++ after) in
    let b = sum_by-append (λ p. one_if (test p)) middle after in
    omega arith
