-- A list of pieces in which a window is changed: all pieces that a range meets or is next to are in it.
use Rattle.std.proofs.Common.{◌≡◌, ℕ, ◌+◌, ◌-◌, ◌<◌, ◌≤◌, List, [], ◌∷◌, ◌++◌, false, Some, None, length, refl, ap, sym, subst, ◌∙◌, ⊎_elim, arith, append_assoc}
use Rattle.std.specs.List.{count_by}
use Rattle.std.proofs.lemmas.Bool.{cases_lt}
use Rattle.std.proofs.lemmas.Bool.Decides.{nat_tests}
use Rattle.goo_types.specs.declared.place.Place.{Place}
use Rattle.goo_types.specs.declared.piece.Piece.{Piece}
use Rattle.goo_types.specs.Piece.{Label, label_of, at_of, IsRising, IsRisingFrom}
use Rattle.goo_spec.specs.Runs.{IsApart}
use Rattle.goo_ranges.specs.declared.edits.Edit.{Edit}
use Rattle.goo_ranges_pieces.specs.Walk.{end_of}
use Rattle.goo_ranges_pieces.specs.Change.{inside, moved, set_to, meets}
use Rattle.goo_ranges.specs.Edit.{IsExact}
use Rattle.goo_ranges_pieces.proofs.Changing.{or_else-none}
use Rattle.goo_ranges_pieces.proofs.Covers.{covers-inside, covers-above, or_else, at_of-append}
use Rattle.goo_ranges.proofs.Maximal.{apart-front, apart-back, apart-append, joint-left, joint-right}
use Rattle.goo_ranges_pieces.proofs.Rising.{end_of-append, end_of-low, rising-weaken, rising-append, rising-front, rising-back, at_of-below, at_of-above}
use Rattle.goo_ranges.proofs.Splicing.{count-middle}

-- a list begins no earlier than another one where its map is the same before that
pub from-start : (base : ℕ) (old new : List Piece) → IsRisingFrom base old → IsRising new → ((n : ℕ) → n < base → at_of new n ≡ at_of old n) → IsRisingFrom base new
from-start base old [] r s kept = tt
from-start base old (q ∷ qs) r s kept = ⊎_elim
    (λ (low : q.first < base).
    let none = at_of-below base old q.first r low in
    let forward : q.first ≤ q.last = s.1.0 in
    let own = covers-inside q q.first (omega arith) forward in
    let here : at_of (q ∷ qs) q.first ≡ Some (label_of q) = rw own refl in
    let bad : Some (label_of q) ≡ None = sym here ∙ kept q.first low ∙ none in
    absurd (cc))
    (λ (up : base ≤ q.first). (up, s.1, s.2))
    (cases_lt q.first base)

-- the last number of a rising list is in it
at-end : (low : ℕ) (p : Piece) (ps : List Piece) → IsRisingFrom low (p ∷ ps) → (label : Label) × (at_of (p ∷ ps) (end_of low (p ∷ ps) - 1) ≡ Some label)
at-end low p [] r =
    let forward : p.first ≤ p.last = r.1.0 in
    let last : p.last + 1 - 1 ≡ p.last = omega arith in
    let own = covers-inside p p.last forward (omega arith) in
    (label_of p, rw (last, own) refl)
at-end low p (q ∷ ps) r =
    let rest = at-end (p.last + 1) q ps r.2 in
    let next : p.last + 1 ≤ q.first = r.2.0 in
    let forward : q.first ≤ q.last = r.2.1.0 in
    let up = end_of-low (q.last + 1) ps r.2.2 in
    let past : p.last < end_of (q.last + 1) ps - 1 = omega (arith, next, forward, up) in
    let out = covers-above p (end_of (q.last + 1) ps - 1) past in
    (rest.0, rw out rest.1)

-- and ends no later where it is the same behind
pub to-end : (base last : ℕ) (old new after : List Piece) → IsRisingFrom base old → IsRisingFrom base new → IsRisingFrom (end_of base old) after → IsRisingFrom (last + 2) after → ((n : ℕ) → last < n → at_of new n ≡ at_of old n) → IsRisingFrom (end_of base new) after
to-end base last old [] after r s t above kept = rising-weaken base (end_of base old) after (end_of-low base old r) t
to-end base last old (q ∷ qs) [] r s t above kept = tt
to-end base last old (q ∷ qs) (b ∷ bs) r s t above kept = ⊎_elim
    (λ (past : b.first < end_of base (q ∷ qs)).
    let there = at-end base q qs s in
    let high : last + 2 ≤ b.first = above.0 in
    let ended : end_of base old ≤ b.first = t.0 in
    let n : ℕ = end_of base (q ∷ qs) - 1 in
    let behind : last < n = omega (arith, past, high) in
    let beyond : end_of base old ≤ n = omega (arith, past, ended) in
    let none = at_of-above base old n r beyond in
    let bad : Some there.0 ≡ None = sym there.1 ∙ kept n behind ∙ none in
    absurd (cc))
    (λ (le : end_of base (q ∷ qs) ≤ b.first). (le, t.1, t.2))
    (cases_lt b.first (end_of base (q ∷ qs)))

module _ (front old new after : List Piece) (first last : ℕ) (r : IsRising (front ++ (old ++ after))) (s : IsRising new) (up : first ≤ last) (below : end_of 0 front < first) (above : IsRisingFrom (last + 2) after) (kept : (n : ℕ) → inside first last n ≡ false → at_of new n ≡ at_of old n) where
  front_rising : IsRising front
  front_rising = rising-front 0 front (old ++ after) r

  rest_rising : IsRisingFrom (end_of 0 front) (old ++ after)
  rest_rising = rising-back 0 front (old ++ after) r

  old_rising : IsRisingFrom (end_of 0 front) old
  old_rising = rising-front (end_of 0 front) old after rest_rising

  before : (n : ℕ) → n < first → at_of new n ≡ at_of old n
  before n lt = let out : inside first last n ≡ false = grind (arith, nat_tests) in kept n out

  behind : (n : ℕ) → last < n → at_of new n ≡ at_of old n
  behind n lt = let out : inside first last n ≡ false = grind (arith, nat_tests) in kept n out

  new_rising : IsRisingFrom (end_of 0 front) new
  new_rising = from-start (end_of 0 front) old new old_rising s (λ n lt. before n (omega (arith, below, lt)))

  pub window-rising : IsRising (front ++ (new ++ after))
  window-rising =
      let base = end_of 0 front in
      rising-append 0 front (new ++ after) front_rising
      (rising-append base new after new_rising (to-end base last old new after old_rising new_rising (rising-back base old after rest_rising) above behind))

  split_at : (middle : List Piece) (n : ℕ) → at_of (front ++ (middle ++ after)) n ≡ or_else (at_of front n) (or_else (at_of middle n) (at_of after n))
  split_at middle n = at_of-append front (middle ++ after) n ∙ ap (λ o. or_else (at_of front n) o) (at_of-append middle after n)

  pub window-kept : (n : ℕ) → inside first last n ≡ false → at_of (front ++ (new ++ after)) n ≡ at_of (front ++ (old ++ after)) n
  window-kept n out = split_at new n ∙ ap (λ o. or_else (at_of front n) (or_else o (at_of after n))) (kept n out) ∙ sym (split_at old n)

  -- the numbers of the range are in the window alone
  pub window-own : (middle : List Piece) (n : ℕ) → first ≤ n → n ≤ last → at_of (front ++ (middle ++ after)) n ≡ at_of middle n
  window-own middle n from to =
      let x = at_of-above 0 front n front_rising (omega (arith, below, from)) in
      let y = at_of-below (last + 2) after n above (omega (arith, to)) in
      split_at middle n ∙ rw (x, y) (or_else-none (at_of middle n))

  pub window-apart : IsApart new → IsApart (front ++ (old ++ after)) → IsApart (front ++ (new ++ after))
  window-apart apart a =
      let rising = window-rising in
      let apart_after : IsApart after = apart-back old after (apart-back front (old ++ after) a) in
      let second : IsApart (new ++ after) =
      apart-append new after apart apart_after (λ start q p back e f.
      let was : front ++ (old ++ after) ≡ (front ++ old) ++ p ∷ back = sym (append_assoc front old after) ∙ ap (λ l. (front ++ old) ++ l) f in
      let is : front ++ (new ++ after) ≡ (front ++ start) ++ q ∷ (p ∷ back) = rw (e, f) (simp append_assoc) in
      let high = subst (IsRisingFrom (last + 2)) f above in
      λ follows.
      let next : q.last + 1 ≡ p.first = follows.0 in
      let far : last + 2 ≤ p.first = high.0 in
      let out_of_it : inside first last q.last ≡ false = grind (arith, nat_tests) in
      joint-right (front ++ start) q (front ++ old) p back (subst IsRising was r) (subst IsApart was a) (subst IsRising is rising)
      (ap (λ l. at_of l q.last) (sym is) ∙ window-kept q.last out_of_it ∙ ap (λ l. at_of l q.last) was) follows)
      in
      apart-append front (new ++ after) (apart-front front (old ++ after) a) second (λ start q p back e f.
      let was : front ++ (old ++ after) ≡ start ++ q ∷ (old ++ after) = rw e (simp append_assoc) in
      let is : front ++ (new ++ after) ≡ (start ++ q ∷ []) ++ (p ∷ back) = rw (e, f) refl in
      let end : end_of 0 front ≡ q.last + 1 = rw e (end_of-append 0 start (q ∷ [])) in
      let out_of_it : inside first last (q.last + 1) ≡ false = grind (arith, nat_tests) in
      joint-left start q (old ++ after) p back (subst IsRising was r) (subst IsApart was a) (subst IsRising is rising)
      (ap (λ l. at_of l (q.last + 1)) (sym is) ∙ window-kept (q.last + 1) out_of_it ∙ ap (λ l. at_of l (q.last + 1)) was))

-- what is outside a range stays
pub moved-out : (first last : ℕ) (place : Place) (old new : List Piece) → ((n : ℕ) → at_of new n ≡ moved first last place n (at_of old n)) → (n : ℕ) → inside first last n ≡ false → at_of new n ≡ at_of old n
moved-out first last place old new same n out = let e = same n in rw out at e

pub set-out : (first last : ℕ) (label : Label) (old new : List Piece) → ((n : ℕ) → at_of new n ≡ set_to first last label n (at_of old n)) → (n : ℕ) → inside first last n ≡ false → at_of new n ≡ at_of old n
set-out first last label old new same n out = let e = same n in rw out at e

module _ (front old new after : List Piece) (first last : ℕ) (r : IsRising (front ++ (old ++ after))) (s : IsRising new) (up : first ≤ last) (below : end_of 0 front < first) (above : IsRisingFrom (last + 2) after) where
  pub window-moved : (place : Place) → ((n : ℕ) → at_of new n ≡ moved first last place n (at_of old n)) → (n : ℕ) → at_of (front ++ (new ++ after)) n ≡ moved first last place n (at_of (front ++ (old ++ after)) n)
  window-moved place same n =
      let kept = moved-out first last place old new same in
      let outside : inside first last n ≡ false → at_of (front ++ (new ++ after)) n ≡ moved first last place n (at_of (front ++ (old ++ after)) n) =
      λ out. rw out (window-kept front old new after first last r s up below above kept n out)
      in
      ⊎_elim
      (λ (lt : n < first). outside (grind (arith, nat_tests)))
      (λ (from : first ≤ n).
      ⊎_elim
      (λ (gt : last < n). outside (grind (arith, nat_tests)))
      (λ (to : n ≤ last).
      window-own front old new after first last r s up below above kept new n from to
      ∙ same n
      ∙ ap (moved first last place n) (sym (window-own front old new after first last r s up below above kept old n from to)))
      (cases_lt last n))
      (cases_lt n first)

  pub window-set : (label : Label) → ((n : ℕ) → at_of new n ≡ set_to first last label n (at_of old n)) → (n : ℕ) → at_of (front ++ (new ++ after)) n ≡ set_to first last label n (at_of (front ++ (old ++ after)) n)
  window-set label same n =
      let kept = set-out first last label old new same in
      let outside : inside first last n ≡ false → at_of (front ++ (new ++ after)) n ≡ set_to first last label n (at_of (front ++ (old ++ after)) n) =
      λ out. rw out (window-kept front old new after first last r s up below above kept n out)
      in
      ⊎_elim
      (λ (lt : n < first). outside (grind (arith, nat_tests)))
      (λ (from : first ≤ n).
      ⊎_elim
      (λ (gt : last < n). outside (grind (arith, nat_tests)))
      (λ (to : n ≤ last).
      window-own front old new after first last r s up below above kept new n from to
      ∙ same n
      ∙ ap (set_to first last label n) (sym (window-own front old new after first last r s up below above kept old n from to)))
      (cases_lt last n))
      (cases_lt n first)

-- an edit of the window is one of the whole
pub window-exact : (front old new after : List Piece) (edit : Edit) → IsExact old new edit → IsExact (front ++ (old ++ after)) (front ++ (new ++ after)) edit
window-exact front old new after edit x = record {
  before = front ++ x.before;
  deleted = x.deleted;
  after = x.after ++ after;
  was = ap (λ l. front ++ (l ++ after)) x.was ∙ simp append_assoc;
  becomes = ap (λ l. front ++ (l ++ after)) x.becomes ∙ simp append_assoc;
  named = x.named;
}

pub window-few : (front old after : List Piece) (first last : ℕ) (edit : Edit) → (let most = count_by (meets first last) old + 2 in (length edit.delete.items ≤ most) × (length edit.insert.items ≤ most)) → (let most = count_by (meets first last) (front ++ (old ++ after)) + 2 in (length edit.delete.items ≤ most) × (length edit.insert.items ≤ most))
window-few front old after first last edit few =
    let part = count-middle (meets first last) front old after in
    let one = few.0 in
    let two = few.1 in
    (omega (arith, part, one), omega (arith, part, two))
