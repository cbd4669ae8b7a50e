-- The part of a list of pieces within bounds, and a range that is set.
use Rattle.std.proofs.Common.{◌≡◌, ℕ, suc, ◌+◌, ◌-◌, ◌<◌, ◌≤◌, List, [], ◌∷◌, ◌++◌, true, false, cond, Option, Some, None, length, take, drop, refl, ap, sym, ◌∙◌, ⊎_elim, arith, append_assoc, length-append}
use Rattle.std.specs.Prelude.{max, min, slice_get}
use Rattle.std.specs.Option.{option_to_list}
use Rattle.std.proofs.lemmas.Bool.{cases_lt}
use Rattle.std.proofs.lemmas.Bool.Decides.{nat_tests}
use Rattle.goo_types.specs.declared.piece.Piece.{Piece}
use Rattle.goo_types.specs.Piece.{Label, label_of, at_of, IsForward, IsRising, IsRisingFrom}
use Rattle.goo_ranges_pieces.specs.Walk.{end_of}
use Rattle.goo_ranges_pieces.specs.Joining.{IsJoining}
use Rattle.goo_ranges_pieces.specs.Touching.{IsAround}
use Rattle.std.specs.List.{count_by}
use Rattle.std.proofs.lemmas.List.Sums.{sum_by-append}
use Rattle.goo_ranges_pieces.specs.Change.{inside, meets, one_if, kept, set_to, IsPart, IsKept, IsSet}
use Rattle.goo_types.specs.Number.{code_of}
use Rattle.goo_ranges_pieces.proofs.Covers.{covers-inside, covers-below, covers-above, or_else, at_of-append}
use Rattle.goo_ranges_pieces.proofs.Changing.{or_else-none, end_of-mono, part-inside, part-below, part-above, part-rising, part-end}
use Rattle.goo_ranges_pieces.proofs.Rising.{end_of-append, end_of-low, rising-weaken, rising-append, rising-front, rising-back, at_of-below, at_of-above}
use Rattle.goo_ranges_pieces.proofs.Touching.{in-three}
use Rattle.goo_spec.specs.Runs.{IsApart}
use Rattle.goo_ranges_pieces.proofs.Joining.{joining-append, joining-prepend}
use Rattle.goo_ranges.proofs.Splicing.{spliced-apart-joined}

pub kept-none : (low high n : ℕ) → kept low high n None ≡ None
kept-none low high n = elim (inside low high n) as (λ b. cond {A = Option Label} b None None ≡ None) [ true ↦ refl | false ↦ refl ]

pub kept-nil : (low high : ℕ) → IsKept low high [] []
kept-nil low high = record { same = λ base r n. sym (kept-none low high n); rising = λ base r. tt; within = λ base r. omega arith; few = omega arith }

kept-piece : (low high : ℕ) (p : Piece) (o : Option Piece) (n : ℕ) → IsPart p low high p.place o → at_of (option_to_list o) n ≡ kept low high n (at_of (p ∷ []) n)
kept-piece low high p o n is =
    ⊎_elim
    (λ (before : n < low). let e = part-below p low high p.place o n is before in let out : inside low high n ≡ false = grind (arith, nat_tests) in rw (e, out) refl)
    (λ (from : low ≤ n).
    ⊎_elim
    (λ (after : high < n). let e = part-above p low high p.place o n is after in let out : inside low high n ≡ false = grind (arith, nat_tests) in rw (e, out) refl)
    (λ (to : n ≤ high). let e = part-inside p low high p.place o n is from to in let here : inside low high n ≡ true = grind (arith, nat_tests) in rw (e, here) refl)
    (cases_lt high n))
    (cases_lt n low)

part-few : (low high : ℕ) (p : Piece) (o : Option Piece) → IsPart p low high p.place o → length (option_to_list o) ≤ one_if (meets low high p)
part-few low high p None is = elim (meets low high p) as (λ b. 0 ≤ one_if b) [ true ↦ omega arith | false ↦ omega arith ]
part-few low high p (Some q) is =
    let starts : q.first ≡ max p.first low = is.first in
    let ends : q.last ≡ min p.last high = is.last in
    let forward : q.first ≤ q.last = is.forward.0 in
    let e : meets low high p ≡ true = grind (arith, nat_tests) in
    rw e (omega arith)

-- one more piece, cut to the bounds
pub kept-more : (low high : ℕ) (xs us : List Piece) (p : Piece) (o : Option Piece) → IsKept low high xs us → IsPart p low high p.place o → IsKept low high (xs ++ p ∷ []) (us ++ option_to_list o)
kept-more low high xs us p o a is = record {
  same = λ base r n.
      let front = rising-front base xs (p ∷ []) r in
      let back = rising-back base xs (p ∷ []) r in
      let e = a.same base front n in
      let f = kept-piece low high p o n is in
      ⊎_elim
      (λ (before : n < end_of base xs).
      let g = at_of-below (end_of base xs) (p ∷ []) n back before in
      at_of-append us (option_to_list o) n ∙ rw (e, f, at_of-append, g, kept-none, or_else-none, or_else-none) refl)
      (λ (after : end_of base xs ≤ n).
      let g = at_of-above base xs n front after in
      at_of-append us (option_to_list o) n ∙ rw (e, f, at_of-append, g, kept-none) refl)
      (cases_lt n (end_of base xs));
  rising = λ base r.
      let front = rising-front base xs (p ∷ []) r in
      let back = rising-back base xs (p ∷ []) r in
      let here : end_of base xs ≤ p.first = back.0 in
      let start = end_of-low base xs front in
      let end = a.within base front in
      rising-append (max base low) us (option_to_list o) (a.rising base front) (part-rising p low high p.place o (end_of (max base low) us) is (omega arith));
  within = λ base r.
      let front = rising-front base xs (p ∷ []) r in
      let back = rising-back base xs (p ∷ []) r in
      let here : end_of base xs ≤ p.first = back.0 in
      let forward : p.first ≤ p.last = back.1.0 in
      let end = a.within base front in
      let last = part-end p low high p.place o (end_of (max base low) us) is in
      rw (end_of-append, end_of-append) (omega arith);
  few =
      let part = part-few low high p o is in
      let front : length us ≤ count_by (meets low high) xs = a.few in
      let counted = sum_by-append (λ x. one_if (meets low high x)) xs (p ∷ []) in
      let size = length-append us (option_to_list o) in
      omega arith;
}

pub kept-joining : (low high : ℕ) (old new short : List Piece) → IsKept low high old new → IsJoining new short → IsKept low high old short
kept-joining low high old new short a j = record {
  same = λ base r n. j.same (max base low) (a.rising base r) n ∙ a.same base r n;
  rising = λ base r. j.rising (max base low) (a.rising base r);
  within = λ base r. let e = j.ends (max base low) in let w = a.within base r in omega arith;
  few = let one : length new ≤ count_by (meets low high) old = a.few in let two : length short ≤ length new = j.few in omega arith;
}

pub rising-max : (a b : ℕ) (ps : List Piece) → IsRisingFrom a ps → IsRisingFrom b ps → IsRisingFrom (max a b) ps
rising-max a b [] r s = tt
rising-max a b (p ∷ ps) r s = let one : a ≤ p.first = r.0 in let two : b ≤ p.first = s.0 in (omega arith, r.1, r.2)

-- a book's block with a range set, as a whole
module _ (ps : List Piece) (first last from to : ℕ) (label : Label) (out : List Piece) (r : IsRising ps) (one_code : code_of first ≡ code_of last) (up : first ≤ last) (near : IsAround ps first last from to) (set : IsSet first last label (take (to - from) (drop from ps)) out) where
  three : IsRising (take from ps ++ (take (to - from) (drop from ps) ++ drop to ps))
  three = rw (in-three ps from to near.order) r

  before_rising : IsRising (take from ps)
  before_rising = rising-front 0 (take from ps) (take (to - from) (drop from ps) ++ drop to ps) three

  rest_rising : IsRisingFrom (end_of 0 (take from ps)) (take (to - from) (drop from ps) ++ drop to ps)
  rest_rising = rising-back 0 (take from ps) (take (to - from) (drop from ps) ++ drop to ps) three

  middle_rising : IsRisingFrom (end_of 0 (take from ps)) (take (to - from) (drop from ps))
  middle_rising = rising-front (end_of 0 (take from ps)) (take (to - from) (drop from ps)) (drop to ps) rest_rising

  pub set-rising : IsRising (take from ps ++ (out ++ drop to ps))
  set-rising =
      let b = end_of 0 (take from ps) in
      let low : b ≤ first = near.below in
      let some : 1 ≤ first = near.some in
      let old = take (to - from) (drop from ps) in
      let begins : set.middle.first ≡ first = set.begins in
      let stops : set.middle.last ≡ last = set.stops in
      let left = set.before.rising b middle_rising in
      let left_end = set.before.within b middle_rising in
      let mono = end_of-mono b (max b 0) set.left (omega arith) in
      let right = set.after.rising b middle_rising in
      let right_end = set.after.within b middle_rising in
      let mono_right = end_of-mono (set.middle.last + 1) (max b (last + 1)) set.right (omega arith) in
      let after = rising-max (last + 1) (end_of b old) (drop to ps) near.above (rising-back b old (drop to ps) rest_rising) in
      let forward : IsForward set.middle = (omega arith, rw (begins, stops) one_code) in
      let block : IsRisingFrom b (set.left ++ set.middle ∷ (set.right ++ drop to ps)) =
      rising-append b set.left (set.middle ∷ (set.right ++ drop to ps)) (rising-weaken b (max b 0) set.left (omega arith) left) (
        omega arith,
        forward,
        rising-append (set.middle.last + 1) set.right (drop to ps) (rising-weaken (set.middle.last + 1) (max b (last + 1)) set.right (omega arith) right)
            (rising-weaken (end_of (set.middle.last + 1) set.right) (max (last + 1) (end_of b old)) (drop to ps) (omega arith) after),
      )
      in
      let e : out ++ drop to ps ≡ set.left ++ set.middle ∷ (set.right ++ drop to ps) = rw set.whole (append_assoc set.left (set.middle ∷ set.right) (drop to ps)) in
      rising-append 0 (take from ps) (out ++ drop to ps) before_rising (rw e block)

  pub set-same : (n : ℕ) → at_of (take from ps ++ (out ++ drop to ps)) n ≡ set_to first last label n (at_of ps n)
  set-same n =
      let b = end_of 0 (take from ps) in
      let low : b ≤ first = near.below in
      let some : 1 ≤ first = near.some in
      let old = take (to - from) (drop from ps) in
      let begins : set.middle.first ≡ first = set.begins in
      let stops : set.middle.last ≡ last = set.stops in
      let el = set.before.same b middle_rising n in
      let er = set.after.same b middle_rising n in
      let whole : at_of ps n ≡ at_of (take from ps ++ (old ++ drop to ps)) n = rw (in-three ps from to near.order) refl in
      let split : at_of (take from ps ++ (out ++ drop to ps)) n ≡ or_else (at_of (take from ps) n) (or_else (or_else (at_of set.left n) (at_of (set.middle ∷ set.right) n)) (at_of (drop to ps) n)) =
      rw (at_of-append, at_of-append, set.whole, at_of-append) refl
      in
      let split_old : at_of (take from ps ++ (old ++ drop to ps)) n ≡ or_else (at_of (take from ps) n) (or_else (at_of old n) (at_of (drop to ps) n)) = rw (at_of-append, at_of-append) refl in
      ⊎_elim
      (λ (before : n < first).
      let one : inside 0 (first - 1) n ≡ true = grind (arith, nat_tests) in
      let two : inside (last + 1) set.end n ≡ false = grind (arith, nat_tests) in
      let three_of : inside first last n ≡ false = grind (arith, nat_tests) in
      let cov = covers-below set.middle n (omega arith) in
      rw (split, cov, el, er, one, two, whole, split_old, three_of, or_else-none) refl)
      (λ (from_first : first ≤ n).
      let one : inside 0 (first - 1) n ≡ false = grind (arith, nat_tests) in
      ⊎_elim
      (λ (after : last < n).
      let three_of : inside first last n ≡ false = grind (arith, nat_tests) in
      let cov = covers-above set.middle n (omega arith) in
      ⊎_elim
      (λ (beyond : set.end < n).
      let two : inside (last + 1) set.end n ≡ false = grind (arith, nat_tests) in
      let ends : end_of 0 old ≤ set.end + 1 = set.ends in
      let gone = at_of-above 0 old n (rising-weaken 0 b old (omega arith) middle_rising) (omega arith) in
      rw (split, cov, el, er, one, two, whole, split_old, three_of, gone) refl)
      (λ (there : n ≤ set.end).
      let two : inside (last + 1) set.end n ≡ true = grind (arith, nat_tests) in
      rw (split, cov, el, er, one, two, whole, split_old, three_of) refl)
      (cases_lt set.end n))
      (λ (to_last : n ≤ last).
      let three_of : inside first last n ≡ true = grind (arith, nat_tests) in
      let cov = covers-inside set.middle n (omega arith) (omega arith) in
      let x = at_of-above 0 (take from ps) n before_rising (omega arith) in
      rw (split, cov, el, one, whole, split_old, three_of, x) (ap Some set.labelled))
      (cases_lt last n))
      (cases_lt n first)

pub last-end : (low : ℕ) (ps : List Piece) (p : Piece) → Some p ≡ slice_get ps (length ps - 1) → end_of low ps ≡ p.last + 1
last-end low [] p h = cc
last-end low (q ∷ []) p h = let e : p ≡ q = cc in rw e refl
last-end low (q ∷ r ∷ ps) p h =
    let e : suc (suc (length ps)) - 1 ≡ suc (length ps) = omega arith in
    let f : suc (length ps) - 1 ≡ length ps = omega arith in
    let k = rw e at h in
    last-end (q.last + 1) (r ∷ ps) p (rw f k)

-- the same where the block is joined as well
module _ (ps : List Piece) (first last from to : ℕ) (label : Label) (cut out : List Piece) (r : IsRising ps) (one_code : code_of first ≡ code_of last) (up : first ≤ last) (near : IsAround ps first last from to) (set : IsSet first last label (take (to - from) (drop from ps)) cut) where
  pub cut-rising : IsRising cut
  cut-rising =
      let whole = set-rising ps first last from to label cut r one_code up near set in
      let middle = rising-front (end_of 0 (take from ps)) cut (drop to ps) (rising-back 0 (take from ps) (cut ++ drop to ps) whole) in
      rising-weaken 0 (end_of 0 (take from ps)) cut (omega arith) middle

  module _ (joined : IsJoining cut out) where
    all-joined : IsJoining (take from ps ++ (cut ++ drop to ps)) (take from ps ++ (out ++ drop to ps))
    all-joined = joining-prepend (take from ps) (cut ++ drop to ps) (out ++ drop to ps) (joining-append cut out (drop to ps) joined)

    pub added-rising : IsRising (take from ps ++ (out ++ drop to ps))
    added-rising = all-joined.rising 0 (set-rising ps first last from to label cut r one_code up near set)

    pub added-same : (n : ℕ) → at_of (take from ps ++ (out ++ drop to ps)) n ≡ set_to first last label n (at_of ps n)
    added-same n = all-joined.same 0 (set-rising ps first last from to label cut r one_code up near set) n ∙ set-same ps first last from to label cut r one_code up near set n

    module _ (before : (front : List Piece) (q : Piece) → take from ps ≡ front ++ q ∷ [] → q.last + 1 ≡ first → label_of q ≡ label → at_of ps first ≡ Some label)
        (after : (q : Piece) (back : List Piece) → drop to ps ≡ q ∷ back → last + 1 ≡ q.first → label_of q ≡ label → at_of ps last ≡ Some label) where
      pub added-apart : IsApart out → IsApart ps → IsApart (take from ps ++ (out ++ drop to ps))
      added-apart apart a = spliced-apart-joined ps first last from to label out r up near added-rising added-same before after apart a

    pub added-few : (most : ℕ) → length set.left + (1 + length set.right) ≤ most → length out ≤ most
    added-few most few =
        let size : length cut ≡ length set.left + length (set.middle ∷ set.right) = rw set.whole (length-append set.left (set.middle ∷ set.right)) in
        let short : length out ≤ length cut = joined.few in
        omega arith
