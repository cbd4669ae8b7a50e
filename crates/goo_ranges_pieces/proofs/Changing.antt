-- Changed lists of pieces.
use Rattle.std.proofs.Common.{◌≡◌, ℕ, ◌+◌, ◌-◌, ◌<◌, ◌≤◌, List, [], ◌∷◌, ◌++◌, Bool, true, false, cond, Option, Some, None, length, refl, ap, sym, ◌∙◌, ⊎_elim, arith, length-append}
use Rattle.std.specs.Prelude.{max, min, sum_by, nat_lt}
use Rattle.std.specs.Option.{option_to_list}
use Rattle.std.proofs.lemmas.Bool.{cases_lt}
use Rattle.std.proofs.lemmas.List.Sums.{sum_by-append}
use Rattle.std.proofs.lemmas.Bool.Decides.{nat_tests}
use Rattle.goo_types.specs.declared.place.Place.{Place}
use Rattle.goo_types.specs.declared.piece.Piece.{Piece}
use Rattle.goo_types.specs.Piece.{Label, label_of, covers, at_of, IsRisingFrom}
use Rattle.goo_ranges_pieces.specs.Walk.{end_of}
use Rattle.goo_ranges_pieces.specs.Joining.{IsJoining}
use Rattle.goo_ranges_pieces.specs.Change.{inside, moved, meets, one_if, cuts, IsPart, IsChanged}
use Rattle.goo_ranges_pieces.proofs.Covers.{covers-inside, covers-below, covers-above, or_else, at_of-append}
use Rattle.goo_ranges_pieces.proofs.Rising.{end_of-append, rising-weaken, rising-append, rising-front, rising-back, at_of-below, at_of-above}

pub end_of-mono : (low high : ℕ) (ps : List Piece) → low ≤ high → end_of low ps ≤ end_of high ps
end_of-mono low high [] h = h
end_of-mono low high (p ∷ ps) h = omega arith

pub or_else-none : {A : Type 0} (o : Option A) → or_else o None ≡ o
or_else-none None = refl
or_else-none (Some x) = refl

module _ (change : ℕ → Option Label → Option Label) (cost : Piece → ℕ) (none : (n : ℕ) → change n None ≡ None) where
  pub changed-nil : IsChanged change cost [] []
  changed-nil = record { same = λ low r n. sym (none n); rising = λ low r. tt; within = λ low r. omega arith; few = omega arith }

  pub changed-joining : (old new short : List Piece) → IsChanged change cost old new → IsJoining new short → IsChanged change cost old short
  changed-joining old new short a j =
      let one : length new ≤ sum_by cost old = a.few in
      let two : length short ≤ length new = j.few in
      record {
        same = λ low r n. j.same low (a.rising low r) n ∙ a.same low r n;
        rising = λ low r. j.rising low (a.rising low r);
        within = λ low r. let e = j.ends low in let w = a.within low r in omega arith;
        few = omega arith;
      }

  pub changed-append : (xs ys us vs : List Piece) → IsChanged change cost xs us → IsChanged change cost ys vs → IsChanged change cost (xs ++ ys) (us ++ vs)
  changed-append xs ys us vs a b =
      let one : length us ≤ sum_by cost xs = a.few in
      let two : length vs ≤ sum_by cost ys = b.few in
      record {
        same = λ low r n.
            let front = rising-front low xs ys r in
            let back = rising-back low xs ys r in
            let e = a.same low front n in
            let f = b.same (end_of low xs) back n in
            ⊎_elim
            (λ (before : n < end_of low xs).
            let g = at_of-below (end_of low xs) ys n back before in
            at_of-append us vs n ∙ rw (e, f, at_of-append, g, none, or_else-none, or_else-none) refl)
            (λ (after : end_of low xs ≤ n).
            let g = at_of-above low xs n front after in
            at_of-append us vs n ∙ rw (e, f, at_of-append, g, none) refl)
            (cases_lt n (end_of low xs));
        rising = λ low r.
            let front = rising-front low xs ys r in
            let back = rising-back low xs ys r in
            rising-append low us vs (a.rising low front) (rising-weaken (end_of low us) (end_of low xs) vs (a.within low front) (b.rising (end_of low xs) back));
        within = λ low r.
            let front = rising-front low xs ys r in
            let back = rising-back low xs ys r in
            let m = end_of-mono (end_of low us) (end_of low xs) vs (a.within low front) in
            let w = b.within (end_of low xs) back in
            rw (end_of-append low us vs, end_of-append low xs ys) (omega arith);
        few = rw (length-append us vs, sum_by-append cost xs ys) (omega arith);
      }

-- what a part has at a number of its bounds
pub part-inside : (p : Piece) (low high : ℕ) (place : Place) (o : Option Piece) (n : ℕ) → IsPart p low high place o → low ≤ n → n ≤ high → at_of (option_to_list o) n ≡ cond (covers p n) (Some (p.lot, place)) None
part-inside p low high place None n is above below =
    ⊎_elim
    (λ (before : n < p.first). let e = covers-below p n before in rw e refl)
    (λ (from : p.first ≤ n). let after : p.last < n = omega arith in let e = covers-above p n after in rw e refl)
    (cases_lt n p.first)
part-inside p low high place (Some q) n is above below =
    let first : q.first ≡ max p.first low = is.first in
    let last : q.last ≡ min p.last high = is.last in
    ⊎_elim
    (λ (before : n < p.first). let e = covers-below p n before in let f = covers-below q n (omega arith) in rw (e, f) refl)
    (λ (from : p.first ≤ n).
    ⊎_elim
    (λ (after : p.last < n). let e = covers-above p n after in let f = covers-above q n (omega arith) in rw (e, f) refl)
    (λ (to : n ≤ p.last).
    let e = covers-inside p n from to in
    let f = covers-inside q n (omega arith) (omega arith) in
    rw (e, f) (ap Some is.label))
    (cases_lt p.last n))
    (cases_lt n p.first)

pub part-below : (p : Piece) (low high : ℕ) (place : Place) (o : Option Piece) (n : ℕ) → IsPart p low high place o → n < low → at_of (option_to_list o) n ≡ None
part-below p low high place None n is below = refl
part-below p low high place (Some q) n is below =
    let first : q.first ≡ max p.first low = is.first in
    let f = covers-below q n (omega arith) in
    rw f refl

pub part-above : (p : Piece) (low high : ℕ) (place : Place) (o : Option Piece) (n : ℕ) → IsPart p low high place o → high < n → at_of (option_to_list o) n ≡ None
part-above p low high place None n is above = refl
part-above p low high place (Some q) n is above =
    let last : q.last ≡ min p.last high = is.last in
    let f = covers-above q n (omega arith) in
    rw f refl

pub part-rising : (p : Piece) (low high : ℕ) (place : Place) (o : Option Piece) (base : ℕ) → IsPart p low high place o → base ≤ max p.first low → IsRisingFrom base (option_to_list o)
part-rising p low high place None base is le = tt
part-rising p low high place (Some q) base is le = let first : q.first ≡ max p.first low = is.first in (omega arith, is.forward, tt)

pub part-end : (p : Piece) (low high : ℕ) (place : Place) (o : Option Piece) (base : ℕ) → IsPart p low high place o → end_of base (option_to_list o) ≤ max base (min p.last high + 1)
part-end p low high place None base is = omega arith
part-end p low high place (Some q) base is = let last : q.last ≡ min p.last high = is.last in omega arith

part-few : (p : Piece) (low high : ℕ) (place : Place) (o : Option Piece) (test : Bool) → IsPart p low high place o → (max p.first low ≤ min p.last high → test ≡ true) → length (option_to_list o) ≤ one_if test
part-few p low high place None test is when = omega arith
part-few p low high place (Some q) test is when =
    let first : q.first ≡ max p.first low = is.first in
    let last : q.last ≡ min p.last high = is.last in
    let ahead : q.first ≤ q.last = is.forward.0 in
    let e : test ≡ true = when (omega arith) in
    rw e (omega arith)

moved-here : (first last : ℕ) (place : Place) (p : Piece) (n : ℕ) → inside first last n ≡ true → moved first last place n (at_of (p ∷ []) n) ≡ cond (covers p n) (Some (p.lot, place)) None
moved-here first last place p n e =
    elim (covers p n) as (λ b. moved first last place n (cond b (Some (label_of p)) None) ≡ cond b (Some (p.lot, place)) None) [ true ↦ rw e refl | false ↦ rw e refl ]

pub changed-piece : (first last : ℕ) (place : Place) (p : Piece) (l m r : Option Piece) → 1 ≤ first → first ≤ last → IsPart p 0 (first - 1) p.place l → IsPart p first last place m → IsPart p (last + 1) p.last p.place r → IsChanged (moved first last place) (cuts first last) (p ∷ []) (option_to_list l ++ (option_to_list m ++ option_to_list r))
changed-piece first last place p l m r pos up il im ir = record {
  same = λ low rise n.
      ⊎_elim
      (λ (before : n < first).
      let a = part-inside p 0 (first - 1) p.place l n il (omega arith) (omega arith) in
      let b = part-below p first last place m n im before in
      let d = part-below p (last + 1) p.last p.place r n ir (omega arith) in
      let out : inside first last n ≡ false = grind (arith, nat_tests) in
      rw (at_of-append, at_of-append, a, b, d, out, or_else-none) refl)
      (λ (from : first ≤ n).
      let a = part-above p 0 (first - 1) p.place l n il (omega arith) in
      ⊎_elim
      (λ (after : last < n).
      let b = part-above p first last place m n im after in
      let out : inside first last n ≡ false = grind (arith, nat_tests) in
      ⊎_elim
      (λ (beyond : p.last < n).
      let d = part-above p (last + 1) p.last p.place r n ir beyond in
      let e = covers-above p n beyond in
      rw (at_of-append, at_of-append, a, b, d, out, e) refl)
      (λ (in_it : n ≤ p.last).
      let d = part-inside p (last + 1) p.last p.place r n ir (omega arith) in_it in
      rw (at_of-append, at_of-append, a, b, d, out) refl)
      (cases_lt p.last n))
      (λ (to : n ≤ last).
      let b = part-inside p first last place m n im from to in
      let d = part-below p (last + 1) p.last p.place r n ir (omega arith) in
      let here : inside first last n ≡ true = grind (arith, nat_tests) in
      rw (at_of-append, at_of-append, a, b, d, or_else-none) (sym (moved-here first last place p n here)))
      (cases_lt last n))
      (cases_lt n first);
  rising = λ low rise.
      let here : low ≤ p.first = rise.0 in
      let forward : p.first ≤ p.last = rise.1.0 in
      let e = part-end p 0 (first - 1) p.place l low il in
      let f = part-end p first last place m (end_of low (option_to_list l)) im in
      rising-append low (option_to_list l) (option_to_list m ++ option_to_list r)
      (part-rising p 0 (first - 1) p.place l low il (omega arith))
      (rising-append (end_of low (option_to_list l)) (option_to_list m) (option_to_list r)
      (part-rising p first last place m (end_of low (option_to_list l)) im (omega arith))
      (part-rising p (last + 1) p.last p.place r (end_of (end_of low (option_to_list l)) (option_to_list m)) ir (omega arith)));
  within = λ low rise.
      let here : low ≤ p.first = rise.0 in
      let forward : p.first ≤ p.last = rise.1.0 in
      let e = part-end p 0 (first - 1) p.place l low il in
      let f = part-end p first last place m (end_of low (option_to_list l)) im in
      let g = part-end p (last + 1) p.last p.place r (end_of (end_of low (option_to_list l)) (option_to_list m)) ir in
      rw (end_of-append, end_of-append) (omega arith);
  few =
      let e = part-few p 0 (first - 1) p.place l (nat_lt p.first first) il (λ some. grind (arith, nat_tests)) in
      let f = part-few p first last place m (meets first last p) im (λ some. grind (arith, nat_tests)) in
      let g = part-few p (last + 1) p.last p.place r (nat_lt last p.last) ir (λ some. grind (arith, nat_tests)) in
      rw (length-append, length-append) (omega arith);
}

pub moved-none : (first last : ℕ) (place : Place) (n : ℕ) → moved first last place n None ≡ None
moved-none first last place n = elim (inside first last n) as (λ b. cond {A = Option Label} b None None ≡ None) [ true ↦ refl | false ↦ refl ]
