-- Rows next to a range that an edit leaves alone.
use Rattle.std.proofs.Common.{◌≡◌, ◌⊎◌, inl, inr, ℕ, zero, suc, ◌+◌, ◌-◌, ◌<◌, ◌≤◌, List, [], ◌∷◌, ◌++◌, true, false, Result, Ok, Err, map, length, get_or, take, drop, refl, ap, sym, subst, ◌∙◌, ⊎_elim, arith, append_assoc, get_or-drop, length-drop}
use Rattle.std.proofs.lemmas.List.{same_from_push}
use Rattle.std.proofs.lemmas.List.Sums.{sum_by-cons}
use Rattle.std.proofs.lemmas.Bool.Decides.{nat_tests}
use Rattle.std.specs.List.{remove, count_by}
use Rattle.std.specs.Result.{IfOk}
use Rattle.goo_types.specs.declared.piece.Piece.{Piece}
use Rattle.goo_types.specs.Piece.{IsRisingFrom}
use Rattle.goo_ranges.specs.declared.edits.Edit.{Edit}
use Rattle.goo_types.specs.declared.fault.Fault.{Fault}
use Rattle.goo_ranges_pieces.specs.Change.{meets, one_if}
use Rattle.goo_ranges_pieces.specs.Touching.{AreNear, AreMet}
use Rattle.goo_ranges_pieces.proofs.Joining.{take-piece}
use Rattle.goo_ranges_pieces.proofs.Rest.{drop-piece}
use Rattle.goo_ranges_pieces.proofs.Touching.{in-three}
use Rattle.goo_ranges.proofs.Splicing.{count-middle}
use Rattle.goo_ranges.proofs.Trimming.{head-is, last-is}
use Rattle.goo_ranges.specs.Sparing.{IsFirstLeftOut, IsLastLeftOut, AreSpared, IsSparing, IsSmall}

-- the block between two indices, by its first piece and by its last
block-first : (ps : List Piece) (from to : ℕ) (y : Piece) → from < to → to ≤ length ps → y ≡ get_or ps from y → take (to - from) (drop from ps) ≡ y ∷ take (to - (from + 1)) (drop (from + 1) ps)
block-first ps from to y lt bound there =
    let n : to - from ≡ suc (to - (from + 1)) = omega arith in
    ap (λ (k : ℕ). take k (drop from ps)) n ∙ ap (take (suc (to - (from + 1)))) (drop-piece ps from y (omega arith) there)

pub block-last : (ps : List Piece) (from to : ℕ) (y : Piece) → from < to → to ≤ length ps → y ≡ get_or ps (to - 1) y → take (to - from) (drop from ps) ≡ take (to - 1 - from) (drop from ps) ++ y ∷ []
block-last ps from to y lt bound there =
    let n : to - from ≡ to - 1 - from + 1 = omega arith in
    let at : from + (to - 1 - from) ≡ to - 1 = omega arith in
    let size = length-drop from ps in
    ap (λ (k : ℕ). take k (drop from ps)) n
    ∙ take-piece (drop from ps) (to - 1 - from) y (omega arith) (there ∙ ap (λ (k : ℕ). get_or ps k y) (sym at) ∙ sym (get_or-drop from ps (to - 1 - from) y))

no-block : (ps : List Piece) (from to : ℕ) (x : Piece) (rest : List Piece) → to ≤ from → take (to - from) (drop from ps) ≡ x ∷ rest → ⊥
no-block ps from to x rest le e =
    let n : to - from ≡ 0 = omega arith in
    let h : [] ≡ x ∷ rest = ap (λ (k : ℕ). take k (drop from ps)) (sym n) ∙ e in
    cc

no-piece : (x : Piece) (rest : List Piece) → [] ≡ rest ++ x ∷ [] → ⊥
no-piece x [] e = cc
no-piece x (y ∷ rest) e = cc

-- the first of some pieces that are taken, and the first and the last that a range meets
pub head-of_take : (xs rest : List Piece) (p : Piece) (k : ℕ) → take k xs ≡ p ∷ rest → (back : List Piece) × (xs ≡ p ∷ back)
head-of_take xs rest p zero e = absurd (cc)
head-of_take [] rest p (suc k) e = absurd (cc)
head-of_take (x ∷ xs) rest p (suc k) e = let same : x ≡ p = cc in (xs, ap (λ q. q ∷ xs) same)

pub head-met : (first last k : ℕ) (xs back : List Piece) (p : Piece) → xs ≡ p ∷ back → AreMet first last (take k xs) → (k ≡ 0) ⊎ (first ≤ p.last)
head-met first last zero xs back p e met = inl refl
head-met first last (suc k) xs back p e met = let here : AreMet first last (p ∷ take k back) = subst (λ l. AreMet first last (take (suc k) l)) e met in inr here.0

pub last-met : (first last : ℕ) (front : List Piece) (p : Piece) → AreMet first last (front ++ p ∷ []) → p.first ≤ last
last-met first last [] p met = met.1
last-met first last (x ∷ front) p met = last-met first last front p met.2

-- ---- a step at the front

pub first-left : (ps : List Piece) (from to : ℕ) (insert : List Piece) (x y : Piece) → from < to → to ≤ length ps → 0 < length insert → x ≡ get_or insert 0 x → y ≡ get_or ps from y → x ≡ y
    → IsFirstLeftOut (take (to - from) (drop from ps)) insert (take (to - (from + 1)) (drop (from + 1) ps)) (remove insert 0)
first-left ps from to insert x y lt bound some here there same =
    inl (y, block-first ps from to y lt bound there, subst (λ p. insert ≡ p ∷ remove insert 0) same (head-is insert x some here))

pub first-differs : (ps : List Piece) (from to : ℕ) (insert : List Piece) (x y : Piece) → from < to → to ≤ length ps → x ≡ get_or insert 0 x → y ≡ get_or ps from y → ¬ (x ≡ y)
    → IsFirstLeftOut (take (to - from) (drop from ps)) insert (take (to - from) (drop from ps)) insert
first-differs ps from to insert x y lt bound here there other =
    inr (
      refl,
      refl,
      λ z rest more e f.
          let one : y ∷ take (to - (from + 1)) (drop (from + 1) ps) ≡ z ∷ rest = sym (block-first ps from to y lt bound there) ∙ e in
          let two : x ≡ z = here ∙ ap (λ l. get_or l 0 x) f in
          let three : y ≡ z = cc in
          let same : x ≡ y = two ∙ sym three in
          other same,
    )

pub first-of_none : (ps : List Piece) (from to : ℕ) (insert : List Piece) → to ≤ from → IsFirstLeftOut (take (to - from) (drop from ps)) insert (take (to - from) (drop from ps)) insert
first-of_none ps from to insert le = inr (refl, refl, λ z rest more e f. no-block ps from to z rest le e)

pub first-into_none : (old insert : List Piece) → insert ≡ [] → IsFirstLeftOut old insert old insert
first-into_none old insert none = inr (refl, refl, λ z rest more e f. let h : [] ≡ z ∷ more = sym none ∙ f in absurd (cc))

pub first-into_short : (old insert : List Piece) → length insert ≡ 0 → IsFirstLeftOut old insert old insert
first-into_short old [] none = first-into_none old [] refl
first-into_short old (x ∷ insert) none = absurd (omega arith)

-- ---- a step at the back

pub last-left : (ps : List Piece) (from to : ℕ) (insert : List Piece) (x y : Piece) → from < to → to ≤ length ps → 0 < length insert → x ≡ get_or insert (length insert - 1) x → y ≡ get_or ps (to - 1) y → x ≡ y
    → IsLastLeftOut (take (to - from) (drop from ps)) insert (take (to - 1 - from) (drop from ps)) (take (length insert - 1) insert)
last-left ps from to insert x y lt bound some here there same =
    inl (y, block-last ps from to y lt bound there, subst (λ p. insert ≡ take (length insert - 1) insert ++ p ∷ []) same (last-is insert x some here))

pub last-differs : (ps : List Piece) (from to : ℕ) (insert : List Piece) (x y : Piece) → from < to → to ≤ length ps → 0 < length insert → x ≡ get_or insert (length insert - 1) x → y ≡ get_or ps (to - 1) y → ¬ (x ≡ y)
    → IsLastLeftOut (take (to - from) (drop from ps)) insert (take (to - from) (drop from ps)) insert
last-differs ps from to insert x y lt bound some here there other =
    inr (
      refl,
      refl,
      λ z rest more e f.
          let one : y ≡ z = (same_from_push _ _ y z (sym (block-last ps from to y lt bound there) ∙ e)).1 in
          let two : x ≡ z = (same_from_push _ _ x z (sym (last-is insert x some here) ∙ f)).1 in
          other (two ∙ sym one),
    )

pub last-of_none : (ps : List Piece) (from to : ℕ) (insert : List Piece) → to ≤ from → IsLastLeftOut (take (to - from) (drop from ps)) insert (take (to - from) (drop from ps)) insert
last-of_none ps from to insert le = inr (
  refl,
  refl,
  λ z rest more e f.
      let n : to - from ≡ 0 = omega arith in
      no-piece z rest (ap (λ (k : ℕ). take k (drop from ps)) (sym n) ∙ e),
)

pub last-into_none : (old insert : List Piece) → insert ≡ [] → IsLastLeftOut old insert old insert
last-into_none old insert none = inr (refl, refl, λ z rest more e f. no-piece z more (sym none ∙ f))

-- ---- both

-- where the first near row is left out, no other one stands before the range
second-reaches : (low first last : ℕ) (x p : Piece) (rest : List Piece) → IsRisingFrom low (x ∷ p ∷ rest) → AreNear first last (x ∷ p ∷ rest) → p.last < first → ⊥
second-reaches low first last x p rest r near before =
    let reaches : first ≤ x.last + 1 = near.0 in
    let next : x.last + 1 ≤ p.first = r.2.0 in
    let forward : p.first ≤ p.last = r.2.1.0 in
    omega arith

-- where the last one is, no other one stands behind it
last-but-one : (low first last : ℕ) (rest : List Piece) (p x : Piece) → IsRisingFrom low (rest ++ p ∷ (x ∷ [])) → AreNear first last (rest ++ p ∷ (x ∷ [])) → last < p.first → ⊥
last-but-one low first last [] p x r near behind =
    let reaches : x.first ≤ last + 1 = near.2.1 in
    let next : p.last + 1 ≤ x.first = r.2.0 in
    let forward : p.first ≤ p.last = r.1.0 in
    omega arith
last-but-one low first last (y ∷ rest) p x r near behind = last-but-one (y.last + 1) first last rest p x r.2 near.2 behind

module _ (low first last : ℕ) (old new old_mid new_mid old_left new_left : List Piece) (r : IsRisingFrom low old) (near : AreNear first last old)
    (one : IsFirstLeftOut old new old_mid new_mid) (two : IsLastLeftOut old_mid new_mid old_left new_left) where
  before-mid : (p : Piece) (rest more : List Piece) → p.last < first → old_mid ≡ p ∷ rest → new_mid ≡ p ∷ more → ⊥
  before-mid p rest more lt e f = ⊎_elim
      (λ (h : (x : Piece) × (old ≡ x ∷ old_mid) × (new ≡ x ∷ new_mid)).
      let whole : old ≡ h.0 ∷ (p ∷ rest) = h.1 ∙ ap (λ l. h.0 ∷ l) e in
      second-reaches low first last h.0 p rest (subst (IsRisingFrom low) whole r) (subst (AreNear first last) whole near) lt)
      (λ (h : (old_mid ≡ old) × (new_mid ≡ new) × ((x : Piece) (rest more : List Piece) → old ≡ x ∷ rest → new ≡ x ∷ more → ⊥)).
      h.2 p rest more (sym h.0 ∙ e) (sym h.1 ∙ f))
      one

  behind-mid : (p x : Piece) (rest : List Piece) → last < p.first → old_mid ≡ (rest ++ p ∷ []) ++ x ∷ [] → ⊥
  behind-mid p x rest lt e =
      let is : old_mid ≡ rest ++ p ∷ (x ∷ []) = e ∙ append_assoc rest (p ∷ []) (x ∷ []) in
      ⊎_elim
      (λ (h : (y : Piece) × (old ≡ y ∷ old_mid) × (new ≡ y ∷ new_mid)).
      let whole : old ≡ (h.0 ∷ rest) ++ p ∷ (x ∷ []) = h.1 ∙ ap (λ l. h.0 ∷ l) is in
      last-but-one low first last (h.0 ∷ rest) p x (subst (IsRisingFrom low) whole r) (subst (AreNear first last) whole near) lt)
      (λ (h : (old_mid ≡ old) × (new_mid ≡ new) × ((x : Piece) (rest more : List Piece) → old ≡ x ∷ rest → new ≡ x ∷ more → ⊥)).
      let whole : old ≡ rest ++ p ∷ (x ∷ []) = sym h.0 ∙ is in
      last-but-one low first last rest p x (subst (IsRisingFrom low) whole r) (subst (AreNear first last) whole near) lt)
      one

  -- what both steps leave of the rows near a range
  pub left-spared : AreSpared first last old_left new_left
  left-spared = record {
    before = λ p rest more lt e f. ⊎_elim
        (λ (h : (x : Piece) × (old_mid ≡ old_left ++ x ∷ []) × (new_mid ≡ new_left ++ x ∷ [])).
        before-mid p (rest ++ h.0 ∷ []) (more ++ h.0 ∷ []) lt (h.1 ∙ ap (λ l. l ++ h.0 ∷ []) e) (h.2 ∙ ap (λ l. l ++ h.0 ∷ []) f))
        (λ (h : (old_left ≡ old_mid) × (new_left ≡ new_mid) × ((x : Piece) (rest more : List Piece) → old_mid ≡ rest ++ x ∷ [] → new_mid ≡ more ++ x ∷ [] → ⊥)).
        before-mid p rest more lt (sym h.0 ∙ e) (sym h.1 ∙ f))
        two;
    behind = λ p rest more lt e f. ⊎_elim
        (λ (h : (x : Piece) × (old_mid ≡ old_left ++ x ∷ []) × (new_mid ≡ new_left ++ x ∷ [])).
        behind-mid p h.0 rest lt (h.1 ∙ ap (λ l. l ++ h.0 ∷ []) e))
        (λ (h : (old_left ≡ old_mid) × (new_left ≡ new_mid) × ((x : Piece) (rest more : List Piece) → old_mid ≡ rest ++ x ∷ [] → new_mid ≡ more ++ x ∷ [] → ⊥)).
        h.2 p rest more (sym h.0 ∙ e) (sym h.1 ∙ f))
        two;
  }

pub sparing-from_replaced : (r : Result Edit Fault) (old insert : List Piece) (from to first last : ℕ) → from ≤ to → AreSpared first last (take (to - from) (drop from old)) insert → IfOk r (λ edit. edit.insert.items ≡ insert)
    → IfOk r (λ edit. edit.delete.items ≡ map (λ p. p.first) (take (to - from) (drop from old))) → IfOk r (IsSparing first last old)
sparing-from_replaced (Ok edit) old insert from to first last up spared inserted deleted = record {
  front = take from old;
  deleted = take (to - from) (drop from old);
  back = drop to old;
  was = sym (in-three old from to up);
  named = deleted;
  spared = subst (AreSpared first last (take (to - from) (drop from old))) (sym inserted) spared;
}
sparing-from_replaced (Err e) old insert from to first last up spared inserted deleted = tt

-- an edit of a window is one of the whole
pub sparing-within : (front old back : List Piece) (first last : ℕ) (edit : Edit) → IsSparing first last old edit → IsSparing first last (front ++ (old ++ back)) edit
sparing-within front old back first last edit x = record {
  front = front ++ x.front;
  deleted = x.deleted;
  back = x.back ++ back;
  was = ap (λ l. front ++ (l ++ back)) x.was ∙ simp append_assoc;
  named = x.named;
  spared = x.spared;
}

-- an edit of few rows is one of few of the whole
pub small-within : (front old back : List Piece) (first last : ℕ) (edit : Edit) → IsSmall first last old edit → IsSmall first last (front ++ (old ++ back)) edit
small-within front old back first last edit x =
    let part = count-middle (meets first last) front old back in
    let one = x.deleted in
    let two = x.inserted in
    record { deleted = omega (arith, part, one); inserted = omega (arith, part, two); sparing = sparing-within front old back first last edit x.sparing }

-- more numbers are had by no fewer rows
meets-more : (first last low high : ℕ) (p : Piece) → low ≤ first → last ≤ high → one_if (meets first last p) ≤ one_if (meets low high p)
meets-more first last low high p down up =
    elim (meets first last p) as (λ b. meets first last p ≡ b → one_if b ≤ one_if (meets low high p)) [
      | true ↦ λ h. let wider : meets low high p ≡ true = grind (arith, nat_tests, h) in rw wider (omega arith)
      | false ↦ λ h. omega arith
    ] refl

count-more : (first last low high : ℕ) (ps : List Piece) → low ≤ first → last ≤ high → count_by (meets first last) ps ≤ count_by (meets low high) ps
count-more first last low high [] down up = omega arith
count-more first last low high (p ∷ ps) down up =
    omega (arith, sum_by-cons (λ q. one_if (meets first last q)) p ps, sum_by-cons (λ q. one_if (meets low high q)) p ps, meets-more first last low high p down up, count-more first last low high ps down up)

-- an edit for some numbers is one for more
pub small-for_more : (first last low high : ℕ) (rows : List Piece) (edit : Edit) → low ≤ first → last ≤ high → IsSmall first last rows edit → IsSmall low high rows edit
small-for_more first last low high rows edit down up x =
    let count = count-more first last low high rows down up in
    let one = x.deleted in
    let two = x.inserted in
    record {
      deleted = omega (arith, count, one);
      inserted = omega (arith, count, two);
      sparing = record {
        front = x.sparing.front;
        deleted = x.sparing.deleted;
        back = x.sparing.back;
        was = x.sparing.was;
        named = x.sparing.named;
        spared = record {
          before = λ p rest more lt e f. x.sparing.spared.before p rest more (omega (arith, lt, down)) e f;
          behind = λ p rest more lt e f. x.sparing.spared.behind p rest more (omega (arith, lt, up)) e f;
        };
      };
    }
