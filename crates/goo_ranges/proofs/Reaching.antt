-- The pieces that a new one replaces, and those next to it that it joins.
use Rattle.std.proofs.Common.{◌≡◌, ℕ, zero, suc, ◌+◌, ◌-◌, ◌<◌, ◌≤◌, List, [], ◌∷◌, ◌++◌, Bool, true, false, cond, Some, length, get_or, take, drop, refl, ap, sym, subst, ◌∙◌, ⊎_elim, arith}
use Rattle.std.proofs.lemmas.Bool.{cases_lt}
use Rattle.std.proofs.lemmas.Bool.Decides.{nat_tests}
use Rattle.std.proofs.lemmas.List.{take-append-drop}
use Rattle.goo_types.specs.Number.{code_of, serial_of}
use Rattle.goo_types.specs.declared.piece.Piece.{Piece}
use Rattle.goo_types.specs.Piece.{label_of, at_of, IsForward, IsRising, IsRisingFrom}
use Rattle.goo_ranges_pieces.specs.Walk.{end_of}
use Rattle.goo_ranges_pieces.specs.Change.{inside, set_to}
use Rattle.goo_ranges_pieces.specs.Touching.{IsJoinedBefore, IsFreeBefore, IsBegin, IsJoinedAfter, IsFreeAfter, IsEnd}
use Rattle.goo_ranges.proofs.Maximal.{at-own}
use Rattle.goo_ranges_pieces.proofs.Rest.{drop-piece}
use Rattle.goo_ranges_pieces.proofs.Rising.{rising-back}

-- the last of some pieces is the one at the index before
pub last-taken : (ps front : List Piece) (q : Piece) (i : ℕ) → i ≤ length ps → take i ps ≡ front ++ q ∷ [] → (1 ≤ i) × (q ≡ get_or ps (i - 1) q)
last-taken ps [] q zero le e = cc
last-taken ps (x ∷ front) q zero le e = cc
last-taken [] front q (suc i) le e = absurd (omega arith)
last-taken (p ∷ ps) [] q (suc zero) le e = (omega arith, cc)
last-taken (p ∷ []) [] q (suc (suc i)) le e = absurd (omega arith)
last-taken (p ∷ r ∷ ps) [] q (suc (suc i)) le e = cc
last-taken (p ∷ ps) (x ∷ front) q (suc zero) le e = absurd (none front q (ap tail e))
  where
    tail : List Piece → List Piece
    tail [] = []
    tail (y ∷ ys) = ys

    none : (front : List Piece) (q : Piece) → [] ≡ front ++ q ∷ [] → ⊥
    none [] q h = cc
    none (y ∷ front) q h = cc
last-taken (p ∷ ps) (x ∷ front) q (suc (suc i)) le e =
    let rest : take (suc i) ps ≡ front ++ q ∷ [] = ap tail e in
    let more = last-taken ps front q (suc i) (omega arith) rest in
    let one : suc (suc i) - 1 ≡ suc i = omega arith in
    let two : suc i - 1 ≡ i = omega arith in
    let read : q ≡ get_or ps i q = rw two at more.1 in
    (omega arith, rw one read)
  where
    tail : List Piece → List Piece
    tail [] = []
    tail (y ∷ ys) = ys

pub first-dropped : (ps back : List Piece) (q : Piece) (i : ℕ) → drop i ps ≡ q ∷ back → (i < length ps) × (q ≡ get_or ps i q)
first-dropped [] back q zero e = cc
first-dropped [] back q (suc i) e = cc
first-dropped (p ∷ ps) back q zero e = (omega arith, cc)
first-dropped (p ∷ ps) back q (suc i) e = let more = first-dropped ps back q i e in (let h = more.0 in omega arith, more.1)

-- what stands before a new piece, and where it then begins
pub record IsReady (ps : List Piece) (from : ℕ) (new : Piece) (begin first : ℕ) : Type 0 where
  pub order : begin ≤ from
  pub near : from ≤ begin + 1
  pub below : end_of 0 (take begin ps) ≤ first
  pub extends : first ≤ new.first
  pub one_code : code_of first ≡ code_of new.first
  pub given : (n : ℕ) → first ≤ n → n < new.first → at_of ps n ≡ Some (label_of new)
  pub seam : (front : List Piece) (q : Piece) → take begin ps ≡ front ++ q ∷ [] → q.last + 1 ≡ first → label_of q ≡ label_of new → at_of ps first ≡ Some (label_of new)

at-index : (ps : List Piece) (i : ℕ) (p : Piece) (n : ℕ) → IsRising ps → i < length ps → p ≡ get_or ps i p → p.first ≤ n → n ≤ p.last → at_of ps n ≡ Some (label_of p)
at-index ps i p n r lt is from to =
    let e : ps ≡ take i ps ++ p ∷ drop (i + 1) ps = sym (take-append-drop i ps) ∙ ap (λ l. take i ps ++ l) (drop-piece ps i p lt is) in
    ap (λ l. at_of l n) e ∙ at-own 0 (take i ps) p (drop (i + 1) ps) n (subst IsRising e r) from to

pub piece-in : (ps : List Piece) (i : ℕ) (p : Piece) → IsRising ps → i < length ps → p ≡ get_or ps i p → (end_of 0 (take i ps) ≤ p.first) × IsForward p × IsRisingFrom (p.last + 1) (drop (i + 1) ps)
piece-in ps i p r lt is =
    let e : ps ≡ take i ps ++ p ∷ drop (i + 1) ps = sym (take-append-drop i ps) ∙ ap (λ l. take i ps ++ l) (drop-piece ps i p lt is) in
    rising-back 0 (take i ps) (p ∷ drop (i + 1) ps) (subst IsRising e r)

pub ready-before : (ps : List Piece) (from : ℕ) (new : Piece) (begin first : ℕ) → IsRising ps → from ≤ length ps → end_of 0 (take from ps) ≤ new.first → IsBegin ps from new begin first → IsReady ps from new begin first
ready-before ps from new begin first r bound below = ⊎_elim
    (λ (j : IsJoinedBefore ps from new begin first).
    let p = j.piece in
    let facts = piece-in ps begin p r j.bound j.here in
    let low : end_of 0 (take begin ps) ≤ p.first = facts.0 in
    let forward : p.first ≤ p.last = facts.1.0 in
    let code : code_of p.first ≡ code_of p.last = facts.1.1 in
    let next : p.last + 1 ≡ new.first = j.follows.0 in
    let valid : 1 ≤ serial_of new.first = j.valid.1.0 in
    let starts : first ≡ p.first = j.extends in
    let index : from ≡ begin + 1 = j.next in
    let label : label_of p ≡ label_of new = j.follows.1 in
    let given : (n : ℕ) → first ≤ n → n < new.first → at_of ps n ≡ Some (label_of new) = λ n a b. at-index ps begin p n r j.bound j.here (omega arith) (omega arith) ∙ ap Some label in
    let code_too : code_of p.last ≡ code_of new.first = omega arith in
    record {
      order = omega arith;
      near = omega arith;
      below = omega arith;
      extends = omega arith;
      one_code = ap (λ (k : ℕ). code_of k) starts ∙ code ∙ code_too;
      given = given;
      seam = λ front q e ends same. given first (omega arith) (omega arith);
    })
    (λ (f : IsFreeBefore ps from new begin first).
    let same : begin ≡ from = f.same in
    let starts : first ≡ new.first = f.extends in
    record {
      order = omega arith;
      near = omega arith;
      below = rw (same, starts) below;
      extends = omega arith;
      one_code = rw starts refl;
      given = λ n a b. absurd (omega arith);
      seam = λ front q e ends label.
          let there = last-taken ps front q from bound (subst (λ (i : ℕ). take i ps ≡ front ++ q ∷ []) same e) in
          absurd (f.free q there.0 there.1 (ends ∙ starts, label));
    })

-- what stands after a new piece, and where it then ends
pub record IsDone (ps : List Piece) (to : ℕ) (new : Piece) (end last : ℕ) : Type 0 where
  pub order : to ≤ end
  pub near : end ≤ to + 1
  pub bound : end ≤ length ps
  pub above : IsRisingFrom (last + 1) (drop end ps)
  pub extends : new.last ≤ last
  pub one_code : code_of new.last ≡ code_of last
  pub given : (n : ℕ) → new.last < n → n ≤ last → at_of ps n ≡ Some (label_of new)
  pub seam : (q : Piece) (back : List Piece) → drop end ps ≡ q ∷ back → last + 1 ≡ q.first → label_of q ≡ label_of new → at_of ps last ≡ Some (label_of new)

pub done-after : (ps : List Piece) (to : ℕ) (new : Piece) (end last : ℕ) → IsRising ps → to ≤ length ps → IsRisingFrom (new.last + 1) (drop to ps) → IsEnd ps to new end last → IsDone ps to new end last
done-after ps to new end last r bound above = ⊎_elim
    (λ (j : IsJoinedAfter ps to new end last).
    let p = j.piece in
    let facts = piece-in ps to p r j.bound j.here in
    let forward : p.first ≤ p.last = facts.1.0 in
    let code : code_of p.first ≡ code_of p.last = facts.1.1 in
    let next : new.last + 1 ≡ p.first = j.follows.0 in
    let valid : 1 ≤ serial_of p.first = j.valid.1.0 in
    let ends : last ≡ p.last = j.extends in
    let index : end ≡ to + 1 = j.next in
    let within : to < length ps = j.bound in
    let label : label_of p ≡ label_of new = sym j.follows.1 in
    let given : (n : ℕ) → new.last < n → n ≤ last → at_of ps n ≡ Some (label_of new) = λ n a b. at-index ps to p n r j.bound j.here (omega arith) (omega arith) ∙ ap Some label in
    let code_too : code_of new.last ≡ code_of p.first = omega arith in
    record {
      order = omega arith;
      near = omega arith;
      bound = omega arith;
      above = rw (ends, index) facts.2;
      extends = omega arith;
      one_code = code_too ∙ code ∙ sym (ap (λ (k : ℕ). code_of k) ends);
      given = given;
      seam = λ q back e starts same. given last (omega arith) (omega arith);
    })
    (λ (f : IsFreeAfter ps to new end last).
    let same : end ≡ to = f.same in
    let ends : last ≡ new.last = f.extends in
    record {
      order = omega arith;
      near = omega arith;
      bound = omega arith;
      above = rw (ends, same) above;
      extends = omega arith;
      one_code = rw ends refl;
      given = λ n a b. absurd (omega arith);
      seam = λ q back e starts label.
          let there = first-dropped ps back q to (subst (λ (i : ℕ). drop i ps ≡ q ∷ back) same e) in
          absurd (f.free q there.0 there.1 (ap (λ (k : ℕ). k + 1) (sym ends) ∙ starts, sym label));
    })

-- the numbers that the joined piece has more were given before
pub given-more : (ps : List Piece) (from to : ℕ) (new : Piece) (begin first end last : ℕ) → IsReady ps from new begin first → IsDone ps to new end last → new.first ≤ new.last
    → (n : ℕ) → set_to first last (label_of new) n (at_of ps n) ≡ set_to new.first new.last (label_of new) n (at_of ps n)
given-more ps from to new begin first end last ready done up n =
    let low : first ≤ new.first = ready.extends in
    let high : new.last ≤ last = done.extends in
    let here : at_of ps n ≡ Some (label_of new) → set_to first last (label_of new) n (at_of ps n) ≡ set_to new.first new.last (label_of new) n (at_of ps n) =
    λ is. rw is (both (inside first last n) (inside new.first new.last n)) in
    ⊎_elim
    (λ (before : n < new.first).
    let out : inside new.first new.last n ≡ false = grind (arith, nat_tests) in
    ⊎_elim
    (λ (far : n < first). let off : inside first last n ≡ false = grind (arith, nat_tests) in rw (out, off) refl)
    (λ (near : first ≤ n). here (ready.given n near before))
    (cases_lt n first))
    (λ (from_first : new.first ≤ n).
    ⊎_elim
    (λ (after : new.last < n).
    let out : inside new.first new.last n ≡ false = grind (arith, nat_tests) in
    ⊎_elim
    (λ (far : last < n). let off : inside first last n ≡ false = grind (arith, nat_tests) in rw (out, off) refl)
    (λ (near : n ≤ last). here (done.given n after near))
    (cases_lt last n))
    (λ (to_last : n ≤ new.last).
    let in_new : inside new.first new.last n ≡ true = grind (arith, nat_tests) in
    let in_all : inside first last n ≡ true = grind (arith, nat_tests) in
    rw (in_new, in_all) refl)
    (cases_lt new.last n))
    (cases_lt n new.first)
  where
    both : (a b : Bool) → cond a (Some (label_of new)) (Some (label_of new)) ≡ cond b (Some (label_of new)) (Some (label_of new))
    both true true = refl
    both true false = refl
    both false true = refl
    both false false = refl
