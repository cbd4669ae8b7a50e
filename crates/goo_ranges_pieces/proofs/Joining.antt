-- Joined lists of pieces.
use Rattle.std.proofs.Common.{◌≡◌, ℕ, zero, suc, ◌+◌, ◌<◌, ◌≤◌, List, [], ◌∷◌, ◌++◌, Some, length, get_or, set, subst, take, drop, refl, ap, sym, ◌∙◌, ⊎_elim, arith, append_assoc, length-append}
use Rattle.std.proofs.lemmas.Bool.{cases_lt}
use Rattle.std.proofs.lemmas.List.{take_more, take_all, set_at, length-take-le, take-append-drop}
use Rattle.goo_types.specs.declared.piece.Piece.{Piece}
use Rattle.goo_types.specs.Number.{code_of, serial_of}
use Rattle.goo_types.specs.Piece.{label_of, at_of, IsForward, IsRising, IsRisingFrom, Follows}
use Rattle.goo_spec.specs.Runs.{IsApart}
use Rattle.goo_ranges_pieces.specs.Walk.{end_of}
use Rattle.goo_ranges_pieces.specs.Joining.{IsJoining}
use Rattle.goo_ranges_pieces.proofs.Covers.{covers-inside, covers-below, covers-above, or_else, at_of-append}
use Rattle.goo_ranges_pieces.proofs.Rising.{end_of-append, rising-append, rising-front, rising-back}

pub joining-self : (ps : List Piece) → IsJoining ps ps
joining-self ps = record { same = λ low r n. refl; rising = λ low r. r; ends = λ low. refl; few = omega arith }

pub joining-then : (ps qs rs : List Piece) → IsJoining ps qs → IsJoining qs rs → IsJoining ps rs
joining-then ps qs rs a b =
    let one : length qs ≤ length ps = a.few in
    let two : length rs ≤ length qs = b.few in
    record {
      same = λ low r n. b.same low (a.rising low r) n ∙ a.same low r n;
      rising = λ low r. b.rising low (a.rising low r);
      ends = λ low. b.ends low ∙ a.ends low;
      few = omega arith;
    }

-- more pieces behind both
pub joining-append : (ps qs rs : List Piece) → IsJoining ps qs → IsJoining (ps ++ rs) (qs ++ rs)
joining-append ps qs rs a =
    let one : length qs ≤ length ps = a.few in
    record {
      same = λ low r n.
          let front = a.same low (rising-front low ps rs r) n in
          at_of-append qs rs n ∙ ap (λ o. or_else o (at_of rs n)) front ∙ sym (at_of-append ps rs n);
      rising = λ low r.
          let end = a.ends low in
          rising-append low qs rs (a.rising low (rising-front low ps rs r)) (rw end (rising-back low ps rs r));
      ends = λ low. end_of-append low qs rs ∙ ap (λ k. end_of k rs) (a.ends low) ∙ sym (end_of-append low ps rs);
      few = simp length-append (omega arith);
    }

-- more pieces before both
pub joining-prepend : (ps qs rs : List Piece) → IsJoining qs rs → IsJoining (ps ++ qs) (ps ++ rs)
joining-prepend ps qs rs a =
    let one : length rs ≤ length qs = a.few in
    record {
      same = λ low r n.
          let back = a.same (end_of low ps) (rising-back low ps qs r) n in
          at_of-append ps rs n ∙ ap (λ o. or_else (at_of ps n) o) back ∙ sym (at_of-append ps qs n);
      rising = λ low r. rising-append low ps rs (rising-front low ps qs r) (a.rising (end_of low ps) (rising-back low ps qs r));
      ends = λ low. end_of-append low ps rs ∙ a.ends (end_of low ps) ∙ sym (end_of-append low ps qs);
      few = simp length-append (omega arith);
    }

-- a piece up to another one's end
abbrev pub up_to : Piece → Piece → Piece
up_to q p = record q { last = p.last }

same-pair : (low : ℕ) (q p : Piece) → Follows q p → IsRisingFrom low (q ∷ p ∷ []) → (n : ℕ) → at_of (up_to q p ∷ []) n ≡ at_of (q ∷ p ∷ []) n
same-pair low q p f r n =
    let next : q.last + 1 ≡ p.first = f.0 in
    let label : label_of q ≡ label_of p = f.1 in
    let one : q.first ≤ q.last = r.1.0 in
    let two : p.first ≤ p.last = r.2.1.0 in
    ⊎_elim
    (λ (before : n < q.first).
    let a = covers-below q n before in
    let b = covers-below p n (omega arith) in
    let c = covers-below (up_to q p) n before in
    rw (a, b, c) refl)
    (λ (from : q.first ≤ n).
    ⊎_elim
    (λ (beyond : p.last < n).
    let a = covers-above q n (omega arith) in
    let b = covers-above p n beyond in
    let c = covers-above (up_to q p) n beyond in
    rw (a, b, c) refl)
    (λ (within : n ≤ p.last).
    let c = covers-inside (up_to q p) n from within in
    ⊎_elim
    (λ (second : q.last < n).
    let a = covers-above q n second in
    let b = covers-inside p n (omega arith) within in
    rw (a, b, c) (ap Some label))
    (λ (first : n ≤ q.last). let a = covers-inside q n from first in rw (a, c) refl)
    (cases_lt q.last n))
    (cases_lt p.last n))
    (cases_lt n q.first)

one_code : (q p : Piece) → q.last + 1 ≡ p.first → 1 ≤ serial_of p.first → code_of q.first ≡ code_of q.last → code_of p.first ≡ code_of p.last → code_of q.first ≡ code_of p.last
one_code q p next valid a b = omega arith

pub joining-pair : (q p : Piece) → Follows q p → 1 ≤ serial_of p.first → IsJoining (q ∷ p ∷ []) (up_to q p ∷ [])
joining-pair q p f valid = record {
  same = λ low r n. same-pair low q p f r n;
  rising = λ low r.
      let next : q.last + 1 ≡ p.first = f.0 in
      let one : q.first ≤ q.last = r.1.0 in
      let two : p.first ≤ p.last = r.2.1.0 in
      (r.0, (omega arith, one_code q p f.0 valid r.1.1 r.2.1.1), tt);
  ends = λ low. refl;
  few = omega arith;
}

-- the last piece joined with one that follows it
pub joining-last : (front : List Piece) (q p : Piece) → Follows q p → 1 ≤ serial_of p.first → IsJoining ((front ++ q ∷ []) ++ p ∷ []) (front ++ up_to q p ∷ [])
joining-last front q p f valid = rw append_assoc (joining-prepend front (q ∷ p ∷ []) (up_to q p ∷ []) (joining-pair q p f valid))

pub apart-last : (front : List Piece) (q p : Piece) → IsApart (front ++ q ∷ []) → IsApart (front ++ up_to q p ∷ [])
apart-last [] q p a = (tt, tt)
apart-last (x ∷ []) q p a = (a.0, (tt, tt))
apart-last (x ∷ y ∷ front) q p a = (a.0, apart-last (y ∷ front) q p a.1)

pub apart-push : (front : List Piece) (q p : Piece) → ¬ (Follows q p) → IsApart (front ++ q ∷ []) → IsApart ((front ++ q ∷ []) ++ p ∷ [])
apart-push [] q p free a = (free, (tt, tt))
apart-push (x ∷ []) q p free a = (a.0, (free, (tt, tt)))
apart-push (x ∷ y ∷ front) q p free a = (a.0, apart-push (y ∷ front) q p free a.1)

-- a list as the front and the last piece
as_pushed : (xs : List Piece) (i : ℕ) (q : Piece) → i + 1 ≡ length xs → q ≡ get_or xs i q → xs ≡ take i xs ++ q ∷ []
as_pushed xs i q end is =
    let more = take_more xs i q (omega arith) in
    let whole = take_all (i + 1) xs (omega arith) in
    sym whole ∙ more ∙ ap (λ x. take i xs ++ x ∷ []) (sym is)

pub joining-set : (xs : List Piece) (i : ℕ) (q p : Piece) → i + 1 ≡ length xs → q ≡ get_or xs i q → Follows q p → 1 ≤ serial_of p.first → IsJoining (xs ++ p ∷ []) (set xs i (up_to q p))
joining-set xs i q p end is f valid =
    let front = length-take-le i xs (omega arith) in
    let written = set_at (take i xs) q [] (up_to q p) i front in
    let P : List Piece → Type 0 = λ ys. IsJoining (ys ++ p ∷ []) (set ys i (up_to q p)) in
    subst P (sym (as_pushed xs i q end is)) (rw written (joining-last (take i xs) q p f valid))

pub apart-set : (xs : List Piece) (i : ℕ) (q p : Piece) → i + 1 ≡ length xs → q ≡ get_or xs i q → IsApart xs → IsApart (set xs i (up_to q p))
apart-set xs i q p end is a =
    let front = length-take-le i xs (omega arith) in
    let written = set_at (take i xs) q [] (up_to q p) i front in
    let P : List Piece → Type 0 = λ ys. IsApart ys → IsApart (set ys i (up_to q p)) in
    subst P (sym (as_pushed xs i q end is)) (rw written (apart-last (take i xs) q p)) a

pub apart-more : (xs : List Piece) (i : ℕ) (q p : Piece) → i + 1 ≡ length xs → q ≡ get_or xs i q → ¬ (Follows q p) → IsApart xs → IsApart (xs ++ p ∷ [])
apart-more xs i q p end is free a =
    let P : List Piece → Type 0 = λ ys. IsApart ys → IsApart (ys ++ p ∷ []) in
    subst P (sym (as_pushed xs i q end is)) (apart-push (take i xs) q p free) a

pub apart-first : (xs : List Piece) (p : Piece) → length xs ≤ 0 → IsApart (xs ++ p ∷ [])
apart-first [] p h = (tt, tt)
apart-first (x ∷ xs) p h = absurd (omega arith)

pub rising-take : (ps : List Piece) (i : ℕ) → IsRising ps → IsRising (take i ps)
rising-take ps i r =
    let split : IsRising (take i ps ++ drop i ps) = rw (take-append-drop i ps) r in
    rising-front 0 (take i ps) (drop i ps) split

pub take-piece : (ps : List Piece) (i : ℕ) (p : Piece) → i < length ps → p ≡ get_or ps i p → take (i + 1) ps ≡ take i ps ++ p ∷ []
take-piece ps i p lt is = take_more ps i p lt ∙ ap (λ q. take i ps ++ q ∷ []) (sym is)

-- one more list at the end, joined
pub joining-more : (ps qs more rs : List Piece) → IsJoining ps qs → IsJoining (qs ++ more) rs → IsJoining (ps ++ more) rs
joining-more ps qs more rs a b = joining-then (ps ++ more) (qs ++ more) rs (joining-append ps qs more a) b

pub piece-forward : (low : ℕ) (ps : List Piece) (i : ℕ) (p : Piece) → IsRisingFrom low ps → i < length ps → p ≡ get_or ps i p → IsForward p
piece-forward low [] i p r lt is = absurd (omega arith)
piece-forward low (q ∷ ps) zero p r lt is = rw is r.1
piece-forward low (q ∷ ps) (suc i) p r lt is = piece-forward (q.last + 1) ps i p r.2 (omega arith) is

-- three lists pushed one after another
module _ (out left middle right : List Piece) (all : IsRising (out ++ (left ++ (middle ++ right)))) where
  pub push-first : IsRising (out ++ left)
  push-first =
      let e : out ++ (left ++ (middle ++ right)) ≡ (out ++ left) ++ (middle ++ right) = sym (append_assoc out left (middle ++ right)) in
      rising-front 0 (out ++ left) (middle ++ right) (rw (← e) all)

  pub push-second : (one : List Piece) → IsJoining (out ++ left) one → IsRising (one ++ middle)
  push-second one j =
      let e : out ++ (left ++ (middle ++ right)) ≡ ((out ++ left) ++ middle) ++ right = simp append_assoc in
      (joining-append (out ++ left) one middle j).rising 0 (rising-front 0 ((out ++ left) ++ middle) right (rw (← e) all))

  pub push-third : (one two : List Piece) → IsJoining (out ++ left) one → IsJoining (one ++ middle) two → IsRising (two ++ right)
  push-third one two j k =
      let e : out ++ (left ++ (middle ++ right)) ≡ ((out ++ left) ++ middle) ++ right = simp append_assoc in
      (joining-append ((out ++ left) ++ middle) two right (joining-more (out ++ left) one middle two j k)).rising 0 (rw (← e) all)

  pub push-all : (one two three : List Piece) → IsJoining (out ++ left) one → IsJoining (one ++ middle) two → IsJoining (two ++ right) three → IsJoining (out ++ (left ++ (middle ++ right))) three
  push-all one two three j k l =
      let e : out ++ (left ++ (middle ++ right)) ≡ ((out ++ left) ++ middle) ++ right = simp append_assoc in
      rw e (joining-more ((out ++ left) ++ middle) two right three (joining-more (out ++ left) one middle two j k) l)
