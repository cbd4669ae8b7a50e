-- A row of new numbers and a new lot, among rows that have neither.
use Rattle.std.proofs.Common.{◌≡◌, ◌≢◌, ◌∙◌, ℕ, ◌+◌, ◌<◌, ◌≤◌, ◌&&◌, List, [], ◌∷◌, Bool, true, false, cond, if◌then◌else◌, Option, Some, None, refl, ap, sym, ⊎_elim, inl, inr, arith}
use Rattle.std.specs.Prelude.{◌⊎◌, nat_lt}
use Rattle.std.proofs.lemmas.Bool.{cases_lt}
use Rattle.std.proofs.lemmas.Bool.Decides.{nat_tests}
use Rattle.goo_types.specs.Piece.{Label, label_of, covers, at_of, IsForward, IsRisingFrom, Follows}
use Rattle.goo_types.specs.declared.lot_fields.LotFields.{LotFields}
use Rattle.goo_types.specs.declared.piece.Piece.{Piece}
use Rattle.goo_types.specs.declared.place.Place.{Place}
use Rattle.goo_spec.proofs.Mapping.{none_some}
use Rattle.goo_spec.specs.Runs.{IsApart, IsNotFollowed}
use Rattle.goo_ranges_pieces.proofs.Rising.{at_of-below}
use Rattle.goo_ranges_rows.specs.Rows.{with}

-- no row has a number of p
abbrev pub AreClear : Piece → List Piece → Type 0
AreClear p [] = Unit {0}
AreClear p (q ∷ qs) = ((q.last < p.first) ⊎ (p.last < q.first)) × AreClear p qs

-- no row has the lot
abbrev pub AreOfOthers : LotFields → List Piece → Type 0
AreOfOthers lot [] = Unit {0}
AreOfOthers lot (q ∷ qs) = (q.lot ≢ lot) × AreOfOthers lot qs

-- ---- from the map to the rows

some_none : {X : Type 0} (b : Bool) (x : X) (o : Option X) → b ≡ true → (if b then Some x else o) ≡ None → ⊥
some_none false x o is none = absurd (cc)
some_none true x o is none = absurd (cc)

rest_none : {X : Type 0} (b : Bool) (x : X) (o : Option X) → (if b then Some x else o) ≡ None → o ≡ None
rest_none false x o none = none
rest_none true x o none = absurd (cc)

pub clear_of : (p : Piece) (low : ℕ) (rows : List Piece) → p.first ≤ p.last → IsRisingFrom low rows → ((n : ℕ) → p.first ≤ n → n ≤ p.last → at_of rows n ≡ None) → AreClear p rows
clear_of p low [] up r none = tt
clear_of p low (q ∷ qs) up r none =
    let forward : q.first ≤ q.last = r.1.0 in
    let here : (q.last < p.first) ⊎ (p.last < q.first) =
    ⊎_elim
    (λ (below : q.last < p.first). inl below)
    (λ (over : p.first ≤ q.last).
    ⊎_elim
    (λ (above : p.last < q.first). inr above)
    (λ (under : q.first ≤ p.last).
    ⊎_elim
    (λ (inner : p.first < q.first). let has : covers q q.first ≡ true = grind (arith, nat_tests) in absurd (some_none (covers q q.first) (label_of q) (at_of qs q.first) has (none q.first (omega arith) under)))
    (λ (outer : q.first ≤ p.first). let has : covers q p.first ≡ true = grind (arith, nat_tests) in absurd (some_none (covers q p.first) (label_of q) (at_of qs p.first) has (none p.first (omega arith) up)))
    (cases_lt p.first q.first))
    (cases_lt p.last q.first))
    (cases_lt q.last p.first) in
    (here, clear_of p (q.last + 1) qs up r.2 (λ n from to. rest_none (covers q n) (label_of q) (at_of qs n) (none n from to)))

lot_differs : (lot : LotFields) (q : Piece) (qs : List Piece) → q.first ≤ q.last → ((n : ℕ) (l : LotFields) (place : Place) → at_of (q ∷ qs) n ≡ Some (l, place) → l ≢ lot) → q.lot ≢ lot
lot_differs lot q qs forward other =
    let has : covers q q.first ≡ true = grind (arith, nat_tests) in
    other q.first q.lot q.place (ap (λ (b : Bool). if b then Some (label_of q) else at_of qs q.first) has)

pub others_of : (lot : LotFields) (low : ℕ) (rows : List Piece) → IsRisingFrom low rows → ((n : ℕ) (l : LotFields) (place : Place) → at_of rows n ≡ Some (l, place) → l ≢ lot) → AreOfOthers lot rows
others_of lot low [] r other = tt
others_of lot low (q ∷ qs) r other = (
  lot_differs lot q qs r.1.0 other,
  others_of lot (q.last + 1) qs r.2 (λ n l place is. elim (covers q n) as (λ b. covers q n ≡ b → l ≢ lot) [
    | true ↦ λ has.
        let within : n < q.last + 1 = grind (arith, nat_tests) in
        absurd (none_some (l, place) (sym (at_of-below (q.last + 1) qs n r.2 within) ∙ is))
    | false ↦ λ out. other n l place (ap (λ (b : Bool). if b then Some (label_of q) else at_of qs n) out ∙ is)
  ] refl),
)

-- ---- the row among the others

pub rising-with : (p : Piece) (low : ℕ) (rows : List Piece) → low ≤ p.first → IsForward p → IsRisingFrom low rows → AreClear p rows → IsRisingFrom low (with p rows)
rising-with p low [] from forward r clear = (from, forward, tt)
rising-with p low (q ∷ qs) from forward r clear =
    let up : p.first ≤ p.last = forward.0 in
    let upward : q.first ≤ q.last = r.1.0 in
    ⊎_elim
    (λ (below : q.last < p.first). let here : nat_lt p.first q.first ≡ false = grind (arith, nat_tests) in rw here (r.0, r.1, rising-with p (q.last + 1) qs (omega arith) forward r.2 clear.1))
    (λ (above : p.last < q.first). let here : nat_lt p.first q.first ≡ true = grind (arith, nat_tests) in rw here (from, forward, (omega arith, r.1, r.2)))
    clear.0

swapped : {X : Type 0} (a b : Bool) (x y : X) (o : Option X) → (a && b) ≡ false → (if a then Some x else (if b then Some y else o)) ≡ (if b then Some y else (if a then Some x else o))
swapped false b x y o apart = refl
swapped true false x y o apart = refl
swapped true true x y o apart = absurd (cc)

pub at-with : (p : Piece) (low : ℕ) (rows : List Piece) (n : ℕ) → IsForward p → IsRisingFrom low rows → AreClear p rows → at_of (with p rows) n ≡ (if covers p n then Some (label_of p) else at_of rows n)
at-with p low [] n forward r clear = refl
at-with p low (q ∷ qs) n forward r clear =
    let up : p.first ≤ p.last = forward.0 in
    let upward : q.first ≤ q.last = r.1.0 in
    ⊎_elim
    (λ (below : q.last < p.first).
    let here : nat_lt p.first q.first ≡ false = grind (arith, nat_tests) in
    let apart : (covers q n && covers p n) ≡ false = grind (arith, nat_tests) in
    rw here (ap (λ o. if covers q n then Some (label_of q) else o) (at-with p (q.last + 1) qs n forward r.2 clear.1) ∙ swapped (covers q n) (covers p n) (label_of q) (label_of p) (at_of qs n) apart))
    (λ (above : p.last < q.first). let here : nat_lt p.first q.first ≡ true = grind (arith, nat_tests) in rw here refl)
    clear.0

next-with : (q p : Piece) (qs : List Piece) → q.lot ≢ p.lot → IsNotFollowed q qs → IsNotFollowed q (with p qs)
next-with q p [] other was = λ follows. other (ap (λ (l : Label). l.0) follows.1)
next-with q p (r ∷ rs) other was = elim (nat_lt p.first r.first) as (λ b. IsNotFollowed q (cond b (p ∷ r ∷ rs) (r ∷ with p rs))) [
  | true ↦ λ follows. other (ap (λ (l : Label). l.0) follows.1)
  | false ↦ was
]

pub apart-with : (p : Piece) (rows : List Piece) → AreOfOthers p.lot rows → IsApart rows → IsApart (with p rows)
apart-with p [] others apart = (tt, tt)
apart-with p (q ∷ qs) others apart = elim (nat_lt p.first q.first) as (λ b. IsApart (cond b (p ∷ q ∷ qs) (q ∷ with p qs))) [
  | true ↦ (λ follows. others.0 (sym (ap (λ (l : Label). l.0) follows.1)), apart)
  | false ↦ (next-with q p qs others.0 apart.0, apart-with p qs others.1 apart.1)
]
