-- Joined rows are the maximal runs of their map.
use Rattle.std.proofs.Common.{◌≡◌, ◌∙◌, ℕ, ◌+◌, ◌<◌, ◌≤◌, List, [], ◌∷◌, true, false, cond, Some, refl, ap, sym, arith, ⊎_elim}
use Rattle.std.proofs.lemmas.Bool.{cases_lt, cases_Bool}
use Rattle.goo_types.specs.Number.{code_of}
use Rattle.goo_types.specs.declared.piece.Piece.{Piece}
use Rattle.goo_types.specs.Piece.{label_of, at_of, covers, IsRising, IsRisingFrom, Follows}
use Rattle.goo_ranges_pieces.proofs.Covers.{covers-inside, covers-below, covers-above}
use Rattle.goo_spec.specs.Runs.{IsNotFollowed, IsApart, AreRunsOf}
use Rattle.goo_spec_runs.specs.Joined.{follows, put_before, joined, AreCoded}
use Rattle.goo_spec_runs.proofs.Labels.{Decides-follows}

-- a piece up to another one's end
abbrev pub up_to : Piece → Piece → Piece
up_to p q = record p { last = q.last }

-- what holds of a piece put before others, by whether it is joined
pub put_cases : (p q : Piece) (qs : List Piece) (P : List Piece → Type 0) → (Follows p q → P (up_to p q ∷ qs)) → (¬ (Follows p q) → P (p ∷ q ∷ qs)) → P (put_before p (q ∷ qs))
put_cases p q qs P yes_it no_it =
    let d = Decides-follows p q in
    ⊎_elim
    (λ (e : follows p q ≡ true). rw e (yes_it (d.0 e)))
    (λ (e : follows p q ≡ false). rw e (no_it (λ f. let clash : true ≡ false = sym (d.1 f) ∙ e in cc)))
    (cases_Bool (follows p q))

-- the map

pub same_joined : (p q : Piece) (qs : List Piece) (low : ℕ) → Follows p q → IsRisingFrom low (p ∷ q ∷ qs) → (n : ℕ) → at_of (up_to p q ∷ qs) n ≡ at_of (p ∷ q ∷ qs) n
same_joined p q qs low f r n =
    let next : p.last + 1 ≡ q.first = f.0 in
    let label : label_of p ≡ label_of q = f.1 in
    let one : p.first ≤ p.last = r.1.0 in
    let two : q.first ≤ q.last = r.2.1.0 in
    ⊎_elim
    (λ (before : n < p.first).
    let a = covers-below p n before in
    let b = covers-below q n (omega arith) in
    let c = covers-below (up_to p q) n before in
    rw (a, b, c) refl)
    (λ (from : p.first ≤ n).
    ⊎_elim
    (λ (beyond : q.last < n).
    let a = covers-above p n (omega arith) in
    let b = covers-above q n beyond in
    let c = covers-above (up_to p q) n beyond in
    rw (a, b, c) refl)
    (λ (within : n ≤ q.last).
    let c = covers-inside (up_to p q) n from within in
    ⊎_elim
    (λ (second : p.last < n).
    let a = covers-above p n second in
    let b = covers-inside q n (omega arith) within in
    rw (a, b, c) (ap Some label))
    (λ (first : n ≤ p.last). let a = covers-inside p n from first in rw (a, c) refl)
    (cases_lt p.last n))
    (cases_lt q.last n))
    (cases_lt n p.first)

put_same : (p : Piece) (qs : List Piece) (low : ℕ) → IsRisingFrom low (p ∷ qs) → (n : ℕ) → at_of (put_before p qs) n ≡ at_of (p ∷ qs) n
put_same p [] low r n = refl
put_same p (q ∷ qs) low r n = put_cases p q qs (λ l. at_of l n ≡ at_of (p ∷ q ∷ qs) n) (λ f. same_joined p q qs low f r n) (λ no_it. refl)

-- order

pub run_code : (p q : Piece) → label_of p ≡ label_of q → p.lot.origin ≡ code_of p.first → q.lot.origin ≡ code_of q.first → code_of q.first ≡ code_of q.last → code_of p.first ≡ code_of q.last
run_code p q label mine theirs forward = sym mine ∙ ap (λ l. l.0.origin) label ∙ theirs ∙ forward

put_rising : (p : Piece) (qs : List Piece) (low : ℕ) → AreCoded (p ∷ qs) → IsRisingFrom low (p ∷ qs) → IsRisingFrom low (put_before p qs)
put_rising p [] low coded r = r
put_rising p (q ∷ qs) low coded r =
    let one : p.first ≤ p.last = r.1.0 in
    let two : q.first ≤ q.last = r.2.1.0 in
    let here : p.last + 1 ≤ q.first = r.2.0 in
    let P : List Piece → Type 0 = IsRisingFrom low in
    put_cases p q qs P
    (λ f. (r.0, (omega arith, run_code p q f.1 coded.0 coded.1.0 r.2.1.1), r.2.2))
    (λ no_it. r)

put_coded : (p : Piece) (qs : List Piece) → AreCoded (p ∷ qs) → AreCoded (put_before p qs)
put_coded p [] coded = coded
put_coded p (q ∷ qs) coded = put_cases p q qs AreCoded (λ f. (coded.0, coded.1.1)) (λ no_it. coded)

-- no neighbours are left to join

not_followed_on : (p q : Piece) (qs : List Piece) → label_of p ≡ label_of q → IsNotFollowed q qs → IsNotFollowed (up_to p q) qs
not_followed_on p q [] label free = tt
not_followed_on p q (x ∷ xs) label free = λ f. free (f.0, sym label ∙ f.1)

put_apart : (p : Piece) (qs : List Piece) → IsApart qs → IsApart (put_before p qs)
put_apart p [] a = (tt, tt)
put_apart p (q ∷ qs) a = put_cases p q qs IsApart (λ f. (not_followed_on p q qs f.1 a.0, a.1)) (λ no_it. (no_it, a))

pub joined_coded : (ps : List Piece) → AreCoded ps → AreCoded (joined ps)
joined_coded [] coded = tt
joined_coded (p ∷ ps) coded = put_coded p (joined ps) (coded.0, joined_coded ps coded.1)

pub joined_rising : (low : ℕ) (ps : List Piece) → AreCoded ps → IsRisingFrom low ps → IsRisingFrom low (joined ps)
joined_rising low [] coded r = tt
joined_rising low (p ∷ ps) coded r = put_rising p (joined ps) low (coded.0, joined_coded ps coded.1) (r.0, r.1, joined_rising (p.last + 1) ps coded.1 r.2)

pub joined_apart : (ps : List Piece) → IsApart (joined ps)
joined_apart [] = tt
joined_apart (p ∷ ps) = put_apart p (joined ps) (joined_apart ps)

pub joined_same : (low : ℕ) (ps : List Piece) → AreCoded ps → IsRisingFrom low ps → (n : ℕ) → at_of (joined ps) n ≡ at_of ps n
joined_same low [] coded r n = refl
joined_same low (p ∷ ps) coded r n =
    put_same p (joined ps) low (r.0, r.1, joined_rising (p.last + 1) ps coded.1 r.2) n
    ∙ ap (cond (covers p n) (Some (label_of p))) (joined_same (p.last + 1) ps coded.1 r.2 n)

pub joined_runs : (ps : List Piece) → AreCoded ps → IsRising ps → AreRunsOf (at_of ps) (joined ps)
joined_runs ps coded r = record { rising = joined_rising 0 ps coded r; maximal = joined_apart ps; same = joined_same 0 ps coded r }

-- what doesn't follow the first row doesn't follow the first run, which begins with it
head_kept : (x p : Piece) (ps : List Piece) → ¬ (Follows x p) → IsNotFollowed x (put_before p ps)
head_kept x p [] free = free
head_kept x p (q ∷ qs) free = put_cases p q qs (IsNotFollowed x) (λ f. free) (λ no_it. free)

pub joined_free : (x p : Piece) (ps : List Piece) → ¬ (Follows x p) → IsNotFollowed x (joined (p ∷ ps))
joined_free x p ps free = head_kept x p (joined ps) free
