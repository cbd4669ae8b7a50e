-- What is left of a book from a number on.
use Rattle.std.proofs.Common.{◌≡◌, ℕ, zero, suc, ◌+◌, ◌<◌, ◌≤◌, List, [], ◌∷◌, true, false, ltb, Option, Some, None, length, get_or, take, drop, refl, ap, sym, ◌∙◌, ⊎_elim, arith}
use Rattle.std.specs.List.{AllWithin}
use Rattle.std.specs.List.Sorted.{IsPartitionPoint, IsPartitionedBy}
use Rattle.std.proofs.lemmas.Bool.Decides.{nat_tests}
use Rattle.std.proofs.lemmas.Bool.{cases_lt}
use Rattle.std.proofs.lemmas.List.{drop_more}
use Rattle.std.specs.Prelude.{slice_get, max}
use Rattle.std.specs.Ordering.{ord_max, nat_cmp}
use Rattle.goo_types.specs.declared.piece.Piece.{Piece}
use Rattle.goo_types.specs.Piece.{Label, label_of, at_of, IsRising, IsRisingFrom}
use Rattle.goo_ranges_pieces.specs.Walk.{Reaches, IsRest, end_of}
use Rattle.goo_ranges_pieces.proofs.Covers.{covers-inside, covers-below, covers-above}
use Rattle.goo_ranges_pieces.proofs.Rising.{end_of-take, at_of-below, at_of-drop, rising-drop, rising-weaken, last-rises}

-- the pieces that end before a number come first
pub partitioned : (ps : List Piece) (n : ℕ) → IsRising ps → IsPartitionedBy (λ p. ltb p.last n) ps
partitioned ps n r i j d le lt h = let up = last-rises 0 ps i j d r le lt in grind (arith, nat_tests)

end-before : (ps : List Piece) (n i : ℕ) → i ≤ length ps → AllWithin (λ p. ltb p.last n ≡ true) ps 0 i → end_of 0 (take i ps) ≤ n
end-before ps n zero le h = omega arith
end-before [] n (suc i) le h = absurd (omega arith)
end-before (p ∷ ps) n (suc i) le h =
    let here = h i p (omega arith) (omega arith) in
    rw (end_of-take 0 (p ∷ ps) i p (omega arith)) (grind (arith, nat_tests))

reaches-from : (ps : List Piece) (n i : ℕ) → AllWithin (λ p. ltb p.last n ≡ false) ps i (length ps) → Reaches n (drop i ps)
reaches-from [] n zero h = tt
reaches-from [] n (suc i) h = tt
reaches-from (p ∷ ps) n zero h = let here = h 0 p (omega arith) (omega arith) in grind (arith, nat_tests)
reaches-from (p ∷ ps) n (suc i) h = reaches-from ps n i (λ k d a b. h (suc k) d (omega arith) (omega arith))

pub rest-from_point : (ps : List Piece) (n i : ℕ) → IsRising ps → i ≤ length ps → IsPartitionPoint (λ p. ltb p.last n ≡ true) (λ p. ltb p.last n ≡ false) ps i → IsRest ps (drop i ps) n
rest-from_point ps n i r le h =
    let before = end-before ps n i le h.0 in
    record {
      same = λ m above. at_of-drop ps i m r (omega arith);
      rising = rising-drop ps i r;
      reaches = reaches-from ps n i h.1;
    }

-- between the number and the next piece the book has nothing
pub rest-gap : (all rest : List Piece) (p : Piece) (n : ℕ) → IsRest all (p ∷ rest) n → (m : ℕ) → n ≤ m → m < p.first → at_of all m ≡ None
rest-gap all rest p n s m above below =
    let forward : p.first ≤ p.last = s.rising.1.0 in
    let later : m < p.last + 1 = omega arith in
    let out = covers-below p m below in
    s.same m above ∙ rw out (at_of-below (p.last + 1) rest m s.rising.2 later)

-- from there to its end the book has the piece's label
pub rest-inside : (all rest : List Piece) (p : Piece) (n : ℕ) → IsRest all (p ∷ rest) n → (m : ℕ) → n ≤ m → p.first ≤ m → m ≤ p.last → at_of all m ≡ Some (label_of p)
rest-inside all rest p n s m above low high = let inside = covers-inside p m low high in s.same m above ∙ rw inside refl

pub rest-end : (all : List Piece) (n : ℕ) → IsRest all [] n → (m : ℕ) → n ≤ m → at_of all m ≡ None
rest-end all n s m above = s.same m above

reaches-next : (low : ℕ) (ps : List Piece) → IsRisingFrom low ps → Reaches low ps
reaches-next low [] r = tt
reaches-next low (p ∷ ps) r = let here : low ≤ p.first = r.0 in let forward : p.first ≤ p.last = r.1.0 in omega arith

-- what is left after a piece
pub rest-next : (all rest : List Piece) (p : Piece) (n : ℕ) → IsRest all (p ∷ rest) n → IsRest all rest (p.last + 1)
rest-next all rest p n s =
    let reached : n ≤ p.last = s.reaches in
    record {
      same = λ m above. let after : p.last < m = omega arith in let out = covers-above p m after in s.same m (omega arith) ∙ rw out refl;
      rising = rising-weaken 0 (p.last + 1) rest (omega arith) s.rising.2;
      reaches = reaches-next (p.last + 1) rest s.rising.2;
    }

-- a rest with a first piece
pub rest-head : (all rest : List Piece) (p : Piece) (n : ℕ) → IsRest all rest n → slice_get rest 0 ≡ Some p → (tail : List Piece) × IsRest all (p ∷ tail) n
rest-head all [] p n s e = cc
rest-head all (q ∷ rest) p n s e = let same : q ≡ p = cc in (rest, rw same at s)

pub rest-empty : (all rest : List Piece) (n : ℕ) → IsRest all rest n → slice_get rest 0 ≡ None → IsRest all [] n
rest-empty all [] n s e = s
rest-empty all (q ∷ rest) n s e = cc

-- the piece at an index, and what follows it
pub drop-piece : (ps : List Piece) (i : ℕ) (p : Piece) → i < length ps → p ≡ get_or ps i p → drop i ps ≡ p ∷ drop (i + 1) ps
drop-piece ps i p lt is = drop_more ps i p lt ∙ ap (λ q. q ∷ drop (i + 1) ps) (sym is)

-- what is known of each number up to the end of the piece that the next number is in
pub known-next : (P : Option Label → Type 0) (all rest : List Piece) (p : Piece) (low next : ℕ) → IsRest all (p ∷ rest) next → p.first ≤ next → P (Some (label_of p)) → ((m : ℕ) → low ≤ m → m < next → P (at_of all m)) → (m : ℕ) → low ≤ m → m < p.last + 1 → P (at_of all m)
known-next P all rest p low next s from here before m above below =
    ⊎_elim
    (λ (lt : m < next). before m above lt)
    (λ (ge : next ≤ m). let e = rest-inside all rest p next s m ge (omega arith) (omega arith) in rw e here)
    (cases_lt m next)

-- the same, where the book has nothing between the number and the piece
pub known-past : (P : Option Label → Type 0) (all rest : List Piece) (p : Piece) (low next : ℕ) → IsRest all (p ∷ rest) next → P None → P (Some (label_of p)) → ((m : ℕ) → low ≤ m → m < next → P (at_of all m)) → (m : ℕ) → low ≤ m → m < p.last + 1 → P (at_of all m)
known-past P all rest p low next s none here before m above below =
    ⊎_elim
    (λ (lt : m < next). before m above lt)
    (λ (ge : next ≤ m).
    ⊎_elim
    (λ (gap : m < p.first). let e = rest-gap all rest p next s m ge gap in rw e none)
    (λ (in_it : p.first ≤ m). let e = rest-inside all rest p next s m ge in_it (omega arith) in rw e here)
    (cases_lt m p.first))
    (cases_lt m next)

pub known-gap : (P : Option Label → Type 0) (all rest : List Piece) (p : Piece) (low next : ℕ) → IsRest all (p ∷ rest) next → P None → ((m : ℕ) → low ≤ m → m < next → P (at_of all m)) → (m : ℕ) → low ≤ m → m < p.first → P (at_of all m)
known-gap P all rest p low next s none before m above below =
    ⊎_elim
    (λ (lt : m < next). before m above lt)
    (λ (ge : next ≤ m). let e = rest-gap all rest p next s m ge below in rw e none)
    (cases_lt m next)

pub known-end : (P : Option Label → Type 0) (all : List Piece) (low next : ℕ) → IsRest all [] next → P None → ((m : ℕ) → low ≤ m → m < next → P (at_of all m)) → (m : ℕ) → low ≤ m → P (at_of all m)
known-end P all low next s none before m above =
    ⊎_elim
    (λ (lt : m < next). before m above lt)
    (λ (ge : next ≤ m). let e = rest-end all next s m ge in rw e none)
    (cases_lt m next)

-- `max` of two numbers by their derived order
pub later-of : (m n : ℕ) → ord_max nat_cmp m n ≡ max m n
later-of m n = grind (arith, nat_tests)

-- the next number to look at is `low`, or not above the first of the pieces
abbrev pub Starts : ℕ → ℕ → List Piece → Type 0
Starts low next [] = Unit {0}
Starts low next (p ∷ ps) = next ≤ max low p.first

pub starts-self : (low : ℕ) (ps : List Piece) → Starts low low ps
starts-self low [] = tt
starts-self low (p ∷ ps) = omega arith

pub starts-rising : (low next : ℕ) (ps : List Piece) → IsRisingFrom next ps → Starts low next ps
starts-rising low next [] r = tt
starts-rising low next (p ∷ ps) r = let here : next ≤ p.first = r.0 in omega arith
