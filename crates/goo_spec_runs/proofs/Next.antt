-- The first row that ends above a number.
use Rattle.std.proofs.Common.{◌≡◌, ◌∙◌, ℕ, ◌+◌, ◌<◌, ◌≤◌, nat_le, List, [], ◌∷◌, true, false, Some, None, refl, ap, sym, subst, arith, ⊎_elim, ◌⊎◌, inl, inr}
use Rattle.std.proofs.lemmas.Bool.{cases_lt, cases_Bool}
use Rattle.std.proofs.lemmas.Bool.Decides.{nat_tests}
use Rattle.goo_types.specs.Number.{code_of}
use Rattle.goo_types.specs.declared.piece.Piece.{Piece}
use Rattle.goo_types.specs.Piece.{at_of, covers, IsForward, IsRisingFrom}
use Rattle.goo_ranges_pieces.proofs.Covers.{covers-inside, covers-below, covers-above}
use Rattle.goo_ranges_pieces.proofs.Rising.{at_of-below}
use Rattle.goo_spec.proofs.Pieces.{one_code}
use Rattle.goo_spec_runs.specs.Joined.{AreCoded}
use Rattle.goo_spec_runs.specs.NextRun.{above, ending_from, first_of, part_from}

pub le-true : (a b : ℕ) → a ≤ b → nat_le a b ≡ true
le-true a b le = grind (arith, nat_tests)

pub le-false : (a b : ℕ) → b < a → nat_le a b ≡ false
le-false a b lt = grind (arith, nat_tests)

pub cases_le : (a b : ℕ) → (a ≤ b) ⊎ (b < a)
cases_le a b = ⊎_elim (λ (lt : b < a). inr lt) (λ (le : a ≤ b). inl le) (cases_lt b a)

-- all rows of a list that begins above the number end above it
pub all_above : (from low : ℕ) (ps : List Piece) → from ≤ low → IsRisingFrom low ps → ending_from from ps ≡ ps
all_above from low [] lt r = refl
all_above from low (p ∷ ps) lt r =
    let here : low ≤ p.first = r.0 in
    let forward : p.first ≤ p.last = r.1.0 in
    let e = le-true from p.last (omega arith) in
    rw e (ap (λ l. p ∷ l) (all_above from (p.last + 1) ps (omega arith) r.2))

-- a piece cut at a number covers what lies above that
cut_covers : (from n : ℕ) (p : Piece) → from ≤ n → covers (part_from from p) n ≡ covers p n
cut_covers from n p lt = ⊎_elim
    (λ (apart : from ≤ p.first). let e = le-true from p.first apart in rw e refl)
    (λ (within : p.first < from).
    let e = le-false from p.first within in
    rw e (⊎_elim
    (λ (beyond : p.last < n). covers-above (record p { first = from }) n beyond ∙ sym (covers-above p n beyond))
    (λ (inside : n ≤ p.last). covers-inside (record p { first = from }) n (omega arith) inside ∙ sym (covers-inside p n (omega arith) inside))
    (cases_lt p.last n)))
    (cases_le from p.first)

cut_below : (from n : ℕ) (p : Piece) → n < from → covers (part_from from p) n ≡ false
cut_below from n p le = ⊎_elim
    (λ (apart : from ≤ p.first). let e = le-true from p.first apart in rw e (covers-below p n (omega arith)))
    (λ (within : p.first < from). let e = le-false from p.first within in rw e (covers-below (record p { first = from }) n (omega arith)))
    (cases_le from p.first)

-- the cut piece, and then rows that follow, have what lies above the number
cut_map : (from low : ℕ) (p : Piece) (ps : List Piece) → from ≤ p.last → IsRisingFrom low (p ∷ ps) → (n : ℕ) → at_of (part_from from p ∷ ps) n ≡ above from (at_of (p ∷ ps)) n
cut_map from low p ps lt r n = ⊎_elim
    (λ (higher : from ≤ n). let e = cut_covers from n p higher in let f = le-true from n higher in rw (e, f) refl)
    (λ (lower : n < from).
    let e = cut_below from n p lower in
    let f = le-false from n lower in
    let none = at_of-below (p.last + 1) ps n r.2 (omega arith) in
    rw (e, f) none)
    (cases_le from n)

pub cut_first : (from : ℕ) (p : Piece) → from ≤ p.last → p.first ≤ p.last → (from ≤ (part_from from p).first) × ((part_from from p).first ≤ p.last) × (p.first ≤ (part_from from p).first)
cut_first from p lt forward = ⊎_elim
    (λ (apart : from ≤ p.first). let e = le-true from p.first apart in rw e (apart, forward, omega arith))
    (λ (within : p.first < from). let e = le-false from p.first within in rw e (omega arith, omega arith, omega arith))
    (cases_le from p.first)

-- what is known of the first row that ends above a number, and of those after it
pub record IsFirstAbove (from : ℕ) (ps : List Piece) (row : Piece) (tail : List Piece) : Type 0 where
  pub ends : from ≤ row.last
  pub forward : IsForward row
  pub tail_is : ending_from (row.last + 1) ps ≡ tail
  pub rising : IsRisingFrom (row.last + 1) tail
  pub same : (n : ℕ) → at_of (part_from from row ∷ tail) n ≡ above from (at_of ps) n
  pub coded : AreCoded ps → AreCoded (part_from from row ∷ tail)

-- the row's code, cut or not
pub cut_code : (from : ℕ) (p : Piece) → from ≤ p.last → IsForward p → code_of (part_from from p).first ≡ code_of p.first
cut_code from p lt forward =
    let cut = cut_first from p lt forward.0 in
    one_code p.first p.last (part_from from p).first cut.2 cut.1 forward.1

-- a row that ends at or below the number says nothing of what lies above it
pass_over : (from : ℕ) (p : Piece) (ps : List Piece) → p.last < from → (n : ℕ) → above from (at_of ps) n ≡ above from (at_of (p ∷ ps)) n
pass_over from p ps le n = ⊎_elim
    (λ (higher : from ≤ n). let e = covers-above p n (omega arith) in rw e refl)
    (λ (lower : n < from). let f = le-false from n lower in rw f refl)
    (cases_le from n)

first_here : (from low : ℕ) (p : Piece) (ps : List Piece) → from ≤ p.last → IsRisingFrom low (p ∷ ps) → IsFirstAbove from (p ∷ ps) p ps
first_here from low p ps lt r =
    let forward : p.first ≤ p.last = r.1.0 in
    let self = le-false (p.last + 1) p.last (omega arith) in
    record {
      ends = lt;
      forward = r.1;
      tail_is = rw self (all_above (p.last + 1) (p.last + 1) ps (omega arith) r.2);
      rising = r.2;
      same = cut_map from low p ps lt r;
      coded = λ coded. (coded.0 ∙ sym (cut_code from p lt r.1), coded.1);
    }

first_later : (from : ℕ) (p : Piece) (ps : List Piece) (row : Piece) (tail : List Piece) → p.last < from → IsFirstAbove from ps row tail → IsFirstAbove from (p ∷ ps) row tail
first_later from p ps row tail le of =
    let ends : from ≤ row.last = of.ends in
    let over = le-false (row.last + 1) p.last (omega arith) in
    record {
      ends = of.ends;
      forward = of.forward;
      tail_is = rw over of.tail_is;
      rising = of.rising;
      same = λ n. of.same n ∙ pass_over from p ps le n;
      coded = λ coded. of.coded coded.1;
    }

first_is : (p row : Piece) (ps tail : List Piece) → p ∷ ps ≡ row ∷ tail → (p ≡ row) × (ps ≡ tail)
first_is p row ps tail e = (cc, cc)

pub first_above : (from low : ℕ) (ps : List Piece) (row : Piece) (tail : List Piece) → IsRisingFrom low ps → ending_from from ps ≡ row ∷ tail → IsFirstAbove from ps row tail
first_above from low [] row tail r e = absurd (cc)
first_above from low (p ∷ ps) row tail r e = ⊎_elim
    (λ (higher : from ≤ p.last).
    let t = le-true from p.last higher in
    let all = all_above from (p.last + 1) ps (omega arith) r.2 in
    let split = first_is p row ps tail (rw (t, all) at e) in
    subst (λ x. IsFirstAbove from (p ∷ ps) x tail) split.0 (subst (λ l. IsFirstAbove from (p ∷ ps) p l) split.1 (first_here from low p ps higher r)))
    (λ (lower : p.last < from).
    let t = le-false from p.last lower in
    first_later from p ps row tail lower (first_above from (p.last + 1) ps row tail r.2 (rw t at e)))
    (cases_le from p.last)

pub none_above : (from : ℕ) (ps : List Piece) → ending_from from ps ≡ [] → (n : ℕ) → None ≡ above from (at_of ps) n
none_above from [] e n = ⊎_elim (λ (h : nat_le from n ≡ true). rw h refl) (λ (h : nat_le from n ≡ false). rw h refl) (cases_Bool (nat_le from n))
none_above from (p ∷ ps) e n = ⊎_elim
    (λ (higher : from ≤ p.last). let t = le-true from p.last higher in let clash : p ∷ ending_from from ps ≡ [] = rw t at e in absurd (cc))
    (λ (lower : p.last < from). let t = le-false from p.last lower in none_above from ps (rw t at e) n ∙ pass_over from p ps lower n)
    (cases_le from p.last)

pub first_some : (ps : List Piece) (p : Piece) → Some p ≡ first_of ps → (tail : List Piece) × (ps ≡ p ∷ tail)
first_some [] p e = absurd (cc)
first_some (q ∷ qs) p e = (qs, ap (λ x. x ∷ qs) (let same : q ≡ p = cc in same))

pub first_none : (ps : List Piece) → None ≡ first_of ps → ps ≡ []
first_none [] e = refl
first_none (q ∷ qs) e = absurd (cc)
