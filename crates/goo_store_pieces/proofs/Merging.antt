-- The rows near a range, from the one before it and those that begin in it.
use Rattle.std.proofs.Common.{◌≡◌, ℕ, ◌+◌, ◌≤◌, ◌<◌, ◌&&◌, List, [], ◌∷◌, ◌++◌, reverse, find, Bool, true, false, cond, nat_le, nat_lt, Option, Some, None, refl, sym, ap, ◌∙◌, arith}
use Rattle.std.specs.List.{filter}
use Rattle.std.specs.Option.{option_or}
use Rattle.std.proofs.lemmas.Bool.{le-ltb, le-leb, lt-leb, ltb-true, ltb-false, leb-true}
use Rattle.std.proofs.lemmas.List.{reverse-append}
use Rattle.std.proofs.lemmas.List.Folds.{find-append}
use Rattle.goo_types.specs.Range.{Numbers}
use Rattle.goo_types.specs.declared.piece.Piece.{Piece}
use Rattle.goo_types.specs.Piece.{IsRisingFrom}
use Rattle.goo_ranges_rows.specs.Rows.{meeting}
use Rattle.goo_store_pieces.specs.Near.{reaching}

module _ (range : Numbers) where
  abbrev begins : Piece → Bool
  begins p = nat_lt p.first range.first

  abbrev within : Piece → Bool
  within p = nat_le range.first p.first && nat_le p.first (range.last + 1)

  -- the last row before the range is that of the rest, if it has one
  before : (p : Piece) (ps : List Piece) → find begins (reverse (p ∷ ps)) ≡ option_or (find begins (reverse ps)) (cond (begins p) (Some p) None)
  before p ps = ap (find begins) (reverse-append (p ∷ []) ps) ∙ find-append begins (reverse ps) (p ∷ [])

  -- nothing begins below the range from there on
  none_below : (low : ℕ) (ps : List Piece) → IsRisingFrom low ps → range.first ≤ low → (find begins (reverse ps) ≡ None) × (meeting range ps ≡ filter within ps)
  none_below low [] rising above = (refl, refl)
  none_below low (p ∷ ps) rising above =
      let rest = none_below (p.last + 1) ps rising.2 (omega (arith, above, rising.0, rising.1.0)) in
      let out : begins p ≡ false = le-ltb p.first range.first (omega (arith, above, rising.0)) in
      let far : nat_le range.first (p.last + 1) ≡ true = le-leb range.first (p.last + 1) (omega (arith, above, rising.0, rising.1.0)) in
      let from : nat_le range.first p.first ≡ true = le-leb range.first p.first (omega (arith, above, rising.0)) in (
        before p ps ∙ (λ i. option_or (rest.0 i) (cond (out i) (Some p) None)),
        (λ i. cond (far i && nat_le p.first (range.last + 1)) (p ∷ rest.1 i) (rest.1 i)) ∙ sym (λ i. cond (from i && nat_le p.first (range.last + 1)) (p ∷ filter within ps) (filter within ps)),
      )

  short : (p : Piece) (o : Option Piece) → nat_le range.first (p.last + 1) ≡ false → reaching range (option_or o (Some p)) ≡ reaching range o
  short p None ends = ap (λ b. cond b (p ∷ []) []) ends
  short p (Some q) ends = refl

  module _ (wide : range.first ≤ range.last + 1) where
    pub near_rows : (low : ℕ) (ps : List Piece) → IsRisingFrom low ps → meeting range ps ≡ reaching range (find begins (reverse ps)) ++ filter within ps
    near_rows low [] rising = refl
    near_rows low (p ∷ ps) rising = go (near_rows (p.last + 1) ps rising.2) (begins p) refl (nat_le range.first (p.last + 1)) refl
      where
        go : meeting range ps ≡ reaching range (find begins (reverse ps)) ++ filter within ps → (b : Bool) → begins p ≡ b → (c : Bool) → nat_le range.first (p.last + 1) ≡ c → meeting range (p ∷ ps) ≡ reaching range (find begins (reverse (p ∷ ps))) ++ filter within (p ∷ ps)
        go later false out c reaches =
            let none = none_below p.first (p ∷ ps) (omega arith, rising.1, rising.2) (ltb-false p.first range.first out) in
            none.1 ∙ sym (ap (λ o. reaching range o ++ filter within (p ∷ ps)) none.0)
        go later true is true reaches =
            let none = none_below (p.last + 1) ps rising.2 (leb-true range.first (p.last + 1) reaches) in
            let low_end : nat_le p.first (range.last + 1) ≡ true = le-leb p.first (range.last + 1) (omega (arith, ltb-true p.first range.first is, wide)) in
            let out : nat_le range.first p.first ≡ false = lt-leb range.first p.first (ltb-true p.first range.first is) in
            (λ i. cond (reaches i && low_end i) (p ∷ none.1 i) (none.1 i))
            ∙ sym ((λ i. reaching range (before p ps i) ++ cond (out i && nat_le p.first (range.last + 1)) (p ∷ filter within ps) (filter within ps))
            ∙ (λ i. reaching range (option_or (none.0 i) (cond (is i) (Some p) None)) ++ filter within ps)
            ∙ (λ i. cond (reaches i) (p ∷ []) [] ++ filter within ps))
        go later true is false ends =
            let out : nat_le range.first p.first ≡ false = lt-leb range.first p.first (ltb-true p.first range.first is) in
            (λ i. cond (ends i && nat_le p.first (range.last + 1)) (p ∷ meeting range ps) (meeting range ps))
            ∙ later
            ∙ sym ((λ i. reaching range (before p ps i) ++ cond (out i && nat_le p.first (range.last + 1)) (p ∷ filter within ps) (filter within ps))
            ∙ (λ i. reaching range (option_or (find begins (reverse ps)) (cond (is i) (Some p) None)) ++ filter within ps)
            ∙ ap (λ rows. rows ++ filter within ps) (short p (find begins (reverse ps)) ends))

  -- nothing begins in the range among rows that begin behind it
  all_beyond : (low : ℕ) (ps : List Piece) → IsRisingFrom low ps → range.last + 1 < low → filter within ps ≡ []
  all_beyond low [] rising far = refl
  all_beyond low (p ∷ ps) rising far =
      go (nat_le range.first p.first) (lt-leb p.first (range.last + 1) (omega (arith, far, rising.0))) (all_beyond (p.last + 1) ps rising.2 (omega (arith, far, rising.0, rising.1.0)))
    where
      go : (b : Bool) → nat_le p.first (range.last + 1) ≡ false → filter within ps ≡ [] → cond (b && nat_le p.first (range.last + 1)) (p ∷ filter within ps) (filter within ps) ≡ []
      go true out rest = (λ i. cond (out i) (p ∷ filter within ps) (filter within ps)) ∙ rest
      go false out rest = rest

  -- where the last row before the range ends behind it, none begins in it
  none_within : (low : ℕ) (ps : List Piece) → IsRisingFrom low ps → (q : Piece) → Some q ≡ find begins (reverse ps) → range.last < q.last → filter within ps ≡ []
  none_within low [] rising q found far = refl
  none_within low (p ∷ ps) rising q found far = go (λ o it. none_within (p.last + 1) ps rising.2 q it far) (begins p) refl (find begins (reverse ps)) refl
    where
      found_so : (b : Bool) → begins p ≡ b → (rest : Option Piece) → find begins (reverse ps) ≡ rest → Some q ≡ option_or rest (cond b (Some p) None)
      found_so b is rest are = found ∙ before p ps ∙ (λ i. option_or (are i) (cond (is i) (Some p) None))

      left_out : begins p ≡ true → filter within ps ≡ [] → filter within (p ∷ ps) ≡ []
      left_out is rest = (λ i. cond (lt-leb range.first p.first (ltb-true p.first range.first is) i && nat_le p.first (range.last + 1)) (p ∷ filter within ps) (filter within ps)) ∙ rest

      same : (a b : Piece) → Some a ≡ Some b → a ≡ b
      same a b is = cc

      go : ((o : Piece) → Some q ≡ find begins (reverse ps) → filter within ps ≡ []) → (b : Bool) → begins p ≡ b → (rest : Option Piece) → find begins (reverse ps) ≡ rest → filter within (p ∷ ps) ≡ []
      go later false is rest are =
          let none = none_below p.first (p ∷ ps) (omega arith, rising.1, rising.2) (ltb-false p.first range.first is) in
          let both : Some q ≡ None = found ∙ none.0 in absurd cc
      go later true is (Some o) are = left_out is (later o (found_so true is (Some o) are ∙ sym are))
      go later true is None are =
          let it = same q p (found_so true is None are) in
          left_out is (all_beyond (p.last + 1) ps rising.2 (omega (arith, far, ap (λ (x : Piece). x.last) it)))

-- what the two statements found, by the range's ends
pub near_found : (range : Numbers) → range.first ≤ range.last → (rows : List Piece) → IsRisingFrom 0 rows → (low high : ℕ) → low ≡ range.first → high ≡ range.last → (before : Option Piece) (later : List Piece)
    → before ≡ find (λ p. nat_lt p.first low) (reverse rows) → later ≡ filter (λ p. nat_le low p.first && nat_le p.first (high + 1)) rows → reaching range before ++ later ≡ meeting range rows
near_found range forward rows rising low high is_low is_high before later first second =
    (λ i. reaching range (first i) ++ second i)
    ∙ (λ i. reaching range (find (λ p. nat_lt p.first (is_low i)) (reverse rows)) ++ filter (λ p. nat_le (is_low i) p.first && nat_le p.first (is_high i + 1)) rows)
    ∙ sym (near_rows range (omega (arith, forward)) 0 rows rising)

-- what the first of them found is all, where it ends behind the range
pub near_alone : (range : Numbers) → range.first ≤ range.last → (rows : List Piece) → IsRisingFrom 0 rows → (low high : ℕ) → low ≡ range.first → high ≡ range.last → (before : Option Piece) → before ≡ find (λ p. nat_lt p.first low) (reverse rows)
    → (q : Piece) → before ≡ Some q → high < q.last → q ∷ [] ≡ meeting range rows
near_alone range forward rows rising low high is_low is_high before first q is far =
    let found : Some q ≡ find (λ p. nat_lt p.first range.first) (reverse rows) = sym is ∙ first ∙ (λ i. find (λ p. nat_lt p.first (is_low i)) (reverse rows)) in
    let reaches : nat_le range.first (q.last + 1) ≡ true = le-leb range.first (q.last + 1) (omega (arith, forward, far, is_high)) in
    sym (λ i. cond (reaches i) (q ∷ []) [] ++ [])
    ∙ near_found range forward rows rising range.first range.last refl refl (Some q) [] found (sym (none_within range 0 rows rising q found (omega (arith, far, is_high))))
