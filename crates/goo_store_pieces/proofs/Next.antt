-- The first row of some kind that ends above a number: the one before the next number, or the first that begins above it.
use Rattle.std.proofs.Common.{◌≡◌, ℕ, ◌+◌, ◌≤◌, ◌&&◌, List, [], ◌∷◌, reverse, find, Bool, true, false, cond, nat_le, nat_lt, Option, Some, None, refl, sym, ap, ◌∙◌, arith}
use Rattle.std.specs.List.{filter}
use Rattle.std.specs.Option.{option_or}
use Rattle.std.proofs.lemmas.Bool.{le-ltb, le-leb, lt-leb, lt-ltb, ltb-true, ltb-false}
use Rattle.std.proofs.lemmas.List.{reverse-append}
use Rattle.std.proofs.lemmas.List.Folds.{find-append}
use Rattle.goo_types.specs.declared.piece.Piece.{Piece}
use Rattle.goo_types.specs.Piece.{IsRisingFrom}
use Rattle.goo_spec_runs.specs.NextRun.{ending_from, first_of}
use Rattle.goo_store_pieces.specs.NextRows.{reaching_beyond}

module _ (wants : Piece → Bool) (after : ℕ) where
  abbrev begins : Piece → Bool
  begins p = nat_lt p.first (after + 1)

  abbrev beyond : Piece → Bool
  beyond p = wants p && nat_lt after p.first

  -- the last row that begins at the number or below it is that of the rest, if it has one
  before : (p : Piece) (ps : List Piece) → find begins (reverse (p ∷ ps)) ≡ option_or (find begins (reverse ps)) (cond (begins p) (Some p) None)
  before p ps = ap (find begins) (reverse-append (p ∷ []) ps) ∙ find-append begins (reverse ps) (p ∷ [])

  -- no row begins there where all begin above it
  none_before : (low : ℕ) (ps : List Piece) → IsRisingFrom low ps → after + 1 ≤ low → find begins (reverse ps) ≡ None
  none_before low [] rising above = refl
  none_before low (p ∷ ps) rising above =
      let rest = none_before (p.last + 1) ps rising.2 (omega (arith, above, rising.0, rising.1.0)) in
      let out : begins p ≡ false = le-ltb p.first (after + 1) (omega (arith, above, rising.0)) in
      before p ps ∙ (λ i. option_or (rest i) (cond (out i) (Some p) None))

  -- the first of rows that all begin above it
  pub first_beyond : (from low : ℕ) (ps : List Piece) → IsRisingFrom low ps → from ≤ low → after + 1 ≤ low → first_of (ending_from from (filter wants ps)) ≡ find beyond ps
  first_beyond from low [] rising reaches above = refl
  first_beyond from low (p ∷ ps) rising reaches above = go (wants p) (first_beyond from (p.last + 1) ps rising.2 (omega (arith, reaches, rising.0, rising.1.0)) (omega (arith, above, rising.0, rising.1.0)))
    where
      ends : nat_le from p.last ≡ true
      ends = le-leb from p.last (omega (arith, reaches, rising.0, rising.1.0))

      higher : nat_lt after p.first ≡ true
      higher = lt-ltb after p.first (omega (arith, above, rising.0))

      go : (b : Bool) → first_of (ending_from from (filter wants ps)) ≡ find beyond ps → first_of (ending_from from (cond b (p ∷ filter wants ps) (filter wants ps))) ≡ cond (b && nat_lt after p.first) (Some p) (find beyond ps)
      go true rest = (λ i. first_of (cond (ends i) (p ∷ ending_from from (filter wants ps)) (ending_from from (filter wants ps)))) ∙ sym (λ i. cond (higher i) (Some p) (find beyond ps))
      go false rest = rest

  -- a row that ends at the number or below it doesn't reach above it, so it may be left out
  short : (p : Piece) (o : Option Piece) → nat_lt after p.last ≡ false → reaching_beyond wants after (option_or o (Some p)) ≡ reaching_beyond wants after o
  short p None ends = go (wants p)
    where
      go : (b : Bool) → cond (b && nat_lt after p.last) (Some p) None ≡ None
      go true = λ i. cond (ends i) (Some p) None
      go false = refl
  short p (Some q) ends = refl

  -- a row that begins at the number or below it isn't one that begins above it
  passed : (p : Piece) (rest : Option Piece) → nat_lt after p.first ≡ false → cond (beyond p) (Some p) rest ≡ rest
  passed p rest out = go (wants p)
    where
      go : (b : Bool) → cond (b && nat_lt after p.first) (Some p) rest ≡ rest
      go true = λ i. cond (out i) (Some p) rest
      go false = refl

  -- the row before the next number ends above this one: no other begins before
  here_first : (low : ℕ) (p : Piece) (ps : List Piece) → IsRisingFrom low (p ∷ ps) → begins p ≡ true → nat_lt after p.last ≡ true
      → first_of (ending_from (after + 1) (filter wants (p ∷ ps))) ≡ option_or (reaching_beyond wants after (find begins (reverse (p ∷ ps)))) (find beyond (p ∷ ps))
  here_first low p ps rising here reaches =
      go (wants p) ∙ sym ((λ i. option_or (reaching_beyond wants after (before p ps i)) (find beyond (p ∷ ps))) ∙ (λ i. option_or (reaching_beyond wants after (option_or (none i) (cond (here i) (Some p) None))) (find beyond (p ∷ ps))))
    where
      higher : after + 1 ≤ p.last
      higher = omega (arith, ltb-true after p.last reaches)

      none : find begins (reverse ps) ≡ None
      none = none_before (p.last + 1) ps rising.2 (omega (arith, higher))

      ends : nat_le (after + 1) p.last ≡ true
      ends = le-leb (after + 1) p.last higher

      go : (b : Bool) → first_of (ending_from (after + 1) (cond b (p ∷ filter wants ps) (filter wants ps))) ≡ option_or (cond (b && nat_lt after p.last) (Some p) None) (cond (b && nat_lt after p.first) (Some p) (find beyond ps))
      go true = (λ i. first_of (cond (ends i) (p ∷ ending_from (after + 1) (filter wants ps)) (ending_from (after + 1) (filter wants ps)))) ∙ sym (λ i. option_or (cond (reaches i) (Some p) None) (cond (nat_lt after p.first) (Some p) (find beyond ps)))
      go false = first_beyond (after + 1) (p.last + 1) ps rising.2 (omega (arith, higher)) (omega (arith, higher))

  -- a row that ends at the number or below it is passed over
  later_first : (low : ℕ) (p : Piece) (ps : List Piece) → IsRisingFrom low (p ∷ ps) → begins p ≡ true → nat_lt after p.last ≡ false
      → first_of (ending_from (after + 1) (filter wants ps)) ≡ option_or (reaching_beyond wants after (find begins (reverse ps))) (find beyond ps)
      → first_of (ending_from (after + 1) (filter wants (p ∷ ps))) ≡ option_or (reaching_beyond wants after (find begins (reverse (p ∷ ps)))) (find beyond (p ∷ ps))
  later_first low p ps rising here ends later =
      go (wants p) ∙ later
      ∙ sym ((λ i. option_or (reaching_beyond wants after (before p ps i)) (passed p (find beyond ps) out i))
      ∙ (λ i. option_or (reaching_beyond wants after (option_or (find begins (reverse ps)) (cond (here i) (Some p) None))) (find beyond ps))
      ∙ ap (λ o. option_or o (find beyond ps)) (short p (find begins (reverse ps)) ends))
    where
      over : p.last ≤ after
      over = ltb-false after p.last ends

      out : nat_lt after p.first ≡ false
      out = le-ltb after p.first (omega (arith, over, rising.1.0))

      below : nat_le (after + 1) p.last ≡ false
      below = lt-leb (after + 1) p.last (omega (arith, over))

      go : (b : Bool) → first_of (ending_from (after + 1) (cond b (p ∷ filter wants ps) (filter wants ps))) ≡ first_of (ending_from (after + 1) (filter wants ps))
      go true = λ i. first_of (cond (below i) (p ∷ ending_from (after + 1) (filter wants ps)) (ending_from (after + 1) (filter wants ps)))
      go false = refl

  pub next_found : (low : ℕ) (ps : List Piece) → IsRisingFrom low ps
      → first_of (ending_from (after + 1) (filter wants ps)) ≡ option_or (reaching_beyond wants after (find begins (reverse ps))) (find beyond ps)
  next_found low [] rising = refl
  next_found low (p ∷ ps) rising = go (next_found (p.last + 1) ps rising.2) (begins p) refl (nat_lt after p.last) refl
    where
      go : first_of (ending_from (after + 1) (filter wants ps)) ≡ option_or (reaching_beyond wants after (find begins (reverse ps))) (find beyond ps)
          → (b : Bool) → begins p ≡ b → (c : Bool) → nat_lt after p.last ≡ c
          → first_of (ending_from (after + 1) (filter wants (p ∷ ps))) ≡ option_or (reaching_beyond wants after (find begins (reverse (p ∷ ps)))) (find beyond (p ∷ ps))
      go later false out c reaches =
          let above = ltb-false p.first (after + 1) out in
          let risen : IsRisingFrom p.first (p ∷ ps) = (omega arith, rising.1, rising.2) in
          first_beyond (after + 1) p.first (p ∷ ps) risen above above ∙ sym (λ i. option_or (reaching_beyond wants after (none_before p.first (p ∷ ps) risen above i)) (find beyond (p ∷ ps)))
      go later true here true reaches = here_first low p ps rising here reaches
      go later true here false ends = later_first low p ps rising here ends later
