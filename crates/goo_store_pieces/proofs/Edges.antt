-- The next row after a number at which a row ends.
use Rattle.std.proofs.Common.{◌≡◌, ◌≤◌, ◌+◌, ◌==◌, ◌&&◌, ◌||◌, nat_le, nat_lt, ℕ, Bool, true, false, cond, List, [], ◌∷◌, find, Option, Some, None, Ok, Err, Result, IfSome, IsSomeAnd, refl, sym, ap, ◌∙◌, true≢false, arith}
use Rattle.std.specs.Prelude.{IsOkAnd}
use Rattle.std.specs.List.{filter, list_any}
use Rattle.std.proofs.lemmas.Bool.{le-ltb, lt-leb, eqb-true, eq-eqb}
use Rattle.goo_types.specs.Piece.{IsRising, IsRisingFrom}
use Rattle.goo_types.specs.declared.piece.Piece.{Piece}
use Rattle.goo_spec_runs.specs.NextRun.{ending_from, first_of, from_of}
use Rattle.goo_store_plans.specs.Found.{IsEdge}
use Rattle.goo_store_values.specs.declared.statement_fault.StatementFault.{StatementFault}
use Rattle.goo_store_pieces.proofs.Next.{first_beyond}

module _ (wants : Piece → Bool) (after : ℕ) where
  -- the number isn't below rows of which one ends at it
  above_low : (low : ℕ) (ps : List Piece) → IsRisingFrom low ps → list_any (λ p. p.last == after) ps ≡ true → low ≤ after
  above_low low [] rising is = absurd (true≢false (sym is))
  above_low low (p ∷ ps) rising is = go (above_low (p.last + 1) ps rising.2) (p.last == after) refl is
    where
      go : (list_any (λ q. q.last == after) ps ≡ true → p.last + 1 ≤ after) → (b : Bool) → (p.last == after) ≡ b → (b || list_any (λ q. q.last == after) ps) ≡ true → low ≤ after
      go rest true same is = omega (arith, eqb-true p.last after same, rising.0, rising.1.0)
      go rest false other is = let up = rest is in omega (arith, up, rising.0, rising.1.0)

  -- a row that ends at the number or below it is passed over
  passed : (p : Piece) (ps : List Piece) → p.first ≤ p.last → p.last ≤ after → first_of (ending_from (after + 1) (filter wants ps)) ≡ find (λ q. wants q && nat_lt after q.first) ps
      → first_of (ending_from (after + 1) (filter wants (p ∷ ps))) ≡ find (λ q. wants q && nat_lt after q.first) (p ∷ ps)
  passed p ps forward low rest = go (wants p)
    where
      short : nat_le (after + 1) p.last ≡ false
      short = lt-leb (after + 1) p.last (omega (arith, low))

      below : nat_lt after p.first ≡ false
      below = le-ltb after p.first (omega (arith, forward, low))

      go : (b : Bool) → first_of (ending_from (after + 1) (cond b (p ∷ filter wants ps) (filter wants ps))) ≡ cond (b && nat_lt after p.first) (Some p) (find (λ q. wants q && nat_lt after q.first) ps)
      go true = (λ i. first_of (cond (short i) (p ∷ ending_from (after + 1) (filter wants ps)) (ending_from (after + 1) (filter wants ps)))) ∙ rest ∙ sym (λ i. cond (below i) (Some p) (find (λ q. wants q && nat_lt after q.first) ps))
      go false = rest

  next_at : (low : ℕ) (ps : List Piece) → IsRisingFrom low ps → list_any (λ p. p.last == after) ps ≡ true → first_of (ending_from (after + 1) (filter wants ps)) ≡ find (λ p. wants p && nat_lt after p.first) ps
  next_at low [] rising is = refl
  next_at low (p ∷ ps) rising is = go (next_at (p.last + 1) ps rising.2) (p.last == after) refl is
    where
      go : (list_any (λ q. q.last == after) ps ≡ true → first_of (ending_from (after + 1) (filter wants ps)) ≡ find (λ q. wants q && nat_lt after q.first) ps) → (b : Bool) → (p.last == after) ≡ b → (b || list_any (λ q. q.last == after) ps) ≡ true → first_of (ending_from (after + 1) (filter wants (p ∷ ps))) ≡ find (λ q. wants q && nat_lt after q.first) (p ∷ ps)
      go rest true same is =
          let at = eqb-true p.last after same in
          passed p ps rising.1.0 (omega (arith, at)) (first_beyond wants after (after + 1) (p.last + 1) ps rising.2 (omega (arith, at)) (omega (arith, at)))
      go rest false other is =
          let up = above_low (p.last + 1) ps rising.2 is in
          passed p ps rising.1.0 (omega (arith, up)) (rest is)

-- no row reaches above the number from below, so the next is the first that begins above it
pub next_behind : (wants : Piece → Bool) (asked : Option ℕ) (after : ℕ) → asked ≡ Some after → (ps : List Piece) → IsRising ps → IsEdge (Some after) ps
    → first_of (ending_from (from_of asked) (filter wants ps)) ≡ find (λ p. wants p && nat_lt after p.first) ps
next_behind wants asked after named ps rising edge = ap (λ a. first_of (ending_from (from_of a) (filter wants ps))) named ∙ next_at wants after 0 ps rising edge

-- a row that is found is among the rows
found_among : (test : Piece → Bool) (n : ℕ) (ps : List Piece) (p : Piece) → Some p ≡ find test ps → p.last ≡ n → list_any (λ q. q.last == n) ps ≡ true
found_among test n [] p found at = absurd cc
found_among test n (q ∷ ps) p found at = go (λ it. found_among test n ps p it at) (test q) found
  where
    same : (a b : Piece) → Some a ≡ Some b → a ≡ b
    same a b is = cc

    or_true : (b : Bool) → (b || true) ≡ true
    or_true true = refl
    or_true false = refl

    go : (Some p ≡ find test ps → list_any (λ r. r.last == n) ps ≡ true) → (b : Bool) → Some p ≡ cond b (Some q) (find test ps) → ((q.last == n) || list_any (λ r. r.last == n) ps) ≡ true
    go rest true is = ap (λ b. b || list_any (λ r. r.last == n) ps) (eq-eqb q.last n (sym (ap (λ (x : Piece). x.last) (same p q is)) ∙ at))
    go rest false is = ap (λ b. (q.last == n) || b) (rest is) ∙ or_true (q.last == n)

-- so the number at which it ends is an edge
pub edge_found : (test : Piece → Bool) (ps : List Piece) (edge : Option ℕ) (read : Result (Option Piece) StatementFault) → ((row : Option Piece) → read ≡ Ok row → row ≡ find test ps)
    → IfSome edge (λ n. IsOkAnd read (λ found. IsSomeAnd found (λ p. p.last ≡ n))) → IsEdge edge ps
edge_found test ps None read found is = tt
edge_found test ps (Some n) (Ok (Some p)) found is = found_among test n ps p (found (Some p) refl) is
edge_found test ps (Some n) (Ok None) found is = absurd is
edge_found test ps (Some n) (Err e) found is = absurd is
