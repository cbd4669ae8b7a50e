-- Runs that rise have no more certificates than numbers up to their last.
use Rattle.std.proofs.Common.{◌≡◌, ◌∙◌, ℕ, ◌+◌, ◌<◌, ◌≤◌, List, [], ◌∷◌, ◌++◌, length, get_or, take, drop, refl, ap, sym, arith, take-append-drop}
use Rattle.std.proofs.lemmas.List.{take_more}
use Rattle.goo_types.specs.declared.piece.Piece.{Piece}
use Rattle.goo_types.specs.Piece.{IsRising, IsRisingFrom}
use Rattle.goo_files_documents.specs.Cancellation.{certificates_in}
use Rattle.goo_files_documents.specs.Runs.{count_of}

pub certificates-append : (ps qs : List Piece) → certificates_in (ps ++ qs) ≡ certificates_in ps + certificates_in qs
certificates-append [] qs = omega arith
certificates-append (p ∷ ps) qs = let rest = certificates-append ps qs in omega (arith, rest)

-- the number after the last
abbrev pub end_of : ℕ → List Piece → ℕ
end_of low [] = low
end_of low (p ∷ ps) = end_of (p.last + 1) ps

pub few_certificates : (low : ℕ) (ps : List Piece) → IsRisingFrom low ps → certificates_in ps + low ≤ end_of low ps
few_certificates low [] r = omega arith
few_certificates low (p ∷ ps) r =
    let here : low ≤ p.first = r.0 in
    let forward : p.first ≤ p.last = r.1.0 in
    let rest = few_certificates (p.last + 1) ps r.2 in
    omega (arith, here, forward, rest)

pub rising-front : (low : ℕ) (xs ys : List Piece) → IsRisingFrom low (xs ++ ys) → IsRisingFrom low xs
rising-front low [] ys r = tt
rising-front low (p ∷ xs) ys r = (r.0, r.1, rising-front (p.last + 1) xs ys r.2)

end-append : (low : ℕ) (ps : List Piece) (p : Piece) → end_of low (ps ++ p ∷ []) ≡ p.last + 1
end-append low [] p = refl
end-append low (q ∷ ps) p = end-append (q.last + 1) ps p

-- the sum so far
pub record IsSum (runs : List Piece) (i sum : ℕ) : Type 0 where
  pub bound : end_of 0 (take i runs) ≤ 100000000000000
  pub sum_is : IsRising runs → sum ≡ certificates_in (take i runs)

pub sum_start : (runs : List Piece) → IsSum runs 0 0
sum_start runs = record { bound = omega arith; sum_is = λ r. refl }

pub front_few : (runs : List Piece) (i : ℕ) → IsRising runs → certificates_in (take i runs) ≤ end_of 0 (take i runs)
front_few runs i r =
    let split : IsRising (take i runs ++ drop i runs) = rw (take-append-drop i runs) r in
    let few = few_certificates 0 (take i runs) (rising-front 0 (take i runs) (drop i runs) split) in
    omega (arith, few)

pub sum_on : (runs : List Piece) (i sum next : ℕ) (p : Piece) → i < length runs → p ≡ get_or runs i p → p.last < 100000000000000 → IsSum runs i sum → (sum ≤ 100000000000000 → next ≡ sum + count_of p) → IsSum runs (i + 1) next
sum_on runs i sum next p lt is small so added =
    let more : take (i + 1) runs ≡ take i runs ++ p ∷ [] = take_more runs i p lt ∙ ap (λ q. take i runs ++ q ∷ []) (sym is) in
    let bound : end_of 0 (take i runs) ≤ 100000000000000 = so.bound in
    record {
      bound = rw (more, end-append 0 (take i runs) p) (omega (arith, small));
      sum_is = λ r.
          let now : sum ≡ certificates_in (take i runs) = so.sum_is r in
          let few = front_few runs i r in
          let step : next ≡ sum + count_of p = added (omega (arith, now, few, bound)) in
          let sums : certificates_in (take (i + 1) runs) ≡ certificates_in (take i runs) + (count_of p + 0) = ap certificates_in more ∙ certificates-append (take i runs) (p ∷ []) in
          omega (arith, now, step, sums);
    }
