-- The certificates of rows.
use Rattle.std.proofs.Common.{max, ◌≡◌, ℕ, zero, suc, ◌+◌, ◌-◌, ◌*◌, ◌<◌, ◌≤◌, ◌==◌, ◌&&◌, length, get_or, take, List, [], ◌∷◌, Bool, true, false, cond, Some, None, refl, sym, ap, ◌∙◌, arith}
use Rattle.std.specs.Prelude.{sum_by, count_by}
use Rattle.std.specs.Str.{bytes_eq}
use Rattle.goo_types.specs.Number.{code_of}
use Rattle.std.specs.Ordering.{nat_cmp}
use Rattle.std.specs.Cmp.{nat_cmp_total}
use Rattle.std.specs.FinMap.{get, entries, empty, get-empty, len-empty, len-entries, same_map, nat_cmp-IsAntisymmetric}
use Rattle.std.proofs.lemmas.List.Sums.{sum_by-cons}
use Rattle.goo_types.specs.declared.lot_fields.LotFields.{LotFields}
use Rattle.goo_types.specs.declared.place.Place.{Place}
use Rattle.goo_types.specs.declared.piece.Piece.{Piece}
use Rattle.goo_types.specs.Piece.{Label, label_of, covers, at_of, IsForward, IsRisingFrom}
use Rattle.goo_spec.specs.Lots.{Certificates}
use Rattle.goo_spec.specs.Maps.{each}
use Rattle.goo_spec.proofs.Placing.{get-give_each}
use Rattle.goo_spec.specs.State.{Correction, serials}
use Rattle.goo_spec.specs.Energy.{is_issued_to, is_taken_back, is_corrected}
use Rattle.std.proofs.lemmas.Bool.{eqb-true}
use Rattle.goo_spec.proofs.Counting.{one, one_at}
use Rattle.goo_spec.proofs.Giving.{count-give_each}
use Rattle.goo_ranges_pieces.proofs.Rising.{at_of-below}
use Rattle.goo_ranges_rows.specs.Rows.{AreRowsOf}
use Rattle.goo_ranges_rows.proofs.Mapping.{one_of-each}
use Rattle.goo_ranges_rows.specs.Certificates.{numbers_of, issued_in, corrected_in, certificates_of}

no_entries : {X : Type 0} (xs : List X) → length xs ≡ 0 → xs ≡ []
no_entries [] e = refl
no_entries (x ∷ xs) e = absurd (omega arith)

nothing : entries (empty {X = Label} {R = nat_cmp}) ≡ []
nothing = no_entries (entries empty) (sym (len-entries empty) ∙ len-empty nat_cmp Label)

-- rows that rise have the map that they give
get-certificates_of : (low : ℕ) (rows : List Piece) (n : ℕ) → IsRisingFrom low rows → get (certificates_of rows) n ≡ at_of rows n
unfolding certificates_of
get-certificates_of low [] n rising = get-empty nat_cmp n
get-certificates_of low (p ∷ ps) n rising =
    get-give_each p.lot p.place (each (numbers_of p)) (certificates_of ps) n
    ∙ ap (λ b. cond b (Some (label_of p)) (get (certificates_of ps) n)) (one_of-each (numbers_of p) n rising.1.0)
    ∙ ap (cond (covers p n) (Some (label_of p))) (get-certificates_of (p.last + 1) ps n rising.2)

-- rows have one map
pub certificates-same : (at : Certificates) (rows : List Piece) → AreRowsOf at rows → certificates_of rows ≡ at
certificates-same at rows are = same_map nat_cmp_total nat_cmp-IsAntisymmetric (certificates_of rows) at (λ n. get-certificates_of 0 rows n are.disjoint ∙ are.same n)

pub certificates-rows : (rows : List Piece) → IsRisingFrom 0 rows → AreRowsOf (certificates_of rows) rows
certificates-rows rows rising = record { disjoint = rising; same = λ n. sym (get-certificates_of 0 rows n rising) }

at_most : (b : Bool) (low first last : ℕ) → low ≤ first → first ≤ last → cond b (last + 1 - first) 0 + low ≤ last + 1
at_most true low first last above forward = omega arith
at_most false low first last above forward = omega arith

-- the rows before a row that rises have fewer of the device's certificates than numbers below it
pub issued-below : (own : ℕ) (device : List ℕ) (low : ℕ) (ps : List Piece) (i : ℕ) (d : Piece) → IsRisingFrom low ps → i < length ps
    → sum_by (issued_in own device) (take i ps) + low ≤ (get_or ps i d).first
issued-below own device low [] i d rising lt = absurd (omega arith)
issued-below own device low (p ∷ ps) zero d rising lt = let above = rising.0 in omega arith
issued-below own device low (p ∷ ps) (suc i) d rising lt =
    let rest = issued-below own device (p.last + 1) ps i d rising.2 (omega arith) in
    let here : issued_in own device p + low ≤ p.last + 1 = at_most (code_of p.first == own && bytes_eq p.lot.device device) low p.first p.last rising.0 rising.1.0 in
    let sums : sum_by (issued_in own device) (take (suc i) (p ∷ ps)) ≡ issued_in own device p + sum_by (issued_in own device) (take i ps) = sum_by-cons (issued_in own device) p (take i ps) in
    omega (arith, rest, here, sums)

pub forward-at : (low : ℕ) (ps : List Piece) (i : ℕ) (d : Piece) → IsRisingFrom low ps → i < length ps → IsForward (get_or ps i d)
forward-at low [] i d rising lt = absurd (omega arith)
forward-at low (p ∷ ps) zero d rising lt = rising.1
forward-at low (p ∷ ps) (suc i) d rising lt = forward-at (p.last + 1) ps i d rising.2 (omega arith)

so_many : (b : Bool) (first last rest : ℕ) → rest + (suc last - first) * cond b 1 0 ≡ cond b (last + 1 - first) 0 + rest
so_many true first last rest = omega arith
so_many false first last rest = omega arith

at_most_so : (b : Bool) (n : ℕ) → cond b n 0 ≤ n
at_most_so true n = omega arith
at_most_so false n = omega arith

-- certificates that pass a test of their code, lot and place
module _ (counts : ℕ → LotFields → Place → Bool) where
  abbrev passes : ℕ × Label → Bool
  passes e = counts (code_of e.0) e.1.0 e.1.1

  abbrev counted_in : Piece → ℕ
  counted_in p = cond (counts (code_of p.first) p.lot p.place) (p.last + 1 - p.first) 0

  here_counted : (p : Piece) (n : ℕ) (at : Certificates) → code_of p.first ≡ code_of p.last → p.first ≤ n → n < p.first + (suc p.last - p.first) → get at n ≡ None
      → one passes (n, (p.lot, p.place)) ≡ one_at passes n (get at n) + cond (counts (code_of p.first) p.lot p.place) 1 0
  here_counted p n at codes low high none =
      let code : code_of n ≡ code_of p.first = omega (arith, codes, low, high) in
      let new : one passes (n, (p.lot, p.place)) ≡ cond (counts (code_of p.first) p.lot p.place) 1 0 = ap (λ k. cond (counts k p.lot p.place) 1 0) code in
      let old : one_at passes n (get at n) ≡ 0 = ap (one_at passes n) none in
      omega (arith, new, old)

  counted-rows : (low : ℕ) (ps : List Piece) → IsRisingFrom low ps → count_by passes (entries (certificates_of ps)) ≡ sum_by counted_in ps
  unfolding certificates_of
  counted-rows low [] rising = ap (count_by passes) nothing
  counted-rows low (p ∷ ps) rising =
      let b = counts (code_of p.first) p.lot p.place in
      let forward : p.first ≤ p.last = rising.1.0 in
      count-give_each passes p.lot p.place (cond b 1 0) (suc p.last - p.first) p.first (certificates_of ps)
      (λ n from to. here_counted p n (certificates_of ps) rising.1.1 from to (get-certificates_of (p.last + 1) ps n rising.2 ∙ at_of-below (p.last + 1) ps n rising.2 (omega (arith, forward, to))))
      ∙ ap (λ k. k + (suc p.last - p.first) * cond b 1 0) (counted-rows (p.last + 1) ps rising.2)
      ∙ so_many b p.first p.last (sum_by counted_in ps)
      ∙ sym (sum_by-cons counted_in p ps)

module _ (own : ℕ) (device : List ℕ) where
  pub issued-rows : (low : ℕ) (ps : List Piece) → IsRisingFrom low ps → count_by (is_issued_to own device) (entries (certificates_of ps)) ≡ sum_by (issued_in own device) ps
  issued-rows low ps rising = counted-rows (λ c lot place. c == own && bytes_eq lot.device device) low ps rising

  pub corrected-rows : (cs : List Correction) (low : ℕ) (ps : List Piece) → IsRisingFrom low ps → count_by (is_corrected own device cs) (entries (certificates_of ps)) ≡ sum_by (corrected_in own device cs) ps
  corrected-rows cs low ps rising =
      counted-rows (λ c lot place. (c == own && bytes_eq lot.device device) && is_taken_back device cs place) low ps rising
      ∙ ap (λ count. sum_by count ps) (λ i p. other_order (code_of p.first == own && bytes_eq p.lot.device device) (is_taken_back device cs p.place) (p.last + 1 - p.first) i)
    where
      other_order : (a b : Bool) (n : ℕ) → cond (a && b) n 0 ≡ cond b (cond a n 0) 0
      other_order true b n = refl
      other_order false true n = refl
      other_order false false n = refl

  -- no more of some rows were taken back than were issued
  pub corrected-few : (cs : List Correction) (ps : List Piece) → sum_by (corrected_in own device cs) ps ≤ sum_by (issued_in own device) ps
  corrected-few cs [] = omega arith
  corrected-few cs (p ∷ ps) =
      let here = at_most_so (is_taken_back device cs p.place) (issued_in own device p) in
      let rest = corrected-few cs ps in
      omega (arith, here, rest, sum_by-cons (corrected_in own device cs) p ps, sum_by-cons (issued_in own device) p ps)

  pub own-block : (low : ℕ) (ps : List Piece) → IsRisingFrom low ps → sum_by (issued_in own device) ps + max low (own * serials) ≤ max low ((own + 1) * serials)
  own-block low [] rising = omega arith
  own-block low (p ∷ ps) rising =
      let rest = own-block (p.last + 1) ps rising.2 in
      let above = rising.0 in
      let forward : p.first ≤ p.last = rising.1.0 in
      let codes : code_of p.first ≡ code_of p.last = rising.1.1 in
      let sums = sum_by-cons (issued_in own device) p ps in
      elim (code_of p.first == own) as (λ b. (code_of p.first == own) ≡ b → sum_by (issued_in own device) (p ∷ ps) + max low (own * serials) ≤ max low ((own + 1) * serials)) [
        | true ↦ λ same.
            let code = eqb-true (code_of p.first) own same in
            let here : issued_in own device p ≤ p.last + 1 - p.first = rw same (at_most_so (bytes_eq p.lot.device device) (p.last + 1 - p.first)) in
            omega (arith, rest, above, forward, codes, code, sums, here)
        | false ↦ λ other.
            let here : issued_in own device p ≡ 0 = rw other refl in
            omega (arith, rest, above, forward, sums, here)
      ] refl
