-- The runs of one account that a range has are no fewer than those of a book that it meets.
use Rattle.std.proofs.Common.{◌≡◌, ◌∙◌, ℕ, zero, suc, ◌+◌, ◌-◌, ◌<◌, ◌≤◌, ◌==◌, ◌||◌, List, [], ◌∷◌, Bool, true, false, Option, Some, None, refl, ap, sym, ⊎_elim, arith}
use Rattle.std.specs.Prelude.{count_by, not, max}
use Rattle.std.proofs.lemmas.Bool.{cases_lt}
use Rattle.std.proofs.lemmas.Bool.Decides.{nat_tests}
use Rattle.std.proofs.lemmas.List.Sums.{sum_by-cons}
use Rattle.goo_types.specs.Piece.{Label, label_of, covers, at_of, IsRising, IsRisingFrom}
use Rattle.goo_types.specs.Place.{account_of}
use Rattle.goo_types.specs.Range.{Numbers}
use Rattle.goo_types.specs.declared.lot_fields.LotFields.{LotFields}
use Rattle.goo_types.specs.declared.piece.Piece.{Piece}
use Rattle.std.specs.FinMap.{get}
use Rattle.goo_spec.specs.Lots.{Certificates}
use Rattle.goo_spec.specs.Maps.{numbers_from}
use Rattle.goo_ranges_rows.specs.Rows.{AreRowsOf, meeting}
use Rattle.goo_ranges_rows.proofs.Framing.{meeting-at}
use Rattle.goo_spec.specs.Runs.{IsApart}
use Rattle.goo_spec.proofs.Unique.{none_below}
use Rattle.goo_ranges.specs.Accounts.{by_account, AreAccountRuns}
use Rattle.goo_ranges.specs.Change.{meets, one_if}
use Rattle.goo_core_moves.specs.AccountRuns.{account_in, is_one_account, begins_run, account_runs}

either_true : (b : Bool) → (b || true) ≡ true
either_true true = refl
either_true false = refl

-- labels that differ name two accounts
differ : (lot : LotFields) (o u : Option Label) (a b : Label) → by_account lot o ≡ Some a → by_account lot u ≡ Some b → (a ≡ b → ⊥) → is_one_account (account_in o) (account_in u) ≡ false
differ lot None u a b one other apart = absurd (cc)
differ lot (Some x) None a b one other apart = absurd (cc)
differ lot (Some x) (Some y) a b one other apart =
    elim (account_of x.1 == account_of y.1) as (λ t. (account_of x.1 == account_of y.1) ≡ t → t ≡ false) [
      | true ↦ λ same. let e : account_of x.1 ≡ account_of y.1 = grind (arith, nat_tests) in absurd (apart (cc))
      | false ↦ λ same. refl
    ] refl

-- where nothing is there, no account is named
absent : (lot : LotFields) (o u : Option Label) → by_account lot o ≡ None → is_one_account (account_in o) (account_in u) ≡ false
absent lot None u none = refl
absent lot (Some x) u none = absurd (cc)

module _ (first last : ℕ) (up : first ≤ last) (lot : LotFields) (f : ℕ → Option Label) where
  abbrev begins : ℕ → Bool
  begins n = begins_run f first n

  -- how many runs begin from a number on
  abbrev left : ℕ → ℕ
  left n = count_by begins (numbers_from n (suc last - n))

  left_here : (n : ℕ) → n ≤ last → left n ≡ one_if (begins n) + left (n + 1)
  left_here n le =
      let e : suc last - n ≡ suc (suc last - (n + 1)) = omega arith in
      ap (λ k. count_by begins (numbers_from n k)) e ∙ sum_by-cons (λ m. one_if (begins m)) n (numbers_from (n + 1) (suc last - (n + 1)))

  left_none : (n : ℕ) → last < n → left n ≡ 0
  left_none n gt =
      let e : suc last - n ≡ 0 = omega arith in
      ap (λ k. count_by begins (numbers_from n k)) e

  left_falls : (d n m : ℕ) → n + d ≡ m → left m ≤ left n
  left_falls zero n m e = let same : n ≡ m = omega arith in let l = ap left same in omega (arith, l)
  left_falls (suc d) n m e =
      ⊎_elim
      (λ (gt : last < n). let past : last < m = omega arith in omega (arith, left_none n gt, left_none m past))
      (λ (le : n ≤ last). let next : (n + 1) + d ≡ m = omega arith in omega (arith, left_here n le, left_falls d (n + 1) m next))
      (cases_lt last n)

  falls : (n m : ℕ) → n ≤ m → left m ≤ left n
  falls n m le = let e : n + (m - n) ≡ m = omega arith in left_falls (m - n) n m e

  begins_first : begins first ≡ true
  begins_first = let e : (first == first) ≡ true = grind (arith, nat_tests) in ap (λ b. b || not (is_one_account (account_in (f (first - 1))) (account_in (f first)))) e

  begins_by : (n : ℕ) → is_one_account (account_in (f (n - 1))) (account_in (f n)) ≡ false → begins n ≡ true
  begins_by n other = ap (λ b. (n == first) || not b) other ∙ either_true (n == first)

  -- a run begins with the first piece, unless that begins before the range
  abbrev FirstBegins : List Piece → Type 0
  FirstBegins [] = Unit {0}
  FirstBegins (p ∷ ps) = first ≤ p.first → begins p.first ≡ true

  -- the piece after another one begins a run
  next_begins : (low : ℕ) (p : Piece) (ps : List Piece) → IsRisingFrom low (p ∷ ps) → IsApart (p ∷ ps) → ((n : ℕ) → low ≤ n → at_of (p ∷ ps) n ≡ by_account lot (f n)) → FirstBegins ps
  next_begins low p [] r apart same = tt
  next_begins low p (q ∷ qs) r apart same = λ from.
      let above : p.last + 1 ≤ q.first = r.2.0 in
      let forward : p.first ≤ p.last = r.1.0 in
      let here : low ≤ p.first = r.0 in
      let beyond : covers p q.first ≡ false = grind (arith, nat_tests) in
      let mine : covers q q.first ≡ true = grind (arith, nat_tests, r.2.1.0) in
      let label : at_of (p ∷ q ∷ qs) q.first ≡ Some (label_of q) = rw (beyond, mine) refl in
      let named : by_account lot (f q.first) ≡ Some (label_of q) = sym (same q.first (omega arith)) ∙ label in
      ⊎_elim
      (λ (gap : p.last + 1 < q.first).
      let out : covers p (q.first - 1) ≡ false = grind (arith, nat_tests) in
      let none : at_of (p ∷ q ∷ qs) (q.first - 1) ≡ None = rw out (none_below q.first (q ∷ qs) (q.first - 1) (omega arith, r.2.1, r.2.2) (omega arith)) in
      begins_by q.first (absent lot (f (q.first - 1)) (f q.first) (sym (same (q.first - 1) (omega arith)) ∙ none)))
      (λ (at_once : q.first ≤ p.last + 1).
      let next : p.last + 1 ≡ q.first = omega arith in
      let within : covers p (q.first - 1) ≡ true = grind (arith, nat_tests) in
      let before : at_of (p ∷ q ∷ qs) (q.first - 1) ≡ Some (label_of p) = rw within refl in
      begins_by q.first (differ lot (f (q.first - 1)) (f q.first) (label_of p) (label_of q) (sym (same (q.first - 1) (omega arith)) ∙ before) named (λ alike. apart.0 (next, alike))))
      (cases_lt (p.last + 1) q.first)

  rest_same : (low : ℕ) (p : Piece) (ps : List Piece) → IsRisingFrom low (p ∷ ps) → ((n : ℕ) → low ≤ n → at_of (p ∷ ps) n ≡ by_account lot (f n)) → (n : ℕ) → p.last + 1 ≤ n → at_of ps n ≡ by_account lot (f n)
  rest_same low p ps r same n above =
      let out : covers p n ≡ false = grind (arith, nat_tests) in
      let forward : p.first ≤ p.last = r.1.0 in
      let here : low ≤ p.first = r.0 in
      let whole : at_of (p ∷ ps) n ≡ at_of ps n = rw out refl in
      sym whole ∙ same n (omega arith)

  counted : (low : ℕ) (ps : List Piece) → IsRisingFrom low ps → IsApart ps → FirstBegins ps → ((n : ℕ) → low ≤ n → at_of ps n ≡ by_account lot (f n)) → count_by (meets first last) ps ≤ left (max low first)
  counted low [] r apart starts same = omega arith
  counted low (p ∷ ps) r apart starts same =
      let forward : p.first ≤ p.last = r.1.0 in
      let here : low ≤ p.first = r.0 in
      let rest : count_by (meets first last) ps ≤ left (max (p.last + 1) first) = counted (p.last + 1) ps r.2 apart.1 (next_begins low p ps r apart same) (rest_same low p ps r same) in
      let more : count_by (meets first last) (p ∷ ps) ≡ one_if (meets first last p) + count_by (meets first last) ps = sum_by-cons (λ q. one_if (meets first last q)) p ps in
      let both : one_if (meets first last p) + count_by (meets first last) ps ≤ left (max low first) = elim (meets first last p) as (λ b. meets first last p ≡ b → one_if b + count_by (meets first last) ps ≤ left (max low first)) [
        | true ↦ λ met.
            let under : p.first ≤ last = grind (arith, nat_tests) in
            let over : first ≤ p.last = grind (arith, nat_tests) in
            let m = max p.first first in
            let begun : begins m ≡ true = ⊎_elim
            (λ (lt : p.first < first). let e : first ≡ max p.first first = omega arith in ap begins (sym e) ∙ begins_first)
            (λ (ge : first ≤ p.first). let e : p.first ≡ max p.first first = omega arith in ap begins (sym e) ∙ starts ge)
            (cases_lt p.first first) in
            let one : one_if (begins m) ≡ 1 = ap one_if begun in
            omega (arith, left_here m (omega arith), one, falls (m + 1) (max (p.last + 1) first) (omega arith), falls (max low first) m (omega arith))
        | false ↦ λ apart. omega (arith, falls (max low first) (max (p.last + 1) first) (omega arith))
      ] refl in
      omega (arith, more, both)

  first_begins : (ps : List Piece) → IsRising ps → ((n : ℕ) → at_of ps n ≡ by_account lot (f n)) → FirstBegins ps
  first_begins [] r same = tt
  first_begins (p ∷ ps) r same = λ from.
      ⊎_elim
      (λ (lt : first < p.first).
      let none : at_of (p ∷ ps) (p.first - 1) ≡ None = none_below p.first (p ∷ ps) (p.first - 1) (omega arith, r.1, r.2) (omega arith) in
      begins_by p.first (absent lot (f (p.first - 1)) (f p.first) (sym (same (p.first - 1)) ∙ none)))
      (λ (le : p.first ≤ first). let e : first ≡ p.first = omega arith in ap begins (sym e) ∙ begins_first)
      (cases_lt first p.first)

  pub runs_counted : (ps : List Piece) → IsRising ps → IsApart ps → ((n : ℕ) → at_of ps n ≡ by_account lot (f n)) → count_by (meets first last) ps ≤ left first
  runs_counted ps r apart same =
      let all = counted 0 ps r apart (first_begins ps r same) (λ n above. same n) in
      omega (arith, falls first (max 0 first) (omega arith))

-- one edit for each of a book's runs that a range meets is no more than the range has runs
pub few_runs : (range : Numbers) (book runs : List Piece) → range.first ≤ range.last → AreAccountRuns book runs → count_by (meets range.first range.last) runs ≤ account_runs (at_of book) range
few_runs range [] runs up are = let none : count_by (meets range.first range.last) runs ≡ 0 = ap (count_by (meets range.first range.last)) are in omega (arith, none)
few_runs range (p ∷ ps) runs up are = runs_counted range.first range.last up p.lot (at_of (p ∷ ps)) runs are.rising are.maximal are.same

-- runs counted in maps that agree on the range are the same
module _ (f g : ℕ → Option Label) (range : Numbers) (same : (n : ℕ) → range.first ≤ n → n ≤ range.last → f n ≡ g n) where
  begins_alike : (n : ℕ) → range.first ≤ n → n ≤ range.last → begins_run f range.first n ≡ begins_run g range.first n
  begins_alike n from to =
      elim (n == range.first) as (λ b. (n == range.first) ≡ b → (b || not (is_one_account (account_in (f (n - 1))) (account_in (f n)))) ≡ (b || not (is_one_account (account_in (g (n - 1))) (account_in (g n))))) [
        | true ↦ λ first. refl
        | false ↦ λ later.
            let above : range.first < n = grind (arith, nat_tests) in
            λ i. false || not (is_one_account (account_in (same (n - 1) (omega arith) (omega arith) i)) (account_in (same n from to i)))
      ] refl

  counted_alike : (k n : ℕ) → range.first ≤ n → n + k ≤ suc range.last → count_by (begins_run f range.first) (numbers_from n k) ≡ count_by (begins_run g range.first) (numbers_from n k)
  counted_alike zero n from to = refl
  counted_alike (suc k) n from to =
      sum_by-cons (λ m. one_if (begins_run f range.first m)) n (numbers_from (n + 1) k)
      ∙ (λ i. one_if (begins_alike n from (omega arith) i) + counted_alike k (n + 1) (omega arith) (omega arith) i)
      ∙ sym (sum_by-cons (λ m. one_if (begins_run g range.first m)) n (numbers_from (n + 1) k))

  runs_alike : account_runs f range ≡ account_runs g range
  runs_alike =
      ⊎_elim
      (λ (lt : range.first < suc range.last). counted_alike (suc range.last - range.first) range.first (omega arith) (omega arith))
      (λ (ge : suc range.last ≤ range.first). let none : suc range.last - range.first ≡ 0 = omega arith in rw none refl)
      (cases_lt range.first (suc range.last))

-- the runs that a range has are counted in the rows that it meets
pub met_runs : (at : Certificates) (rows met : List Piece) (range : Numbers) → AreRowsOf at rows → met ≡ meeting range rows → account_runs (at_of met) range ≡ account_runs (get at) range
met_runs at rows met range kept is = ap (λ l. account_runs (at_of l) range) is ∙ runs_alike (at_of (meeting range rows)) (get at) range (λ n from to. meeting-at at rows range kept n from to)
