-- Rows that pass a test, and the map that they give.
use Rattle.std.proofs.Common.{◌≡◌, ℕ, ◌+◌, ◌<◌, List, [], ◌∷◌, Bool, true, false, cond, Some, None, refl, ap, ◌∙◌, arith}
use Rattle.std.specs.List.{filter}
use Rattle.std.specs.FinMap.{get}
use Rattle.std.proofs.lemmas.Bool.Decides.{nat_tests}
use Rattle.goo_types.specs.declared.place.Place.{Place}
use Rattle.goo_types.specs.declared.piece.Piece.{Piece}
use Rattle.goo_types.specs.Piece.{at_of, covers, IsRisingFrom}
use Rattle.goo_ranges_pieces.proofs.Rising.{at_of-below}
use Rattle.goo_spec.specs.Lots.{Certificates}
use Rattle.goo_spec.specs.Runs.{AreRunsOf}
use Rattle.goo_ranges_rows.specs.Rows.{AreRowsOf}
use Rattle.goo_ranges_rows.proofs.Near.{filter-rising}
use Rattle.goo_core_shelf.specs.Rows.{naming_account}
use Rattle.goo_core_reads.specs.Reads.{kept_if, kept_where, names}

-- a map of rows that pass a test is that of all rows, where it passes
pub at_of-filter : (test : Place → Bool) (low : ℕ) (rows : List Piece) (n : ℕ) → IsRisingFrom low rows → at_of (filter (λ p. test p.place) rows) n ≡ kept_if test (at_of rows n)
at_of-filter test low [] n r = refl
at_of-filter test low (p ∷ ps) n r =
    let rest = at_of-filter test (p.last + 1) ps n r.2 in
    elim (covers p n) as (λ c. covers p n ≡ c → at_of (cond (test p.place) (p ∷ filter (λ q. test q.place) ps) (filter (λ q. test q.place) ps)) n ≡ kept_if test (cond c (Some (p.lot, p.place)) (at_of ps n))) [
      | true ↦ λ here.
          let below : n < p.last + 1 = grind (arith, nat_tests, here) in
          let gone : at_of (filter (λ q. test q.place) ps) n ≡ None = at_of-below (p.last + 1) (filter (λ q. test q.place) ps) n (filter-rising (λ q. test q.place) (p.last + 1) ps r.2) below in
          elim (test p.place) as (λ t. at_of (cond t (p ∷ filter (λ q. test q.place) ps) (filter (λ q. test q.place) ps)) n ≡ cond t (Some (p.lot, p.place)) None) [
            | true ↦ rw here refl
            | false ↦ gone
          ]
      | false ↦ λ here.
          elim (test p.place) as (λ t. at_of (cond t (p ∷ filter (λ q. test q.place) ps) (filter (λ q. test q.place) ps)) n ≡ kept_if test (at_of ps n)) [
            | true ↦ rw here rest
            | false ↦ rest
          ]
    ] refl

pub named_runs : (at : Certificates) (rows found runs : List Piece) (account : ℕ) → AreRowsOf at rows → found ≡ naming_account account rows → AreRunsOf (at_of found) runs → AreRunsOf (kept_where (names account) (get at)) runs
named_runs at rows found runs account kept is are = record {
  rising = are.rising;
  maximal = are.maximal;
  same = λ n. are.same n ∙ ap (λ l. at_of l n) is ∙ at_of-filter (names account) 0 rows n kept.disjoint ∙ ap (kept_if (names account)) (kept.same n);
}
