-- The rows that name an account: they rise, each has the code of its lot, and they give what the account's certificates are.
use Rattle.std.proofs.Common.{◌≡◌, ◌∙◌, ℕ, ◌+◌, ◌<◌, ◌≤◌, List, [], ◌∷◌, Bool, true, false, cond, Option, Some, None, ap, sym, refl, arith, ⊎_elim}
use Rattle.std.specs.FinMap.{get}
use Rattle.goo_types.specs.Number.{code_of}
use Rattle.goo_types.specs.declared.piece.Piece.{Piece}
use Rattle.goo_types.specs.declared.place.Place.{Place}
use Rattle.goo_types.specs.Piece.{Label, label_of, at_of, IsRising, IsRisingFrom}
use Rattle.goo_ranges_pieces.proofs.Covers.{covers-inside, covers-above}
use Rattle.goo_ranges_pieces.proofs.Rising.{at_of-below}
use Rattle.std.proofs.lemmas.Bool.{cases_lt}
use Rattle.goo_spec.specs.Sound.{IsSound}
use Rattle.goo_spec.specs.State.{State}
use Rattle.goo_ranges_rows.specs.Rows.{AreRowsOf}
use Rattle.goo_ranges_rows.proofs.Near.{filter-rising}
use Rattle.goo_core_shelf.specs.Rows.{naming_account}
use Rattle.goo_spec.specs.Runs.{AreRunsOf}
use Rattle.goo_spec_runs.specs.Joined.{joined, AreCoded}
use Rattle.goo_spec_runs.proofs.Joining.{joined_runs}
use Rattle.goo_core_reads.specs.Reads.{kept_if, kept_where, names}
use Rattle.goo_core_reads.proofs.Keeping.{at_of-filter}

-- rows whose map has lots of their numbers' codes
coded_by : (low : ℕ) (ps : List Piece) → IsRisingFrom low ps → ((n : ℕ) (l : Label) → at_of ps n ≡ Some l → l.0.origin ≡ code_of n) → AreCoded ps
coded_by low [] r of = tt
coded_by low (p ∷ ps) r of =
    let forward : p.first ≤ p.last = r.1.0 in
    let here = covers-inside p p.first (omega arith) forward in (
      of p.first (label_of p) (rw here refl),
      coded_by (p.last + 1) ps r.2 (λ n l is. ⊎_elim
          (λ (beyond : p.last < n). let e = covers-above p n beyond in of n l (rw e is))
          (λ (within : n ≤ p.last). let none = at_of-below (p.last + 1) ps n r.2 (omega arith) in let clash : None ≡ Some l = sym none ∙ is in absurd (cc))
          (cases_lt p.last n)),
    )

kept_known : (test : Place → Bool) (o : Option Label) (l : Label) → kept_if test o ≡ Some l → o ≡ Some l
kept_known test None l is = absurd (cc)
kept_known test (Some known) l is = elim (test known.1) as (λ b. cond b (Some known) None ≡ Some l → Some known ≡ Some l) [
  | true ↦ λ e. e
  | false ↦ λ e. absurd (cc)
] is

pub record AreNamed (s : State) (rows : List Piece) (account : ℕ) : Type 0 where
  pub rising : IsRising (naming_account account rows)
  pub same : (n : ℕ) → at_of (naming_account account rows) n ≡ kept_where (names account) (get s.at) n
  pub coded : AreCoded (naming_account account rows)

pub named : (s : State) (rows : List Piece) (account : ℕ) → AreRowsOf s.at rows → IsSound s → AreNamed s rows account
named s rows account kept sound =
    let rising = filter-rising (λ p. names account p.place) 0 rows kept.disjoint in
    let same : (n : ℕ) → at_of (naming_account account rows) n ≡ kept_where (names account) (get s.at) n =
    λ n. at_of-filter (names account) 0 rows n kept.disjoint ∙ ap (kept_if (names account)) (kept.same n) in
    record {
      rising = rising;
      same = same;
      coded = coded_by 0 (naming_account account rows) rising (λ n l is. sound.known.code n l.0 l.1 (kept_known (names account) (get s.at n) l (sym (same n) ∙ is)));
    }

-- there are maximal runs of them
pub some_runs : (s : State) (rows : List Piece) (account : ℕ) → AreRowsOf s.at rows → IsSound s → (runs : List Piece) × AreRunsOf (kept_where (names account) (get s.at)) runs
some_runs s rows account kept sound =
    let n = named s rows account kept sound in
    let runs = joined_runs (naming_account account rows) n.coded n.rising in
    (joined (naming_account account rows), record { rising = runs.rising; maximal = runs.maximal; same = λ k. runs.same k ∙ n.same k })
