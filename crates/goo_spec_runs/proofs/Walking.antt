-- All maximal runs of a map, one after another.
use Rattle.std.proofs.Common.{◌≡◌, ◌∙◌, ℕ, ◌+◌, ◌<◌, ◌≤◌, List, [], ◌∷◌, ◌++◌, cond, Option, Some, None, refl, ap, sym, arith, ⊎_elim, append_assoc}
use Rattle.std.proofs.lemmas.List.{append-nil}
use Rattle.goo_types.specs.declared.piece.Piece.{Piece}
use Rattle.goo_types.specs.Piece.{Label, label_of, at_of}
use Rattle.goo_ranges_pieces.proofs.Covers.{covers-above}
use Rattle.goo_ranges_pieces.proofs.Rising.{at_of-below, rising-weaken}
use Rattle.goo_spec.specs.Runs.{AreRunsOf}
use Rattle.goo_spec.proofs.Unique.{one_list_of_runs}
use Rattle.goo_spec_runs.specs.NextRun.{above, IsNextRun, BeginsFrom}
use Rattle.goo_spec_runs.proofs.Next.{le-true, le-false, cases_le}

-- the runs that were read are the first of all, and those that are left are the runs from a number on
pub record IsWalking (map : ℕ → Option Label) (all : List Piece) (from : ℕ) (done : List Piece) : Type 0 where
  pub rest : List Piece
  pub order : all ≡ done ++ rest
  pub left : AreRunsOf (above from map) rest

above_all : (map : ℕ → Option Label) (n : ℕ) → map n ≡ above 0 map n
above_all map n = let e = le-true 0 n (omega arith) in rw e refl

pub walk_start : (map : ℕ → Option Label) (all : List Piece) → AreRunsOf map all → IsWalking map all 0 []
walk_start map all runs = record { rest = all; order = refl; left = record { rising = runs.rising; maximal = runs.maximal; same = λ n. runs.same n ∙ above_all map n } }

above_later : (map : ℕ → Option Label) (from later n : ℕ) → from ≤ later → later ≤ n → above from map n ≡ above later map n
above_later map from later n up le = let e = le-true from n (omega arith) in let f = le-true later n le in rw (e, f) refl

-- without the first run, the others are those after it
pub later_runs : (map : ℕ → Option Label) (from : ℕ) (p : Piece) (ps : List Piece) → BeginsFrom from p → AreRunsOf (above from map) (p ∷ ps) → AreRunsOf (above (p.last + 1) map) ps
later_runs map from p ps begins runs =
    let here : from ≤ p.first = begins.0 in
    let forward : p.first ≤ p.last = begins.1 in
    record {
      rising = rising-weaken 0 (p.last + 1) ps (omega arith) runs.rising.2;
      maximal = runs.maximal.1;
      same = λ n. ⊎_elim
          (λ (later : p.last + 1 ≤ n).
          let e = covers-above p n (omega arith) in
          ap (λ b. cond b (Some (label_of p)) (at_of ps n)) (sym e) ∙ runs.same n ∙ above_later map from (p.last + 1) n (omega arith) later)
          (λ (earlier : n < p.last + 1).
          let f = le-false (p.last + 1) n earlier in
          rw f (at_of-below (p.last + 1) ps n runs.rising.2 earlier))
          (cases_le (p.last + 1) n);
    }

pub walk_on : (map : ℕ → Option Label) (all : List Piece) (from : ℕ) (done : List Piece) (p : Piece) → BeginsFrom from p → IsWalking map all from done → IsNextRun map from (Some p) → IsWalking map all (p.last + 1) (done ++ p ∷ [])
walk_on map all from done p begins walk next =
    let same : walk.rest ≡ p ∷ next.0 = one_list_of_runs (above from map) walk.rest (p ∷ next.0) walk.left next.1 in
    record {
      rest = next.0;
      order = walk.order ∙ ap (λ l. done ++ l) same ∙ sym (append_assoc done (p ∷ []) next.0);
      left = later_runs map from p next.0 begins next.1;
    }

pub walk_end : (map : ℕ → Option Label) (all : List Piece) (from : ℕ) (done : List Piece) → IsWalking map all from done → IsNextRun map from None → all ≡ done
walk_end map all from done walk next =
    let same : walk.rest ≡ [] = one_list_of_runs (above from map) walk.rest [] walk.left next in
    walk.order ∙ ap (λ l. done ++ l) same ∙ append-nil done
