-- A run that reaches further from row to row.
use Rattle.std.proofs.Common.{◌≡◌, ◌∙◌, ℕ, ◌+◌, ◌≤◌, nat_le, List, [], ◌∷◌, cond, Option, Some, None, ap, arith}
use Rattle.goo_types.specs.declared.piece.Piece.{Piece}
use Rattle.goo_types.specs.Piece.{Label, label_of, at_of, covers, IsRising, IsRisingFrom, Follows}
use Rattle.goo_ranges_pieces.proofs.Rising.{rising-weaken}
use Rattle.goo_spec_runs.specs.Joined.{joined, AreCoded}
use Rattle.goo_spec_runs.specs.NextRun.{above, ending_from, first_of, part_from, IsNextRun}
use Rattle.goo_spec_runs.proofs.Joining.{up_to, run_code, same_joined, joined_rising, joined_apart, joined_same, joined_free}
use Rattle.goo_spec_runs.proofs.Next.{first_above, none_above, first_some, first_none, cut_first, cut_code}

-- the certificates above a number are those of the run so far, and of the rows after it
pub record IsReaching (map : ℕ → Option Label) (from : ℕ) (rows : List Piece) (run : Piece) : Type 0 where
  pub starts : from ≤ run.first
  pub rising : IsRisingFrom from (run ∷ ending_from (run.last + 1) rows)
  pub same : (n : ℕ) → at_of (run ∷ ending_from (run.last + 1) rows) n ≡ above from map n
  pub coded : AreCoded (run ∷ ending_from (run.last + 1) rows)

above_same : (from : ℕ) (f g : ℕ → Option Label) → ((n : ℕ) → f n ≡ g n) → (n : ℕ) → above from f n ≡ above from g n
above_same from f g same n = ap (λ o. cond (nat_le from n) o None) (same n)

-- it begins with the first row
pub reaching_start : (map : ℕ → Option Label) (from : ℕ) (rows : List Piece) (row : Piece) → IsRising rows → AreCoded rows → ((n : ℕ) → at_of rows n ≡ map n) → Some row ≡ first_of (ending_from from rows)
    → IsReaching map from rows (part_from from row)
reaching_start map from rows row rising coded same found =
    let split = first_some (ending_from from rows) row found in
    let of = first_above from 0 rows row split.0 rising split.1 in
    let cut = cut_first from row of.ends of.forward.0 in
    let code = of.coded coded in
    record {
      starts = cut.0;
      rising = rw of.tail_is (omega (arith, cut.0), (cut.1, cut_code from row of.ends of.forward ∙ of.forward.1), of.rising);
      same = λ n. rw of.tail_is (of.same n ∙ above_same from (at_of rows) map same n);
      coded = rw of.tail_is code;
    }

-- a row that follows is taken in
pub reaching_on : (map : ℕ → Option Label) (from : ℕ) (rows : List Piece) (run next : Piece) → IsRising rows → IsReaching map from rows run → Some next ≡ first_of (ending_from (run.last + 1) rows) → Follows run next
    → IsReaching map from rows (up_to run next)
reaching_on map from rows run next rising reach found follows =
    let split = first_some (ending_from (run.last + 1) rows) next found in
    let of = first_above (run.last + 1) 0 rows next split.0 rising split.1 in
    let r : IsRisingFrom from (run ∷ next ∷ split.0) = rw split.1 at reach.rising in
    let coded : AreCoded (run ∷ next ∷ split.0) = rw split.1 at reach.coded in
    let up : run.last + 1 ≤ next.last = of.ends in
    let forward : run.first ≤ run.last = r.1.0 in
    record {
      starts = reach.starts;
      rising = rw of.tail_is (r.0, (omega arith, run_code run next follows.1 coded.0 coded.1.0 r.2.1.1), r.2.2);
      same = λ n. rw of.tail_is (same_joined run next split.0 from follows r n ∙ (rw split.1 at reach.same n));
      coded = rw of.tail_is (coded.0, coded.1.1);
    }

-- no row is left
pub reaching_last : (map : ℕ → Option Label) (from : ℕ) (rows : List Piece) (run : Piece) → IsReaching map from rows run → None ≡ first_of (ending_from (run.last + 1) rows) → IsNextRun map from (Some run)
reaching_last map from rows run reach found =
    let empty = first_none (ending_from (run.last + 1) rows) found in
    let r : IsRisingFrom from (run ∷ []) = rw empty at reach.rising in
    ([], record { rising = rising-weaken 0 from (run ∷ []) (omega arith) r; maximal = (tt, tt); same = λ n. rw empty at reach.same n })

-- the next row doesn't follow
pub reaching_end : (map : ℕ → Option Label) (from : ℕ) (rows : List Piece) (run next : Piece) → IsReaching map from rows run → Some next ≡ first_of (ending_from (run.last + 1) rows) → ¬ (Follows run next) → IsNextRun map from (Some run)
reaching_end map from rows run next reach found free =
    let split = first_some (ending_from (run.last + 1) rows) next found in
    let r : IsRisingFrom from (run ∷ next ∷ split.0) = rw split.1 at reach.rising in
    let coded : AreCoded (run ∷ next ∷ split.0) = rw split.1 at reach.coded in
    let rest = next ∷ split.0 in
    let risen : IsRisingFrom (run.last + 1) (joined rest) = joined_rising (run.last + 1) rest coded.1 r.2 in (
      joined rest,
      record {
        rising = rising-weaken 0 from (run ∷ joined rest) (omega arith) (r.0, r.1, risen);
        maximal = (joined_free run next split.0 free, joined_apart rest);
        same = λ n. ap (cond (covers run n) (Some (label_of run))) (joined_same (run.last + 1) rest coded.1 r.2 n) ∙ (rw split.1 at reach.same n);
      },
    )

-- no row ends above the number
pub reaching_none : (map : ℕ → Option Label) (from : ℕ) (rows : List Piece) → ((n : ℕ) → at_of rows n ≡ map n) → None ≡ first_of (ending_from from rows) → IsNextRun map from None
reaching_none map from rows same found =
    let empty = first_none (ending_from from rows) found in
    record { rising = tt; maximal = tt; same = λ n. none_above from rows empty n ∙ above_same from (at_of rows) map same n }
