use Rattle.std.proofs.Common.{◌≡◌, ◌≤◌, ◌*◌, ◌^◌, ℕ, List, take}
use Rattle.std.specs.Prelude.{sum_by}
use Rattle.goo_spec.specs.Energy.{less_of}
use Rattle.goo_store_rules.specs.Summing.{sum_at}
use Rattle.goo_store_rules.proofs.sums.sum_lowered.Given as goal

abbrev pub invariant-loop-correction : goal.invariant-loop-correction
invariant-loop-correction l = record {
  sums : (q : List ℕ) → sum_at l.sums q ≡ sum_by (less_of q) (take l.correction-index l.corrected);
  small : (q : List ℕ) → sum_at l.sums q ≤ 2 ^ 64 * l.correction-index;
}
