use Rattle.std.proofs.Common.{◌≡◌, ◌≤◌, ◌*◌, ◌^◌, ℕ, List, take}
use Rattle.std.specs.Prelude.{sum_by}
use Rattle.goo_spec.specs.Energy.{net_of}
use Rattle.goo_store_rules.specs.Summing.{sum_at}
use Rattle.goo_store_rules.proofs.sums.sum_declared.Given as goal

abbrev pub invariant-loop-declaration : goal.invariant-loop-declaration
invariant-loop-declaration l = record {
  sums : (q : List ℕ) → sum_at l.sums q ≡ sum_by (net_of q) (take l.declaration-index l.declared);
  small : (q : List ℕ) → sum_at l.sums q ≤ 2 ^ 64 * l.declaration-index;
}
