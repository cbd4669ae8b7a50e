use Rattle.std.proofs.Common.{◌≡◌, ℕ, take}
use Rattle.std.specs.Ordering.{nat_cmp}
use Rattle.std.specs.BTreeSet.{contains}
use Rattle.goo_store_rules.specs.WellKept.{has_cancellation}
use Rattle.goo_store_rules.proofs.named.cancellation_numbers.Given as goal

abbrev pub invariant-loop-cancellation : goal.invariant-loop-cancellation
invariant-loop-cancellation l = (n : ℕ) → contains nat_cmp l.set n ≡ has_cancellation (take l.cancellation-index l.rows) n
