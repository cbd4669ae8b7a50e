use Rattle.std.proofs.Common.{◌≡◌, ℕ, take, map}
use Rattle.std.specs.Ordering.{nat_cmp}
use Rattle.std.specs.BTreeSet.{contains}
use Rattle.goo_tables_rows.specs.Rows.{withdrawal_in}
use Rattle.goo_store_rules.specs.WellKept.{has_withdrawal}
use Rattle.goo_store_rules.proofs.named.withdrawal_numbers.Given as goal

abbrev pub invariant-loop-withdrawal : goal.invariant-loop-withdrawal
invariant-loop-withdrawal l = (n : ℕ) → contains nat_cmp l.set n ≡ has_withdrawal (map withdrawal_in (take l.withdrawal-index l.rows)) n
