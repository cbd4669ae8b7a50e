use Rattle.std.proofs.Common.{◌≡◌, ℕ, take, map}
use Rattle.std.specs.Ordering.{nat_cmp}
use Rattle.std.specs.BTreeSet.{contains}
use Rattle.goo_tables_rows.specs.Rows.{account_in}
use Rattle.goo_store_rules.specs.WellKept.{has_account}
use Rattle.goo_store_rules.proofs.named.account_numbers.Given as goal

abbrev pub invariant-loop-account : goal.invariant-loop-account
invariant-loop-account l = (n : ℕ) → contains nat_cmp l.set n ≡ has_account (map account_in (take l.account-index l.rows)) n
