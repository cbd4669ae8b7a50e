use Rattle.std.proofs.Common.{◌≡◌, ℕ, take, map}
use Rattle.std.specs.Ordering.{nat_cmp}
use Rattle.std.specs.BTreeSet.{contains}
use Rattle.goo_tables_rows.specs.Rows.{account_in}
use Rattle.goo_store_rules.specs.WellKept.{has_closed}
use Rattle.goo_store_rules.proofs.marked.closed_accounts.Given as goal

abbrev pub invariant-loop-row : goal.invariant-loop-row
invariant-loop-row l = (n : ℕ) → contains nat_cmp l.set n ≡ has_closed (map account_in (take l.row-index l.rows)) n
