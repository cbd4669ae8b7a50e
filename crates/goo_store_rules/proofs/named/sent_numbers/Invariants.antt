use Rattle.std.proofs.Common.{◌≡◌, ℕ, take, map}
use Rattle.std.specs.Ordering.{nat_cmp}
use Rattle.std.specs.BTreeSet.{contains}
use Rattle.goo_tables_rows.specs.Rows.{notice_out_in}
use Rattle.goo_store_rules.specs.WellKept.{has_sent}
use Rattle.goo_store_rules.proofs.named.sent_numbers.Given as goal

abbrev pub invariant-loop-notice : goal.invariant-loop-notice
invariant-loop-notice l = (n : ℕ) → contains nat_cmp l.set n ≡ has_sent (map notice_out_in (take l.notice-index l.rows)) n
