use Rattle.std.proofs.Common.{◌≡◌, ◌≤◌, map, drop, take}
use Rattle.goo_store_audit.specs.NetCounting.{AreNets, AreNetsAdded, IsSumBelow, end_of_nets}
use Rattle.goo_store_audit.proofs.nets.add_rows.Given as goal
use Rattle.goo_tables_pages.specs.NetRows.{net_in}

-- what was added, and what is left
abbrev pub invariant-loop-row : goal.invariant-loop-row
invariant-loop-row l = record {
  ends : end_of_nets l.next (map net_in (drop l.row-index l.rows)) ≡ end_of_nets l.low (map net_in l.rows);
  added : AreNetsAdded (map net_in (take l.row-index l.rows)) l.fn.sums l.sums;
  below : IsSumBelow l.next l.sums;
  up : l.low ≤ l.next;
  good : AreNets l.low (map net_in l.rows) → AreNets l.next (map net_in (drop l.row-index l.rows));
}
