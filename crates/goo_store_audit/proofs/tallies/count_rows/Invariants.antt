use Rattle.std.proofs.Common.{◌≡◌, ◌≤◌, map, drop, take}
use Rattle.goo_store_audit.specs.Counting.{AreAdded, AreCountable, IsBelow, end_of, shares_of}
use Rattle.goo_store_audit.proofs.tallies.count_rows.Given as goal
use Rattle.goo_tables_pages.specs.DevicePieces.{device_piece_in}

-- what was counted, and what is left
abbrev pub invariant-loop-row : goal.invariant-loop-row
invariant-loop-row l = record {
  ends : end_of l.next (shares_of (drop l.row-index l.rows)) ≡ end_of l.low (shares_of l.rows);
  added : AreAdded l.own l.withdrawals (shares_of (take l.row-index l.rows)) l.fn.tally l.tally;
  below : IsBelow l.next l.tally;
  up : l.low ≤ l.next;
  countable : AreCountable l.low (map device_piece_in l.rows) → AreCountable l.next (map device_piece_in (drop l.row-index l.rows));
}
