use Rattle.std.proofs.Common.{◌≡◌, ◌<◌, ℕ}
use Rattle.sqlite.specs.Held.{state}
use Rattle.sqlite.specs.State.{HasCleanDisk}
use Rattle.goo_store_anew.specs.Answered.{Shows, rows_at}
use Rattle.goo_store_anew.specs.Quiet.{IsQuiet}
use Rattle.goo_store_anew.proofs.asking.have_rows.Given as goal

abbrev pub invariant-loop-at : goal.invariant-loop-at
invariant-loop-at g l = record {
  name : l.tx.conn.ghost_name ≡ l.fn.tx.conn.ghost_name;
  quiet : IsQuiet (state g.S.Store l.fn.tx.conn.now) (state g.S.Store l.tx.conn.now);
  told : HasCleanDisk (state g.S.Store l.tx.conn.now) → (i : ℕ) → i < l.at → Shows (state g.S.Store l.tx.conn.now).now i (rows_at l.answers i);
}
