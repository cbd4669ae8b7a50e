use Rattle.std.proofs.Common.{◌≡◌}
use Rattle.sqlite.specs.Held.{state}
use Rattle.goo_store_anew.specs.Quiet.{IsQuiet}
use Rattle.goo_store_anew.proofs.writing.fill.Given as goal

abbrev pub invariant-loop-at : goal.invariant-loop-at
invariant-loop-at g l = record {
  name : l.tx.conn.ghost_name ≡ l.fn.tx.conn.ghost_name;
  quiet : IsQuiet (state g.S.Store l.fn.tx.conn.now) (state g.S.Store l.tx.conn.now);
}
