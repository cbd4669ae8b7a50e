use Rattle.std.proofs.Common.{◌≡◌, ◌<◌, ◌≤◌, ℕ, false, length, IsTrue}
use Rattle.sqlite.specs.Held.{state}
use Rattle.sqlite.specs.State.{HasCleanDisk, Survives}
use Rattle.goo_tables_rows.specs.Stands.{Rests, IsSettled}
use Rattle.goo_store_anew.specs.Answered.{Shows, rows_at}
use Rattle.goo_store_anew.proofs.asking.ask_tables.Given as goal

abbrev pub invariant-loop-at : goal.invariant-loop-at
invariant-loop-at g l = record {
  within : l.at ≤ l.count;
  long : length l.answers.items ≡ l.at;
  outside : l.fn.conn.in_transaction ≡ false → l.conn.in_transaction ≡ false;
  survives : Survives (state g.S.Store l.fn.conn) (state g.S.Store l.conn) (λ _. ⊥);
  rests : HasCleanDisk (state g.S.Store l.conn) → IsSettled (state g.S.Store l.fn.conn) → Rests (state g.S.Store l.fn.conn) (state g.S.Store l.conn);
  works : HasCleanDisk (state g.S.Store l.conn) → 0 < l.at → IsTrue (state g.S.Store l.conn).is_open;
  told : HasCleanDisk (state g.S.Store l.conn) → IsSettled (state g.S.Store l.fn.conn) → (i : ℕ) → i < l.at → Shows (state g.S.Store l.fn.conn).now i (rows_at l.answers.items i);
}
