use Rattle.std.proofs.Common.{◌≡◌, ◌-◌, ◌≤◌, length, take}
use Rattle.sqlite.specs.State.{HasCleanDisk, IsLive, KeepsCommit, Survives}
use Rattle.sqlite.specs.Held.{state}
use Rattle.goo_tables_rows.specs.Rows.{Tables}
use Rattle.goo_tables_rows.specs.Lives.{StaysAlive}
use Rattle.goo_tables_rows.specs.Stands.{Sees}
use Rattle.goo_store_changes.specs.Changes.{made_all, AreFor}
use Rattle.goo_store_changes.proofs.table_change.make_all.Given as goal

abbrev pub invariant-loop-done : goal.invariant-loop-done
invariant-loop-done g l = record {
  within : l.done ≤ length l.changes;
  name : l.tx.conn.ghost_name ≡ l.fn.tx.conn.ghost_name;
  changed : HasCleanDisk (state g.S.Store l.tx.conn.now) → (t : Tables) → Sees (state g.S.Store l.fn.tx.conn.now) t → AreFor t l.changes → Sees (state g.S.Store l.tx.conn.now) (made_all t (take l.done l.changes));
  live : HasCleanDisk (state g.S.Store l.tx.conn.now) → IsLive (state g.S.Store l.fn.tx.conn.now) → (t : Tables) → Sees (state g.S.Store l.fn.tx.conn.now) t → AreFor t l.changes → StaysAlive (state g.S.Store l.fn.tx.conn.now) (state g.S.Store l.tx.conn.now);
  uncommitted : HasCleanDisk (state g.S.Store l.tx.conn.now) → KeepsCommit (state g.S.Store l.fn.tx.conn.now) (state g.S.Store l.tx.conn.now);
  survives : Survives (state g.S.Store l.fn.tx.conn.now) (state g.S.Store l.tx.conn.now) (λ _. ⊥);
}

abbrev pub decreases-loop-done : goal.decreases-loop-done
decreases-loop-done g l = length l.changes - l.done
