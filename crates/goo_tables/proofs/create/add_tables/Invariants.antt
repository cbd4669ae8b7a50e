use Rattle.std.proofs.Common.{◌≡◌, ◌+◌, get_or}
use Rattle.sqlite.specs.Held.{state}
use Rattle.goo_tables_rows.specs.Columns.{no_schema}
use Rattle.goo_tables.specs.Created.{stages}
use Rattle.goo_tables.proofs.Adding.{Grows}
use Rattle.goo_tables.proofs.create.add_tables.Given as goal

abbrev pub invariant-loop-at : goal.invariant-loop-at
invariant-loop-at g l = (l.tx.conn.ghost_name ≡ l.fn.tx.conn.ghost_name) × Grows (get_or stages (15 + l.at) no_schema) (state g.S.Store l.fn.tx.conn.now) (state g.S.Store l.tx.conn.now)
