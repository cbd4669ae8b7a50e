use Rattle.std.proofs.Common.{◌≡◌}
use Rattle.sqlite.specs.Values.{bound}
use Rattle.goo_tables_rows.proofs.Giving.{IsAsking}
use Rattle.goo_tables_rows.proofs.each.ask_each.Given as goal

abbrev pub invariant-rows : goal.invariant-rows
invariant-rows g l =
    (l.rows.conn.ghost_name ≡ l.initial.rows.conn.ghost_name)
    × IsAsking g.S.Store l.sql (bound l.params) g.T.FromRow.reads g.T.FromRow.readable l.fn.conn l.rows.conn.now l.found
