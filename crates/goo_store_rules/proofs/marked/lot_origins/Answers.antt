use Rattle.std.proofs.Common.{arith}
use Rattle.goo_tables_rows.specs.Rows.{lot_in}
use Rattle.goo_store_rules.proofs.Keying.{key_noted, pair_total}
use Rattle.goo_store_rules.proofs.marked.lot_origins.Goals as goal

pub loop-row-preserved : goal.loop-row-preserved
loop-row-preserved c = λ n origin.
    key_noted pair_total lot_in (λ l. (l.id, l.origin)) c.args.rows.now c.loop-row.row-index c.row-item.result (n, origin) _ _ (omega (arith, c.loop-row-test.true)) c.row-item.is (c.loop-row.invariant n origin)
    (rw c.from.ensures at (c.in_ok-insert.ensures.updates.0 (n, origin)))
