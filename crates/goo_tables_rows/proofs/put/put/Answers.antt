use Rattle.goo_tables_rows.proofs.Inside.{keeps}
use Rattle.goo_tables_rows.proofs.put.put.Goals as goal

pub returns-clause-uncommitted : goal.returns-clause-uncommitted
returns-clause-uncommitted g c clean =
    keeps g.S.Store c.args.tx.now.conn.now c.execute.new.self.conn.now _ _ c.execute.result (λ ended. (c.execute.ensures.ended ended).1) (c.execute.ensures.runs clean)
