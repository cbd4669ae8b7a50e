use Rattle.sqlite.specs.Held.{state as view}
use Rattle.goo_tables_rows.proofs.Ordered.{in_key_order_kept}
use Rattle.goo_store_judge.specs.Moments.{tables_in}
use Rattle.goo_store_opening.proofs.Reopened.{opens_well}
use Rattle.goo_store.proofs.sql_shelf.SqlShelf.into_connection.Goals as goal

pub returns-clause-ordered : goal.returns-clause-ordered
returns-clause-ordered g c none = in_key_order_kept (view g.S.Store c.args.self.conn).now (tables_in (view g.S.Store c.args.self.conn)) (c.args.self.well.stands none)

pub returns-clause-opens : goal.returns-clause-opens
returns-clause-opens g c none = opens_well (view g.S.Store c.args.self.conn) c.args.self.well none
