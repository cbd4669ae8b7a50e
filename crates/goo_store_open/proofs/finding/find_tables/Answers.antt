use Rattle.sqlite.specs.Held.{state}
use Rattle.goo_store_open.proofs.Earning.{found, not_found}
use Rattle.goo_store_open.proofs.finding.find_tables.Goals as goal

pub returns-in-Ok : goal.returns-in-Ok
returns-in-Ok g c =
    found c.args.layout (state g.S.Store c.args.conn.now) (state g.S.Store c.find_registry.new.conn) (state g.S.Store c.read_rows.new.conn) c.in_ok-meta.meta c.in_ok-meta.ensures c.in-Ok.rows c.in-Ok.ensures

pub returns-in-Err : goal.returns-in-Err
returns-in-Err g c =
    not_found c.args.layout (state g.S.Store c.args.conn.now) (state g.S.Store c.find_registry.new.conn) (state g.S.Store c.read_rows.new.conn) c.in_ok-meta.meta c.in_ok-meta.ensures c.in-Err.error _ c.in-Err.ensures c.fault_of.ensures.memory c.fault_of.ensures.store c.fault_of.ensures.unread c.fault_of.ensures.words
