use Rattle.std.proofs.Common.{Ok, Err, map}
use Rattle.sqlite.specs.Held.{state}
use Rattle.goo_tables_rows.specs.Rows.{numbered_row, numbered_key, numbered_in}
use Rattle.goo_tables_rows.specs.Stands.{Keeps}
use Rattle.goo_store_open.proofs.Chaining.{reads_one}
use Rattle.goo_store_open.proofs.Earning.{row_found, row_unread}
use Rattle.goo_store_open.proofs.finding.find_registry.Goals as goal

pub returns-in-Ok : goal.returns-in-Ok
returns-in-Ok g c =
    let it = c.in-Ok.ensures in
    let row = c.the_row.ensures in
    let reads = reads_one c.args.layout (state g.S.Store c.args.conn.now) (state g.S.Store c.all_meta.new.conn) (Ok c.in-Ok.rows) _ (λ db x. Keeps (db.trees 0) numbered_row numbered_key (map numbered_in x.items)) _ it.looks it.outside it.met it.readable it.refused it.first (λ _ h. h) (λ _ can. can.meta) in
    row_found c.args.layout (state g.S.Store c.args.conn.now) (state g.S.Store c.all_meta.new.conn) c.in-Ok.rows (λ x. map numbered_in x.items) c.the_row.result reads row.only row.version row.refused row.unblamed row.words

pub returns-in-Err : goal.returns-in-Err
returns-in-Err g c =
    let it = c.in-Err.ensures in
    let reads = reads_one c.args.layout (state g.S.Store c.args.conn.now) (state g.S.Store c.all_meta.new.conn) (Err c.in-Err.error) _ (λ db x. Keeps (db.trees 0) numbered_row numbered_key (map numbered_in x.items)) _ it.looks it.outside it.met it.readable it.refused it.first (λ _ h. h) (λ _ can. can.meta) in
    row_unread (state g.S.Store c.args.conn.now) (state g.S.Store c.all_meta.new.conn) c.in-Err.error _ c.fault_of.ensures.memory c.fault_of.ensures.store c.args.layout _ reads c.fault_of.ensures.unread
