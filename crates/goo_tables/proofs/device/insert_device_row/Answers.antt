use Rattle.sqlite.specs.Held.{state}
use Rattle.goo_tables_rows.specs.Rows.{device_values, device_in}
use Rattle.goo_tables_rows.proofs.Inside.{sees}
use Rattle.goo_tables.specs.Carriers.{with_device_row}
use Rattle.goo_tables.proofs.Devices.{insert_text, inserts_row, inserting_fails, insert_live}
use Rattle.goo_tables.proofs.device.insert_device_row.Goals as goal

pub returns-clause-changed : goal.returns-clause-changed
returns-clause-changed g c clean t it carried =
    let old = c.args.tx.now.conn.now in
    let new = c.put.new.tx.conn.now in
    let x = device_in c.args.device.now in
    sees g.S.Store old new insert_text (device_values x) c.put.result t (with_device_row t x) it (inserts_row (state g.S.Store old) (state g.S.Store new) t x carried) c.put.result
    (rw (c.text.ensures, c.small.ensures.value, c.text-2.ensures, c.text-3.ensures, c.text-4.ensures, c.text-5.ensures, c.number.ensures, c.text-6.ensures, c.text-7.ensures, c.maybe_text.ensures, c.number-2.ensures, c.deref.ensures, c.deref-2.ensures, c.deref-3.ensures, c.deref-4.ensures, c.deref-5.ensures, c.deref-6.ensures, c.deref-7.ensures) at (c.put.ensures.runs clean it.inside))

pub returns-clause-refused : goal.returns-clause-refused
returns-clause-refused g c clean live unlimited t it unmet =
    inserting_fails (state g.S.Store c.args.tx.now.conn.now) (state g.S.Store c.put.new.tx.conn.now) t (device_in c.args.device.now) it.stands live unlimited unmet c.put.result
    (rw (c.text.ensures, c.small.ensures.value, c.text-2.ensures, c.text-3.ensures, c.text-4.ensures, c.text-5.ensures, c.number.ensures, c.text-6.ensures, c.text-7.ensures, c.maybe_text.ensures, c.number-2.ensures, c.deref.ensures, c.deref-2.ensures, c.deref-3.ensures, c.deref-4.ensures, c.deref-5.ensures, c.deref-6.ensures, c.deref-7.ensures) at (c.put.ensures.runs clean it.inside))

pub returns-clause-live : goal.returns-clause-live
returns-clause-live g c clean live inside has = insert_live _ (state g.S.Store c.args.tx.now.conn.now) (state g.S.Store c.put.new.tx.conn.now) has live c.put.result (c.put.ensures.runs clean inside)
