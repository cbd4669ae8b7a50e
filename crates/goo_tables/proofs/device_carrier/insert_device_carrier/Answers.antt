use Rattle.sqlite.specs.Held.{state}
use Rattle.goo_tables_rows.specs.Rows.{DeviceCarrier, device_carrier_columns}
use Rattle.goo_tables_rows.proofs.Inside.{sees}
use Rattle.goo_tables.specs.Carriers.{with_device_carrier}
use Rattle.goo_tables.proofs.DeviceCarriers.{insert_text, inserts_row, inserting_fails, insert_live, insert_stays}
use Rattle.goo_tables.proofs.device_carrier.insert_device_carrier.Goals as goal

pub returns-clause-changed : goal.returns-clause-changed
returns-clause-changed g c clean t it unmet =
    let old = c.args.tx.now.conn.now in
    let new = c.put.new.tx.conn.now in
    let x : DeviceCarrier = record { gsrn = c.args.gsrn.now; carrier = c.args.carrier.now } in
    sees g.S.Store old new insert_text (device_carrier_columns x) c.put.result t (with_device_carrier t x) it (inserts_row (state g.S.Store old) (state g.S.Store new) t x unmet) c.put.result
    (rw (c.text.ensures, c.text-2.ensures) at (c.put.ensures.runs clean it.inside))

pub returns-clause-refused : goal.returns-clause-refused
returns-clause-refused g c clean live unlimited t it unmet =
    let x : DeviceCarrier = record { gsrn = c.args.gsrn.now; carrier = c.args.carrier.now } in
    inserting_fails (state g.S.Store c.args.tx.now.conn.now) (state g.S.Store c.put.new.tx.conn.now) t x it.stands live unlimited unmet c.put.result
    (rw (c.text.ensures, c.text-2.ensures) at (c.put.ensures.runs clean it.inside))

pub returns-clause-live : goal.returns-clause-live
returns-clause-live g c clean live inside has = insert_live _ (state g.S.Store c.args.tx.now.conn.now) (state g.S.Store c.put.new.tx.conn.now) has live c.put.result (c.put.ensures.runs clean inside)

pub returns-clause-stays : goal.returns-clause-stays
returns-clause-stays g c clean inside has = insert_stays _ (state g.S.Store c.args.tx.now.conn.now) (state g.S.Store c.put.new.tx.conn.now) has c.put.result (c.put.ensures.runs clean inside)
