use Rattle.sqlite.specs.Held.{state}
use Rattle.goo_tables_rows.specs.Rows.{lot_values, lot_in}
use Rattle.goo_tables_rows.proofs.Inside.{sees}
use Rattle.goo_tables.specs.Carriers.{with_lot_row}
use Rattle.goo_tables.proofs.Lots.{insert_text, inserts_row, inserting_fails, insert_live}
use Rattle.goo_tables.proofs.lot.insert_lot_row.Goals as goal

pub returns-clause-changed : goal.returns-clause-changed
returns-clause-changed g c clean t it carried =
    let old = c.args.tx.now.conn.now in
    let new = c.put.new.tx.conn.now in
    let x = lot_in c.args.lot.now in
    sees g.S.Store old new insert_text (lot_values x) c.put.result t (with_lot_row t x) it (inserts_row (state g.S.Store old) (state g.S.Store new) t x carried) c.put.result
    (rw (c.number.ensures, c.small.ensures.value, c.text.ensures, c.text-2.ensures, c.text-3.ensures, c.text-4.ensures, c.text-5.ensures, c.number-2.ensures, c.text-6.ensures, c.text-7.ensures, c.text-8.ensures, c.text-9.ensures, c.maybe_text.ensures, c.text-10.ensures, c.deref.ensures, c.deref-2.ensures, c.deref-3.ensures, c.deref-4.ensures, c.deref-5.ensures, c.deref-6.ensures, c.deref-7.ensures, c.deref-8.ensures, c.deref-9.ensures, c.deref-10.ensures) at (c.put.ensures.runs clean it.inside))

pub returns-clause-refused : goal.returns-clause-refused
returns-clause-refused g c clean live unlimited t it fits =
    inserting_fails (state g.S.Store c.args.tx.now.conn.now) (state g.S.Store c.put.new.tx.conn.now) t (lot_in c.args.lot.now) c.requires.0 it.stands live unlimited fits.0 fits.1 c.put.result
    (rw (c.number.ensures, c.small.ensures.value, c.text.ensures, c.text-2.ensures, c.text-3.ensures, c.text-4.ensures, c.text-5.ensures, c.number-2.ensures, c.text-6.ensures, c.text-7.ensures, c.text-8.ensures, c.text-9.ensures, c.maybe_text.ensures, c.text-10.ensures, c.deref.ensures, c.deref-2.ensures, c.deref-3.ensures, c.deref-4.ensures, c.deref-5.ensures, c.deref-6.ensures, c.deref-7.ensures, c.deref-8.ensures, c.deref-9.ensures, c.deref-10.ensures) at (c.put.ensures.runs clean it.inside))

pub returns-clause-live : goal.returns-clause-live
returns-clause-live g c clean live inside has = insert_live _ (state g.S.Store c.args.tx.now.conn.now) (state g.S.Store c.put.new.tx.conn.now) has live c.put.result (c.put.ensures.runs clean inside)
