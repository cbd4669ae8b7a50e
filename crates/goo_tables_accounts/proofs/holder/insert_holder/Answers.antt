use Rattle.sqlite.specs.Held.{state}
use Rattle.goo_tables_rows.specs.Rows.{holder_columns, holder_in}
use Rattle.goo_tables_rows.proofs.Inside.{sees}
use Rattle.goo_tables_accounts.specs.Changes.{with_holder}
use Rattle.goo_tables_accounts.proofs.Holders.{insert_text, inserts_row, inserting_fails, insert_live}
use Rattle.goo_tables_accounts.proofs.holder.insert_holder.Goals as goal

pub returns-clause-changed : goal.returns-clause-changed
returns-clause-changed g c clean t it =
    let old = c.args.tx.now.conn.now in
    let new = c.put.new.tx.conn.now in
    let x = holder_in c.args.holder.now in
    sees g.S.Store old new insert_text (holder_columns x) c.put.result t (with_holder t x) it (inserts_row (state g.S.Store old) (state g.S.Store new) t x) c.put.result
    (rw (c.text.ensures, c.text-2.ensures, c.deref.ensures, c.deref-2.ensures) at (c.put.ensures.runs clean it.inside))

pub returns-clause-refused : goal.returns-clause-refused
returns-clause-refused g c clean live unlimited t it unmet =
    inserting_fails (state g.S.Store c.args.tx.now.conn.now) (state g.S.Store c.put.new.tx.conn.now) t (holder_in c.args.holder.now) it.stands live unlimited unmet c.put.result
    (rw (c.text.ensures, c.text-2.ensures, c.deref.ensures, c.deref-2.ensures) at (c.put.ensures.runs clean it.inside))

pub returns-clause-live : goal.returns-clause-live
returns-clause-live g c clean live inside has = insert_live _ (state g.S.Store c.args.tx.now.conn.now) (state g.S.Store c.put.new.tx.conn.now) has live c.put.result (c.put.ensures.runs clean inside)
