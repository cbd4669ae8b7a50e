use Rattle.sqlite.specs.Held.{state}
use Rattle.goo_tables_rows.specs.Rows.{account_columns, account_in}
use Rattle.goo_tables_rows.proofs.Inside.{sees}
use Rattle.goo_tables_accounts.specs.Changes.{with_account}
use Rattle.goo_tables_accounts.proofs.Accounts.{insert_text, inserts_row, inserting_fails, insert_live}
use Rattle.goo_tables_accounts.proofs.account.insert_account.Goals as goal

pub returns-clause-changed : goal.returns-clause-changed
returns-clause-changed g c clean t it =
    let old = c.args.tx.now.conn.now in
    let new = c.put.new.tx.conn.now in
    let x = account_in c.args.account.now in
    sees g.S.Store old new insert_text (account_columns x) c.put.result t (with_account t x) it (inserts_row (state g.S.Store old) (state g.S.Store new) t x) c.put.result
    (rw (c.small.ensures.value, c.text.ensures, c.small-2.ensures.value, c.deref.ensures) at (c.put.ensures.runs clean it.inside))

pub returns-clause-refused : goal.returns-clause-refused
returns-clause-refused g c clean live unlimited t it free =
    inserting_fails (state g.S.Store c.args.tx.now.conn.now) (state g.S.Store c.put.new.tx.conn.now) t (account_in c.args.account.now) c.small.ensures.range it.stands live unlimited free c.put.result
    (rw (c.small.ensures.value, c.text.ensures, c.small-2.ensures.value, c.deref.ensures) at (c.put.ensures.runs clean it.inside))

pub returns-clause-live : goal.returns-clause-live
returns-clause-live g c clean live inside has = insert_live _ (state g.S.Store c.args.tx.now.conn.now) (state g.S.Store c.put.new.tx.conn.now) has live c.put.result (c.put.ensures.runs clean inside)
