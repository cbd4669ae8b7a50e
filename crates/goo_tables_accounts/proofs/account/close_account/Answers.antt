use Rattle.std.proofs.Common.{pos, [], ◌∷◌}
use Rattle.sqlite.specs.declared.types.Value.TheVariants.{Int}
use Rattle.sqlite.specs.Held.{state}
use Rattle.goo_tables_rows.proofs.Inside.{sees}
use Rattle.goo_tables_accounts.specs.Changes.{with_closed}
use Rattle.goo_tables_accounts.proofs.Accounts.{close_text, closes_row, closing_fails, close_live}
use Rattle.goo_tables_accounts.proofs.account.close_account.Goals as goal

pub returns-clause-changed : goal.returns-clause-changed
returns-clause-changed g c clean t it =
    let old = c.args.tx.now.conn.now in
    let new = c.put.new.tx.conn.now in
    let number = c.args.number in
    sees g.S.Store old new close_text (Int (pos number) ∷ []) c.put.result t (with_closed t number) it (closes_row (state g.S.Store old) (state g.S.Store new) t number) c.put.result
    (rw (c.small.ensures.value) at (c.put.ensures.runs clean it.inside))

pub returns-clause-refused : goal.returns-clause-refused
returns-clause-refused g c clean live unlimited t it any =
    closing_fails (state g.S.Store c.args.tx.now.conn.now) (state g.S.Store c.put.new.tx.conn.now) t c.args.number c.small.ensures.range it.stands live unlimited c.put.result
    (rw (c.small.ensures.value) at (c.put.ensures.runs clean it.inside))

pub returns-clause-live : goal.returns-clause-live
returns-clause-live g c clean live inside has = close_live _ (state g.S.Store c.args.tx.now.conn.now) (state g.S.Store c.put.new.tx.conn.now) has live c.put.result (c.put.ensures.runs clean inside)
