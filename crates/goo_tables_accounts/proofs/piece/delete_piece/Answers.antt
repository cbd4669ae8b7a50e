use Rattle.std.proofs.Common.{pos, [], ◌∷◌}
use Rattle.sqlite.specs.declared.types.Value.TheVariants.{Int}
use Rattle.sqlite.specs.Held.{state}
use Rattle.goo_tables_rows.proofs.Inside.{sees}
use Rattle.goo_tables_accounts.specs.Changes.{without_piece}
use Rattle.goo_tables_accounts.proofs.Pieces.{delete_text, deletes_row, deleting_fails, delete_live}
use Rattle.goo_tables_accounts.proofs.piece.delete_piece.Goals as goal

pub returns-clause-changed : goal.returns-clause-changed
returns-clause-changed g c clean t it =
    let old = c.args.tx.now.conn.now in
    let new = c.put.new.tx.conn.now in
    let first = c.args.first in
    sees g.S.Store old new delete_text (Int (pos first) ∷ []) c.put.result t (without_piece t first) it (deletes_row (state g.S.Store old) (state g.S.Store new) t first) c.put.result
    (rw (c.number.ensures) at (c.put.ensures.runs clean it.inside))

pub returns-clause-refused : goal.returns-clause-refused
returns-clause-refused g c clean live unlimited t it any =
    deleting_fails (state g.S.Store c.args.tx.now.conn.now) (state g.S.Store c.put.new.tx.conn.now) t c.args.first it.stands live unlimited c.put.result
    (rw (c.number.ensures) at (c.put.ensures.runs clean it.inside))

pub returns-clause-live : goal.returns-clause-live
returns-clause-live g c clean live inside has = delete_live _ (state g.S.Store c.args.tx.now.conn.now) (state g.S.Store c.put.new.tx.conn.now) has live c.put.result (c.put.ensures.runs clean inside)
