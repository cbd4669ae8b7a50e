use Rattle.sqlite.specs.Held.{state}
use Rattle.goo_tables_rows.specs.Rows.{piece_columns}
use Rattle.goo_tables_rows.proofs.Inside.{sees}
use Rattle.goo_tables_accounts.specs.Changes.{with_piece_set}
use Rattle.goo_tables_accounts.proofs.Pieces.{set_text, sets_row, counts_set, setting_fails, set_live}
use Rattle.goo_tables_accounts.proofs.piece.set_piece.Goals as goal

pub returns-clause-changed : goal.returns-clause-changed
returns-clause-changed g c clean t it =
    let old = c.args.tx.now.conn.now in
    let new = c.put.new.tx.conn.now in
    let x = c.args.piece.now in
    sees g.S.Store old new set_text (piece_columns x) c.put.result t (with_piece_set t x) it (sets_row (state g.S.Store old) (state g.S.Store new) t x) c.put.result
    (rw (c.number.ensures, c.number-2.ensures, c.number-3.ensures, c.small.ensures.value, c.small-2.ensures.value, c.small-3.ensures.value) at (c.put.ensures.runs clean it.inside))

pub returns-clause-count : goal.returns-clause-count
returns-clause-count g c clean t it =
    counts_set (state g.S.Store c.args.tx.now.conn.now) (state g.S.Store c.put.new.tx.conn.now) t c.args.piece.now c.put.result it.stands
    (rw (c.number.ensures, c.number-2.ensures, c.number-3.ensures, c.small.ensures.value, c.small-2.ensures.value, c.small-3.ensures.value) at (c.put.ensures.runs clean it.inside))

pub returns-clause-refused : goal.returns-clause-refused
returns-clause-refused g c clean live unlimited t it any =
    setting_fails (state g.S.Store c.args.tx.now.conn.now) (state g.S.Store c.put.new.tx.conn.now) t c.args.piece.now c.requires.0 it.stands live unlimited c.put.result
    (rw (c.number.ensures, c.number-2.ensures, c.number-3.ensures, c.small.ensures.value, c.small-2.ensures.value, c.small-3.ensures.value) at (c.put.ensures.runs clean it.inside))

pub returns-clause-live : goal.returns-clause-live
returns-clause-live g c clean live inside has = set_live _ (state g.S.Store c.args.tx.now.conn.now) (state g.S.Store c.put.new.tx.conn.now) has live c.put.result (c.put.ensures.runs clean inside)
