use Rattle.sqlite.specs.Held.{state}
use Rattle.goo_tables_rows.proofs.Inside.{sees}
use Rattle.goo_tables_accounts.specs.Changes.{with_piece}
use Rattle.goo_tables_accounts.proofs.Pairs.{pair_columns, pair_text, inserts_pair, pair_fails, pair_live}
use Rattle.goo_tables_accounts.proofs.piece.insert_two_pieces.Goals as goal

pub returns-clause-changed : goal.returns-clause-changed
returns-clause-changed g c clean t it =
    let old = c.args.tx.now.conn.now in
    let new = c.put.new.tx.conn.now in
    let x = c.args.first.now in
    let y = c.args.second.now in
    sees g.S.Store old new pair_text (pair_columns x y) c.put.result t (with_piece (with_piece t x) y) it (inserts_pair (state g.S.Store old) (state g.S.Store new) t x y) c.put.result
    (rw (c.number.ensures, c.number-2.ensures, c.number-3.ensures, c.number-4.ensures, c.number-5.ensures, c.number-6.ensures, c.small.ensures.value, c.small-2.ensures.value, c.small-3.ensures.value, c.small-4.ensures.value, c.small-5.ensures.value, c.small-6.ensures.value) at (c.put.ensures.runs clean it.inside))

pub returns-clause-refused : goal.returns-clause-refused
returns-clause-refused g c clean live unlimited t it free =
    pair_fails (state g.S.Store c.args.tx.now.conn.now) (state g.S.Store c.put.new.tx.conn.now) t c.args.first.now c.args.second.now c.requires.first_fits.0 c.requires.second_fits.0 it.stands live unlimited free c.put.result
    (rw (c.number.ensures, c.number-2.ensures, c.number-3.ensures, c.number-4.ensures, c.number-5.ensures, c.number-6.ensures, c.small.ensures.value, c.small-2.ensures.value, c.small-3.ensures.value, c.small-4.ensures.value, c.small-5.ensures.value, c.small-6.ensures.value) at (c.put.ensures.runs clean it.inside))

pub returns-clause-live : goal.returns-clause-live
returns-clause-live g c clean live inside has = pair_live _ (state g.S.Store c.args.tx.now.conn.now) (state g.S.Store c.put.new.tx.conn.now) has live c.put.result (c.put.ensures.runs clean inside)
