use Rattle.sqlite.specs.Held.{state}
use Rattle.goo_tables_rows.specs.Readable.{piece_readable}
use Rattle.goo_tables_accounts.proofs.AnyTable.{readable_among}
use Rattle.goo_tables_accounts.proofs.Pieces.{finds, find_asks, pieces}
use Rattle.goo_tables_accounts.proofs.piece.find_piece.Goals as goal
use Rattle.goo_tables_accounts.proofs.Asking.{looks_up, refused, refused_readable}

pub returns-clause-looks : goal.returns-clause-looks
returns-clause-looks g c =
    let old = state g.S.Store c.args.conn.now in
    looks_up find_asks c.args.first old (state g.S.Store c.ask_first.new.conn) c.ask_first.result _ _ (finds old c.args.first)
    (rw (c.number.ensures) at c.ask_first.ensures.read) (rw (c.number.ensures) at c.ask_first.ensures.ran) (rw (c.number.ensures) at c.ask_first.ensures.survives)

pub returns-clause-refused : goal.returns-clause-refused
returns-clause-refused g c clean has unlimited =
    refused find_asks c.args.first (state g.S.Store c.args.conn.now) (state g.S.Store c.ask_first.new.conn) c.ask_first.result piece_readable has unlimited (rw (c.number.ensures) at (c.ask_first.ensures.refused clean))

pub returns-clause-readable : goal.returns-clause-readable
returns-clause-readable g c clean unlimited t it fits =
    let old = state g.S.Store c.args.conn.now in
    refused_readable find_asks c.args.first old (state g.S.Store c.ask_first.new.conn) c.ask_first.result piece_readable it.schema unlimited (readable_among pieces old it.pieces piece_readable fits _ _) (rw (c.number.ensures) at (c.ask_first.ensures.refused clean))
