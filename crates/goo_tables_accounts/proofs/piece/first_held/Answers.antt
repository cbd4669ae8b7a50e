use Rattle.sqlite.specs.Held.{state}
use Rattle.goo_tables_rows.specs.Readable.{piece_readable}
use Rattle.goo_tables_accounts.proofs.AnyTable.{readable_first}
use Rattle.goo_tables_accounts.proofs.Pieces.{finds_held, held_asks, held_where, pieces}
use Rattle.goo_tables_accounts.proofs.piece.first_held.Goals as goal
use Rattle.goo_tables_accounts.proofs.Asking.{looks_up, refused, refused_readable}

pub returns-clause-looks : goal.returns-clause-looks
returns-clause-looks g c =
    let old = state g.S.Store c.args.conn.now in
    looks_up held_asks c.args.account old (state g.S.Store c.ask_first.new.conn) c.ask_first.result _ _ (finds_held old c.args.account)
    (rw (c.small.ensures.value) at c.ask_first.ensures.read) (rw (c.small.ensures.value) at c.ask_first.ensures.ran) (rw (c.small.ensures.value) at c.ask_first.ensures.survives)

pub returns-clause-refused : goal.returns-clause-refused
returns-clause-refused g c clean has unlimited =
    refused held_asks c.args.account (state g.S.Store c.args.conn.now) (state g.S.Store c.ask_first.new.conn) c.ask_first.result piece_readable has unlimited (rw (c.small.ensures.value) at (c.ask_first.ensures.refused clean))

pub returns-clause-readable : goal.returns-clause-readable
returns-clause-readable g c clean unlimited t it fits =
    let old = state g.S.Store c.args.conn.now in
    refused_readable held_asks c.args.account old (state g.S.Store c.ask_first.new.conn) c.ask_first.result piece_readable it.schema unlimited (readable_first pieces old it.pieces held_where _ piece_readable fits)
    (rw (c.small.ensures.value) at (c.ask_first.ensures.refused clean))
