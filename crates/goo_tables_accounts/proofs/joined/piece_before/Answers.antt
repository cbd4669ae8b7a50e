use Rattle.sqlite.specs.Held.{state}
use Rattle.goo_tables_rows.specs.Readable.{joined_readable}
use Rattle.goo_tables_accounts.proofs.PiecesBeside.{before_shows, before_asks, readable_falling}
use Rattle.goo_tables_accounts.proofs.joined.piece_before.Goals as goal
use Rattle.goo_tables_accounts.proofs.Asking.{looks_up, refused, refused_readable}

pub returns-clause-looks : goal.returns-clause-looks
returns-clause-looks g c =
    let old = state g.S.Store c.args.conn.now in
    looks_up before_asks c.args.low old (state g.S.Store c.ask_first.new.conn) c.ask_first.result _ _ (before_shows old c.args.low)
    (rw (c.number.ensures) at c.ask_first.ensures.read) (rw (c.number.ensures) at c.ask_first.ensures.ran) (rw (c.number.ensures) at c.ask_first.ensures.survives)

pub returns-clause-refused : goal.returns-clause-refused
returns-clause-refused g c clean has unlimited =
    refused before_asks c.args.low (state g.S.Store c.args.conn.now) (state g.S.Store c.ask_first.new.conn) c.ask_first.result joined_readable has unlimited (rw (c.number.ensures) at (c.ask_first.ensures.refused clean))

pub returns-clause-readable : goal.returns-clause-readable
returns-clause-readable g c clean unlimited t it fits =
    let old = state g.S.Store c.args.conn.now in
    refused_readable before_asks c.args.low old (state g.S.Store c.ask_first.new.conn) c.ask_first.result joined_readable it.schema unlimited (readable_falling _ _ old t it fits) (rw (c.number.ensures) at (c.ask_first.ensures.refused clean))
