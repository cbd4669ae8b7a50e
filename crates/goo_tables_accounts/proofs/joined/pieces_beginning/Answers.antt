use Rattle.sqlite.specs.Held.{state}
use Rattle.goo_tables_rows.specs.Readable.{joined_readable}
use Rattle.goo_tables_accounts.proofs.PiecesBeside.{in_range_shows, in_range_asks, readable_rising}
use Rattle.goo_tables_accounts.proofs.joined.pieces_beginning.Goals as goal
use Rattle.goo_tables_accounts.proofs.Asking.{looks_up, refused, refused_readable}

pub returns-clause-looks : goal.returns-clause-looks
returns-clause-looks g c =
    let old = state g.S.Store c.args.conn.now in
    looks_up in_range_asks (c.args.low, c.args.high) old (state g.S.Store c.ask_all.new.conn) c.ask_all.result _ _ (λ t it found. in_range_shows old c.args.low c.args.high t it found.items)
    (rw (c.number.ensures, c.number-2.ensures) at c.ask_all.ensures.read) (rw (c.number.ensures, c.number-2.ensures) at c.ask_all.ensures.ran) (rw (c.number.ensures, c.number-2.ensures) at c.ask_all.ensures.survives)

pub returns-clause-refused : goal.returns-clause-refused
returns-clause-refused g c clean has unlimited =
    refused in_range_asks (c.args.low, c.args.high) (state g.S.Store c.args.conn.now) (state g.S.Store c.ask_all.new.conn) c.ask_all.result joined_readable has unlimited (rw (c.number.ensures, c.number-2.ensures) at (c.ask_all.ensures.refused clean))

pub returns-clause-readable : goal.returns-clause-readable
returns-clause-readable g c clean unlimited t it fits =
    let old = state g.S.Store c.args.conn.now in
    refused_readable in_range_asks (c.args.low, c.args.high) old (state g.S.Store c.ask_all.new.conn) c.ask_all.result joined_readable it.schema unlimited (readable_rising _ _ old t it fits) (rw (c.number.ensures, c.number-2.ensures) at (c.ask_all.ensures.refused clean))
