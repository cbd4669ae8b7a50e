use Rattle.sqlite.specs.Held.{state}
use Rattle.goo_tables_rows.specs.Readable.{piece_readable}
use Rattle.goo_tables_pages.proofs.AccountQueries.{page_asks, page_shows, readable_page}
use Rattle.goo_tables_pages.proofs.account_pieces.rows_of_account.Goals as goal
use Rattle.goo_tables_accounts.proofs.Asking.{looks_up, refused, refused_readable}

pub returns-clause-looks : goal.returns-clause-looks
returns-clause-looks g c =
    let old = state g.S.Store c.args.conn.now in
    looks_up page_asks (c.args.account, c.args.after) old (state g.S.Store c.ask_all.new.conn) c.ask_all.result _ _ (λ t it found. page_shows old c.args.account c.args.after t it found.items)
    (rw (c.small.ensures.value, c.number.ensures) at c.ask_all.ensures.read) (rw (c.small.ensures.value, c.number.ensures) at c.ask_all.ensures.ran) (rw (c.small.ensures.value, c.number.ensures) at c.ask_all.ensures.survives)

pub returns-clause-refused : goal.returns-clause-refused
returns-clause-refused g c clean has unlimited =
    refused page_asks (c.args.account, c.args.after) (state g.S.Store c.args.conn.now) (state g.S.Store c.ask_all.new.conn) c.ask_all.result piece_readable has unlimited (rw (c.small.ensures.value, c.number.ensures) at (c.ask_all.ensures.refused clean))

pub returns-clause-readable : goal.returns-clause-readable
returns-clause-readable g c clean unlimited t it fits =
    let old = state g.S.Store c.args.conn.now in
    refused_readable page_asks (c.args.account, c.args.after) old (state g.S.Store c.ask_all.new.conn) c.ask_all.result piece_readable it.schema unlimited (readable_page _ old t it fits) (rw (c.small.ensures.value, c.number.ensures) at (c.ask_all.ensures.refused clean))
