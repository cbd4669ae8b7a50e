use Rattle.sqlite.specs.Held.{state}
use Rattle.goo_tables_rows.specs.Readable.{account_readable}
use Rattle.goo_tables_accounts.proofs.AnyTable.{readable_among}
use Rattle.goo_tables_accounts.proofs.Accounts.{finds, find_asks, accounts}
use Rattle.goo_tables_accounts.proofs.account.find_account.Goals as goal
use Rattle.goo_tables_accounts.proofs.Asking.{looks_up, refused, refused_readable}

pub returns-clause-looks : goal.returns-clause-looks
returns-clause-looks g c =
    let old = state g.S.Store c.args.conn.now in
    looks_up find_asks c.args.number old (state g.S.Store c.ask_first.new.conn) c.ask_first.result _ _ (finds old c.args.number)
    (rw (c.small.ensures.value) at c.ask_first.ensures.read) (rw (c.small.ensures.value) at c.ask_first.ensures.ran) (rw (c.small.ensures.value) at c.ask_first.ensures.survives)

pub returns-clause-refused : goal.returns-clause-refused
returns-clause-refused g c clean has unlimited =
    refused find_asks c.args.number (state g.S.Store c.args.conn.now) (state g.S.Store c.ask_first.new.conn) c.ask_first.result account_readable has unlimited (rw (c.small.ensures.value) at (c.ask_first.ensures.refused clean))

pub returns-clause-readable : goal.returns-clause-readable
returns-clause-readable g c clean unlimited t it fits =
    let old = state g.S.Store c.args.conn.now in
    refused_readable find_asks c.args.number old (state g.S.Store c.ask_first.new.conn) c.ask_first.result account_readable it.schema unlimited (readable_among accounts old it.accounts account_readable fits _ _) (rw (c.small.ensures.value) at (c.ask_first.ensures.refused clean))
