use Rattle.sqlite.specs.Held.{state}
use Rattle.goo_tables_rows.specs.Readable.{correction_readable}
use Rattle.goo_tables_accounts.proofs.AnyTable.{readable_top}
use Rattle.goo_tables.proofs.Corrections.{shows_last, last_asks, corrections}
use Rattle.goo_tables.proofs.correction.last_correction.Goals as goal
use Rattle.goo_tables_accounts.proofs.Asking.{looks_up, refused, refused_readable}

pub returns-clause-looks : goal.returns-clause-looks
returns-clause-looks g c =
    let old = state g.S.Store c.args.conn.now in
    looks_up last_asks tt old (state g.S.Store c.ask_first.new.conn) c.ask_first.result _ _ (shows_last old) c.ask_first.ensures.read c.ask_first.ensures.ran c.ask_first.ensures.survives

pub returns-clause-refused : goal.returns-clause-refused
returns-clause-refused g c clean has unlimited =
    refused last_asks tt (state g.S.Store c.args.conn.now) (state g.S.Store c.ask_first.new.conn) c.ask_first.result correction_readable has unlimited (c.ask_first.ensures.refused clean)

pub returns-clause-readable : goal.returns-clause-readable
returns-clause-readable g c clean unlimited t it fits =
    let old = state g.S.Store c.args.conn.now in
    refused_readable last_asks tt old (state g.S.Store c.ask_first.new.conn) c.ask_first.result correction_readable it.schema unlimited (readable_top corrections old it.corrections correction_readable fits) (c.ask_first.ensures.refused clean)
