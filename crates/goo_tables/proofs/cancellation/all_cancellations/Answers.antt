use Rattle.sqlite.specs.Held.{state}
use Rattle.goo_tables.proofs.Cancellations.{reads_all, meets_read, shown_all, all_asks, first_asks, first_reads, meets_read_first, shown_first}
use Rattle.goo_tables.proofs.cancellation.all_cancellations.Goals as goal
use Rattle.goo_tables_accounts.proofs.Asking.{looks_through_all, met_each, refused_each, refused_readable_each, reads_first_each}

pub returns-clause-looks : goal.returns-clause-looks
returns-clause-looks g c =
    let old = state g.S.Store c.args.conn.now in
    looks_through_all all_asks tt old (state g.S.Store c.ask_each.new.conn) c.ask_each.result _ _ (λ t it found. reads_all g.T.FromRow.reads old t it found.items) c.ask_each.ensures.read c.ask_each.ensures.ran c.ask_each.ensures.survives

pub returns-clause-met : goal.returns-clause-met
returns-clause-met g c are clean it =
    let old = state g.S.Store c.args.conn.now in
    met_each all_asks tt old (state g.S.Store c.ask_each.new.conn) c.ask_each.result _ _ it (λ found. meets_read g.T.FromRow.reads are old it found.items) (c.ask_each.ensures.read clean)

pub returns-clause-refused : goal.returns-clause-refused
returns-clause-refused g c clean has unlimited =
    refused_each all_asks tt (state g.S.Store c.args.conn.now) (state g.S.Store c.ask_each.new.conn) c.ask_each.result g.T.FromRow.readable has unlimited (c.ask_each.ensures.refused clean)

pub returns-clause-readable : goal.returns-clause-readable
returns-clause-readable g c clean unlimited t it fits =
    let old = state g.S.Store c.args.conn.now in
    refused_readable_each all_asks tt old (state g.S.Store c.ask_each.new.conn) c.ask_each.result g.T.FromRow.readable it.schema unlimited (λ rows answer. rw (shown_all old t it rows answer) fits) (c.ask_each.ensures.refused clean)

pub returns-clause-first : goal.returns-clause-first
returns-clause-first g c are =
    let old = state g.S.Store c.args.conn.now in
    reads_first_each first_asks old (state g.S.Store c.ask_each.new.conn) c.ask_each.result _ _ _ g.T.FromRow.readable _ (λ t it found. first_reads g.T.FromRow.reads old t it found.items) (λ it found. meets_read_first g.T.FromRow.reads are old it found.items) (λ t it fits rows answer. rw (shown_first old t it rows answer) fits)
    c.ask_each.ensures.read c.ask_each.ensures.ran c.ask_each.ensures.survives c.ask_each.ensures.refused
