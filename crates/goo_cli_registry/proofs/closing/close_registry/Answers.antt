use Rattle.std.proofs.Common.{◌≡◌, inr, Some, subst, sym}
use Rattle.sqlite.specs.Files.{file_state}
use Rattle.sqlite.specs.State.{HasCleanDisk}
use Rattle.sqlite.specs.Tree.{Trees}
use Rattle.sqlite_store.specs.Laws.{settled_at}
use Rattle.goo_tables_rows.specs.Stands.{defects}
use Rattle.goo_spec_tables.specs.States.{state_of}
use Rattle.goo_store_judge.specs.Holding.{is_sure, sure}
use Rattle.goo_store_judge.specs.Moments.{OpensAs, leaves_in, tables_in}
use Rattle.goo_cli_registry.proofs.Files.{clean_before, opens_committed}
use Rattle.goo_cli_registry.proofs.closing.close_registry.Goals as goal

pub returns-in-Ok-clause-clean : goal.returns-in-Ok-clause-clean
returns-in-Ok-clause-clean g c = λ clean.
    subst (λ conn. HasCleanDisk (file_state conn)) c.into_connection.ensures.conn (c.in-Ok.ensures.copied clean).was_clean

-- what was committed last is in the database file
copied : goal.returns-in-Ok-clause-whole
copied g c = λ clean.
    let conn = c.into_connection.result in
    let copied = c.in-Ok.ensures.copied clean in
    let none = is_sure (file_state conn) copied.was_clean copied.was_open in
    record {
      db = (file_state conn).committed.trees;
      opens = subst (λ kept. OpensAs (file_state conn).committed.trees (Some (state_of (tables_in (file_state kept))))) c.into_connection.ensures.conn (opens_committed (file_state conn) c.into_connection.ensures.well none);
      seen = copied.seen;
      left = copied.left;
    }

pub returns-in-Ok-clause-whole : goal.returns-in-Ok-clause-whole
returns-in-Ok-clause-whole g c = copied g c

-- so the log may go
pub returns-in-Ok-clause-copied : goal.returns-in-Ok-clause-copied
returns-in-Ok-clause-copied g c = λ clean image may. inr ((file_state c.into_connection.result).committed.trees, (c.in-Ok.ensures.copied clean).left image may)

pub returns-in-Ok-clause-sure : goal.returns-in-Ok-clause-sure
returns-in-Ok-clause-sure g c = λ clean.
    let copied = c.in-Ok.ensures.copied clean in
    subst (λ kept. defects (file_state kept) ≡ 0) c.into_connection.ensures.conn (is_sure (file_state c.into_connection.result) copied.was_clean copied.was_open)

pub returns-in-Ok-clause-kept : goal.returns-in-Ok-clause-kept
returns-in-Ok-clause-kept g c none = copied g c

-- what a close that failed may leave is what was committed last
pub returns-in-Err-clause-kept : goal.returns-in-Err-clause-kept
returns-in-Err-clause-kept g c none db may =
    let conn = c.into_connection.result in
    subst (λ kept. defects (file_state kept) ≡ 0 → OpensAs db (Some (state_of (tables_in (file_state kept))))) c.into_connection.ensures.conn
    (λ here.
    subst (λ (trees : Trees). OpensAs trees (Some (state_of (tables_in (file_state conn)))))
    (sym (settled_at conn.store g.met.D.Disk.seen_may_stay db (sure (file_state conn) here).1 (c.in-Err.ensures.err.0.quiet.outcomes db may)))
    (opens_committed (file_state conn) c.into_connection.ensures.well here)) none

pub returns-in-Err-clause-clean : goal.returns-in-Err-clause-clean
returns-in-Err-clause-clean g c = λ clean.
    subst (λ conn. HasCleanDisk (file_state conn)) c.into_connection.ensures.conn (clean_before _ _ c.in-Err.ensures.err.0.quiet.clean clean)

-- a close that failed committed nothing more
pub returns-in-Err-clause-found : goal.returns-in-Err-clause-found
returns-in-Err-clause-found g c = λ db may found opens.
    subst (λ kept. leaves_in (file_state kept) found) c.into_connection.ensures.conn (db, c.in-Err.ensures.err.0.quiet.outcomes db may, opens)
