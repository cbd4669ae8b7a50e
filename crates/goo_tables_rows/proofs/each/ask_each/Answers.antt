use Rattle.std.proofs.Common.{◌≡◌, [], Ok, Err, ◌∙◌, refl, subst, sym, rules}
use Rattle.std.specs.List.{AllZip}
use Rattle.sqlite.specs.State.{HasCleanDisk}
use Rattle.sqlite.specs.Values.{bound}
use Rattle.sqlite.specs.Held.{state}
use Rattle.goo_tables_rows.specs.Asked.{IsReadThrough, FailsToGive}
use Rattle.goo_tables_rows.proofs.Giving.{asking_begins, asking_goes_on, gave_all, failed_all, failed_then, ran_then, never_ran}
use Rattle.goo_tables_rows.proofs.each.ask_each.Goals as goal

pub returns-in_err-rows-clause-ran : goal.returns-in_err-rows-clause-ran
returns-in_err-rows-clause-ran g c clean =
    let failed = (rw c.in_err-rows.was at c.query.follows.holds-at-none).err clean in
    never_ran g.S.Store c.args.sql.now (bound c.args.params.now) g.T.FromRow.reads g.T.FromRow.readable c.args.conn.now c.query.follows.lender-at-none _ failed

pub rows-init : goal.rows-init
rows-init g c =
    let made = c.in_ok-rows.ensures in
    (refl, asking_begins g.S.Store c.args.sql.now (bound c.args.params.now) g.T.FromRow.reads g.T.FromRow.readable c.args.conn.now _ (Ok c.new.result) (subst (AllZip g.T.FromRow.reads []) (sym c.new.ensures.items) tt) made.mode made.survives made.begun)

pub rows-preserved : goal.rows-preserved
rows-preserved g c =
    let moved = c.next.follows.holds-at-none in
    let now = c.next.follows.lender-at-none.conn.now in (
      moved.same_reference ∙ c.rows.invariant.0,
      asking_goes_on g.S.Store c.args.sql.now (bound c.args.params.now) g.T.FromRow.reads g.T.FromRow.readable c.args.conn.now c.rows.rows.conn.now now c.rows.found c.rows.invariant.1 moved.survives
          c.in-Some.row.now c.with_row-found.result moved.mode (λ clean. rw (c.in_ok-row.was, c.in-Some.is) at (moved.ok clean)) (λ clean. rw c.in_ok-row.was at (moved.same clean)) c.with_row-found.ensures,
    )

pub returns-in_err-row-clause-refused : goal.returns-in_err-row-clause-refused
returns-in_err-row-clause-refused g c clean =
    let moved = c.next.follows.holds-at-none in
    let now = c.next.follows.lender-at-none.conn.now in
    let late : HasCleanDisk (state g.S.Store now) = search rules in
    let failed = failed_then g.S.Store c.args.sql.now (bound c.args.params.now) g.T.FromRow.reads g.T.FromRow.readable c.args.conn.now c.rows.rows.conn.now now c.rows.found c.rows.invariant.1 moved.survives late _ (rw c.in_err-row.was at (moved.err late)) in
    let is : c.from_residual-in_err-row.result ≡ Err c.in_err-row.field-0.0 = search rules in
    rw is (subst (λ s. FailsToGive c.args.sql.now (bound c.args.params.now) (state g.S.Store c.args.conn.now) s g.T.FromRow.readable c.in_err-row.field-0.0) (search rules) failed)

pub returns-in_err-row-clause-ran : goal.returns-in_err-row-clause-ran
returns-in_err-row-clause-ran g c clean =
    let moved = c.next.follows.holds-at-none in
    let now = c.next.follows.lender-at-none.conn.now in
    let late : HasCleanDisk (state g.S.Store now) = search rules in
    let ran = ran_then g.S.Store c.args.sql.now (bound c.args.params.now) g.T.FromRow.reads g.T.FromRow.readable c.args.conn.now c.rows.rows.conn.now now c.rows.found c.rows.invariant.1 moved.survives late _ (rw c.in_err-row.was at (moved.err late)) in
    subst (IsReadThrough c.args.sql.now (bound c.args.params.now) (state g.S.Store c.args.conn.now)) (search rules) ran

pub returns-in_default-clause-read : goal.returns-in_default-clause-read
returns-in_default-clause-read g c clean =
    let moved = c.next.follows.holds-at-none in
    let now = c.next.follows.lender-at-none.conn.now in
    let late : HasCleanDisk (state g.S.Store now) = search rules in
    let gave = gave_all g.S.Store c.args.sql.now (bound c.args.params.now) g.T.FromRow.reads g.T.FromRow.readable c.args.conn.now c.rows.rows.conn.now now c.rows.found c.rows.invariant.1 moved.survives late (rw (c.in_ok-row.was, c.in_default.is) at (moved.ok late)) (rw c.in_ok-row.was at (moved.same late)) in
    search rules

pub returns-in_default-clause-refused : goal.returns-in_default-clause-refused
returns-in_default-clause-refused g c clean =
    let moved = c.next.follows.holds-at-none in
    let now = c.next.follows.lender-at-none.conn.now in
    let late : HasCleanDisk (state g.S.Store now) = search rules in
    let failed = failed_all g.S.Store c.args.sql.now (bound c.args.params.now) g.T.FromRow.reads g.T.FromRow.readable c.args.conn.now c.rows.rows.conn.now now c.rows.found c.rows.invariant.1 moved.survives late (rw (c.in_ok-row.was, c.in_default.is) at (moved.ok late)) (rw c.in_ok-row.was at (moved.same late)) in
    search rules
