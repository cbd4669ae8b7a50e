use Rattle.std.proofs.Common.{◌≡◌, IsTrue, true, arith, rules, subst, sym}
use Rattle.sqlite.specs.State.{HasCleanDisk, IsLive, KeepsCommit, Survives}
use Rattle.sqlite.specs.Held.{state}
use Rattle.goo_tables_rows.specs.Stands.{Sees, Settled, HoldsOurs}
use Rattle.goo_tables_accounts.specs.Changes.{with_version}
use Rattle.goo_store_changes.specs.Changes.{made_all}
use Rattle.goo_store_changes.specs.Migrated.{SeesFirst}
use Rattle.goo_tables_rows.proofs.Results.{whenever}
use Rattle.goo_tables_rows.proofs.Committed.{committed, not_committed, survives_commit}
use Rattle.goo_store_changes.proofs.Endings.{first_seen, committed_live, undone_live}
use Rattle.goo_store_changes.proofs.migrating.commit_migration.Goals as goal

pub returns-clause-done : goal.returns-clause-done
returns-clause-done g c clean t it for =
    let then = with_version c.args.version (made_all t c.args.changes.now) in
    let mid = state g.S.Store c.migrate.new.tx.conn.now in
    let end = c.commit.new.self.0 in
    let same : end ≡ c.conn-2-1.given.0 = search rules in
    let late : HasCleanDisk (state g.S.Store end) = search rules in
    let first : SeesFirst (state g.S.Store c.transaction-tx.result.conn.now) t = first_seen g.S.Store c.args.conn.now c.transaction-tx.result.conn.now t c.transaction-tx.ensures.begun it in
    let seen : Sees mid then = c.in_ok-migrate.ensures.migrated (omega (arith, c.commit.ensures.survives.clean)) t first for in
    subst (λ h. Settled (state g.S.Store h) then) {x = c.commit.new.self.0} {y = c.conn-2-1.given.0} same (committed mid (state g.S.Store end) then seen (c.in_ok-commit.ensures.ok late).1)

pub returns-clause-crash : goal.returns-clause-crash
returns-clause-crash g c t it for =
    let then = with_version c.args.version (made_all t c.args.changes.now) in
    let mid = c.migrate.new.tx.conn.now in
    let end = c.commit.new.self.0 in
    let same : end ≡ c.conn-2-1.given.0 = search rules in
    let first : SeesFirst (state g.S.Store c.transaction-tx.result.conn.now) t = first_seen g.S.Store c.args.conn.now c.transaction-tx.result.conn.now t c.transaction-tx.ensures.begun it in
    let inside = subst (λ h. Survives (state g.S.Store h) (state g.S.Store mid) (λ _. ⊥)) {x = c.transaction-tx.result.conn.now} {y = record c.args.conn.now { in_transaction = true }} c.transaction-tx.ensures.begun c.migrate.ensures.survives in
    let begun : IsLive (state g.S.Store c.transaction-tx.result.conn.now) = subst (λ h. IsLive (state g.S.Store h)) {x = record c.args.conn.now { in_transaction = true }} {y = c.transaction-tx.result.conn.now} (sym c.transaction-tx.ensures.begun) c.schema-known.ensures.live in
    subst (λ h. Survives (state g.S.Store c.args.conn.now) (state g.S.Store h) (HoldsOurs (state g.S.Store c.args.conn.now).is_open then)) {x = c.commit.new.self.0} {y = c.conn-2-1.given.0} same
    (survives_commit g.S.Store c.args.conn.now mid end then (λ clean. c.in_ok-migrate.ensures.migrated clean t first for) (λ clean _. c.in_ok-migrate.ensures.live clean begun t first for) inside c.commit.ensures.survives)

pub returns-in_err-commit-clause-crash : goal.returns-in_err-commit-clause-crash
returns-in_err-commit-clause-crash g c t it for =
    let then = with_version c.args.version (made_all t c.args.changes.now) in
    let mid = c.migrate.new.tx.conn.now in
    let end = c.commit.new.self.0 in
    let same : end ≡ c.conn-2-1.given.0 = search rules in
    let first : SeesFirst (state g.S.Store c.transaction-tx.result.conn.now) t = first_seen g.S.Store c.args.conn.now c.transaction-tx.result.conn.now t c.transaction-tx.ensures.begun it in
    let inside = subst (λ h. Survives (state g.S.Store h) (state g.S.Store mid) (λ _. ⊥)) {x = c.transaction-tx.result.conn.now} {y = record c.args.conn.now { in_transaction = true }} c.transaction-tx.ensures.begun c.migrate.ensures.survives in
    let begun : IsLive (state g.S.Store c.transaction-tx.result.conn.now) = subst (λ h. IsLive (state g.S.Store h)) {x = record c.args.conn.now { in_transaction = true }} {y = c.transaction-tx.result.conn.now} (sym c.transaction-tx.ensures.begun) c.schema-known.ensures.live in
    subst (λ h. Survives (state g.S.Store c.args.conn.now) (state g.S.Store h) (HoldsOurs (state g.S.Store c.args.conn.now).is_open then)) {x = c.commit.new.self.0} {y = c.conn-2-1.given.0} same
    (survives_commit g.S.Store c.args.conn.now mid end then (λ clean. c.in_ok-migrate.ensures.migrated clean t first for) (λ clean _. c.in_ok-migrate.ensures.live clean begun t first for) inside c.commit.ensures.survives)

pub returns-in_err-commit-clause-kept : goal.returns-in_err-commit-clause-kept
returns-in_err-commit-clause-kept g c clean live t it for =
    let then = with_version c.args.version (made_all t c.args.changes.now) in
    let mid = state g.S.Store c.migrate.new.tx.conn.now in
    let end = c.commit.new.self.0 in
    let same : end ≡ c.conn-2-1.given.0 = search rules in
    let late : HasCleanDisk (state g.S.Store end) = search rules in
    let early : HasCleanDisk mid = omega (arith, c.commit.ensures.survives.clean) in
    let open_late : IsTrue (state g.S.Store end).is_open = search rules in
    let first : SeesFirst (state g.S.Store c.transaction-tx.result.conn.now) t = first_seen g.S.Store c.args.conn.now c.transaction-tx.result.conn.now t c.transaction-tx.ensures.begun it in
    let seen : Sees mid then = c.in_ok-migrate.ensures.migrated early t first for in
    let settled : IsTrue (state g.S.Store c.args.conn.now).is_open → (state g.S.Store c.args.conn.now).now ≡ (state g.S.Store c.args.conn.now).committed =
    c.is_autocommit-settled.ensures.settled (search rules) in
    let kept : KeepsCommit (state g.S.Store (record c.args.conn.now { in_transaction = true })) mid =
    subst (λ h. KeepsCommit (state g.S.Store h) mid) {x = c.transaction-tx.result.conn.now} {y = record c.args.conn.now { in_transaction = true }} c.transaction-tx.ensures.begun (c.migrate.ensures.uncommitted early) in
    let back = not_committed g.S.Store c.args.conn.now mid (state g.S.Store end) then _ settled kept seen (c.in_err-commit.ensures.err late) open_late in
    whenever c.from_residual-in_err-commit.result
    (subst (λ h. ((state g.S.Store h).now ≡ (state g.S.Store c.args.conn.now).now) × ((state g.S.Store h).committed ≡ (state g.S.Store c.args.conn.now).committed)) {x = c.commit.new.self.0} {y = c.conn-2-1.given.0} same back)

pub returns-clause-live : goal.returns-clause-live
returns-clause-live g c clean t it for =
    let mid = state g.S.Store c.migrate.new.tx.conn.now in
    let end = c.commit.new.self.0 in
    let same : end ≡ c.conn-2-1.given.0 = search rules in
    let late : HasCleanDisk (state g.S.Store end) = search rules in
    let early : HasCleanDisk mid = omega (arith, c.commit.ensures.survives.clean) in
    let first : SeesFirst (state g.S.Store c.transaction-tx.result.conn.now) t = first_seen g.S.Store c.args.conn.now c.transaction-tx.result.conn.now t c.transaction-tx.ensures.begun it in
    let begun : IsLive (state g.S.Store c.transaction-tx.result.conn.now) = subst (λ h. IsLive (state g.S.Store h)) {x = record c.args.conn.now { in_transaction = true }} {y = c.transaction-tx.result.conn.now} (sym c.transaction-tx.ensures.begun) c.schema-known.ensures.live in
    let lives : IsLive mid = (c.in_ok-migrate.ensures.live early begun t first for).1 in
    subst (λ h. IsLive (state g.S.Store h)) {x = c.commit.new.self.0} {y = c.conn-2-1.given.0} same (committed_live mid (state g.S.Store end) lives (c.in_ok-commit.ensures.ok late).1)

pub returns-in_err-commit-clause-live : goal.returns-in_err-commit-clause-live
returns-in_err-commit-clause-live g c clean t it for =
    let then = with_version c.args.version (made_all t c.args.changes.now) in
    let mid = state g.S.Store c.migrate.new.tx.conn.now in
    let end = c.commit.new.self.0 in
    let same : end ≡ c.conn-2-1.given.0 = search rules in
    let late : HasCleanDisk (state g.S.Store end) = search rules in
    let early : HasCleanDisk mid = omega (arith, c.commit.ensures.survives.clean) in
    let first : SeesFirst (state g.S.Store c.transaction-tx.result.conn.now) t = first_seen g.S.Store c.args.conn.now c.transaction-tx.result.conn.now t c.transaction-tx.ensures.begun it in
    let begun : IsLive (state g.S.Store c.transaction-tx.result.conn.now) = subst (λ h. IsLive (state g.S.Store h)) {x = record c.args.conn.now { in_transaction = true }} {y = c.transaction-tx.result.conn.now} (sym c.transaction-tx.ensures.begun) c.schema-known.ensures.live in
    let lives : IsLive mid = (c.in_ok-migrate.ensures.live early begun t first for).1 in
    let seen : Sees mid then = c.in_ok-migrate.ensures.migrated early t first for in
    subst (λ h. IsLive (state g.S.Store h)) {x = c.commit.new.self.0} {y = c.conn-2-1.given.0} same (undone_live mid (state g.S.Store end) then _ lives seen (c.in_err-commit.ensures.err late))
