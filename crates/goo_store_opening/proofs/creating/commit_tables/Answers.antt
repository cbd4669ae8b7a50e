use Rattle.std.proofs.Common.{◌≡◌, IsTrue, true, arith, rules, subst, sym}
use Rattle.sqlite.specs.State.{HasCleanDisk, IsLive, KeepsCommit, Survives}
use Rattle.sqlite.specs.Held.{state}
use Rattle.goo_tables_rows.specs.Stands.{Sees, Settled, HoldsOurs}
use Rattle.goo_tables_rows.specs.Rows.{meta_in}
use Rattle.goo_tables_accounts.specs.Changes.{begun}
use Rattle.goo_tables_rows.specs.Columns.{no_schema}
use Rattle.std.proofs.Common.{refl}
use Rattle.goo_tables_rows.proofs.Results.{whenever}
use Rattle.goo_tables_rows.proofs.Committed.{committed, not_committed, survives_commit}
use Rattle.goo_store_opening.proofs.creating.commit_tables.Goals as goal

pub returns-clause-done : goal.returns-clause-done
returns-clause-done g c clean =
    let then = begun (meta_in c.args.meta.now) in
    let mid = state g.S.Store c.write_tables.new.tx.conn.now in
    let end = c.commit.new.self.0 in
    let same : end ≡ c.conn-2-1.given.0 = search rules in
    let late : HasCleanDisk (state g.S.Store end) = search rules in
    let opened : IsTrue (state g.S.Store c.transaction-tx.result.conn.now).in_transaction = subst (λ h. IsTrue (state g.S.Store h).in_transaction) (sym c.transaction-tx.ensures.begun) refl in
    let none : (state g.S.Store c.transaction-tx.result.conn.now).now.schema ≡ no_schema = subst (λ h. (state g.S.Store h).now.schema ≡ no_schema) (sym c.transaction-tx.ensures.begun) c.requires.empty in
    let seen : Sees mid then = c.in_ok-write_tables.ensures.made (omega (arith, c.commit.ensures.survives.clean)) opened none in
    subst (λ h. Settled (state g.S.Store h) then) same (committed mid (state g.S.Store end) then seen (c.in_ok-commit.ensures.ok late).1)

pub returns-clause-crash : goal.returns-clause-crash
returns-clause-crash g c =
    let then = begun (meta_in c.args.meta.now) in
    let mid = c.write_tables.new.tx.conn.now in
    let end = c.commit.new.self.0 in
    let same : end ≡ c.conn-2-1.given.0 = search rules in
    let opened : IsTrue (state g.S.Store c.transaction-tx.result.conn.now).in_transaction = subst (λ h. IsTrue (state g.S.Store h).in_transaction) (sym c.transaction-tx.ensures.begun) refl in
    let none : (state g.S.Store c.transaction-tx.result.conn.now).now.schema ≡ no_schema = subst (λ h. (state g.S.Store h).now.schema ≡ no_schema) (sym c.transaction-tx.ensures.begun) c.requires.empty in
    let inside = subst (λ h. Survives (state g.S.Store h) (state g.S.Store mid) (λ _. ⊥)) c.transaction-tx.ensures.begun c.write_tables.ensures.survives in
    let begun : IsLive (state g.S.Store c.transaction-tx.result.conn.now) = subst (λ h. IsLive (state g.S.Store h)) {x = record c.args.conn.now { in_transaction = true }} {y = c.transaction-tx.result.conn.now} (sym c.transaction-tx.ensures.begun) c.schema-known.ensures.live in
    subst (λ h. Survives (state g.S.Store c.args.conn.now) (state g.S.Store h) (HoldsOurs (state g.S.Store c.args.conn.now).is_open then)) same
    (survives_commit g.S.Store c.args.conn.now mid end then (λ clean. c.in_ok-write_tables.ensures.made clean opened none) (λ clean _. c.in_ok-write_tables.ensures.live clean begun opened none) inside c.commit.ensures.survives)

pub returns-in_err-commit-clause-crash : goal.returns-in_err-commit-clause-crash
returns-in_err-commit-clause-crash g c =
    let then = begun (meta_in c.args.meta.now) in
    let mid = c.write_tables.new.tx.conn.now in
    let end = c.commit.new.self.0 in
    let same : end ≡ c.conn-2-1.given.0 = search rules in
    let opened : IsTrue (state g.S.Store c.transaction-tx.result.conn.now).in_transaction = subst (λ h. IsTrue (state g.S.Store h).in_transaction) (sym c.transaction-tx.ensures.begun) refl in
    let none : (state g.S.Store c.transaction-tx.result.conn.now).now.schema ≡ no_schema = subst (λ h. (state g.S.Store h).now.schema ≡ no_schema) (sym c.transaction-tx.ensures.begun) c.requires.empty in
    let inside = subst (λ h. Survives (state g.S.Store h) (state g.S.Store mid) (λ _. ⊥)) c.transaction-tx.ensures.begun c.write_tables.ensures.survives in
    let begun : IsLive (state g.S.Store c.transaction-tx.result.conn.now) = subst (λ h. IsLive (state g.S.Store h)) {x = record c.args.conn.now { in_transaction = true }} {y = c.transaction-tx.result.conn.now} (sym c.transaction-tx.ensures.begun) c.schema-known.ensures.live in
    subst (λ h. Survives (state g.S.Store c.args.conn.now) (state g.S.Store h) (HoldsOurs (state g.S.Store c.args.conn.now).is_open then)) same
    (survives_commit g.S.Store c.args.conn.now mid end then (λ clean. c.in_ok-write_tables.ensures.made clean opened none) (λ clean _. c.in_ok-write_tables.ensures.live clean begun opened none) inside c.commit.ensures.survives)

pub returns-in_err-commit-clause-kept : goal.returns-in_err-commit-clause-kept
returns-in_err-commit-clause-kept g c clean live =
    let then = begun (meta_in c.args.meta.now) in
    let mid = state g.S.Store c.write_tables.new.tx.conn.now in
    let end = c.commit.new.self.0 in
    let same : end ≡ c.conn-2-1.given.0 = search rules in
    let late : HasCleanDisk (state g.S.Store end) = search rules in
    let early : HasCleanDisk mid = omega (arith, c.commit.ensures.survives.clean) in
    let open_late : IsTrue (state g.S.Store end).is_open = search rules in
    let opened : IsTrue (state g.S.Store c.transaction-tx.result.conn.now).in_transaction = subst (λ h. IsTrue (state g.S.Store h).in_transaction) (sym c.transaction-tx.ensures.begun) refl in
    let none : (state g.S.Store c.transaction-tx.result.conn.now).now.schema ≡ no_schema = subst (λ h. (state g.S.Store h).now.schema ≡ no_schema) (sym c.transaction-tx.ensures.begun) c.requires.empty in
    let seen : Sees mid then = c.in_ok-write_tables.ensures.made early opened none in
    let settled : IsTrue (state g.S.Store c.args.conn.now).is_open → (state g.S.Store c.args.conn.now).now ≡ (state g.S.Store c.args.conn.now).committed =
    c.is_autocommit-settled.ensures.settled (search rules) in
    let kept : KeepsCommit (state g.S.Store (record c.args.conn.now { in_transaction = true })) mid =
    subst (λ h. KeepsCommit (state g.S.Store h) mid) c.transaction-tx.ensures.begun (c.write_tables.ensures.uncommitted early) in
    let back = not_committed g.S.Store c.args.conn.now mid (state g.S.Store end) then _ settled kept seen (c.in_err-commit.ensures.err late) open_late in
    whenever c.from_residual-in_err-commit.result
    (subst (λ h. ((state g.S.Store h).now ≡ (state g.S.Store c.args.conn.now).now) × ((state g.S.Store h).committed ≡ (state g.S.Store c.args.conn.now).committed)) same back)
