use Rattle.std.proofs.Common.{◌≡◌, true, length, arith, rules, subst, sym}
use Rattle.sqlite.specs.State.{HasCleanDisk, KeepsCommit, Survives}
use Rattle.sqlite.specs.Effect.{Database}
use Rattle.sqlite.specs.Held.{state}
use Rattle.goo_tables_rows.proofs.Results.{whenever}
use Rattle.goo_store_anew.specs.Answered.{AreAnswers, HoldAnswers}
use Rattle.goo_store_anew.proofs.Written.{survives_written, failed_keeps, begun_keeps}
use Rattle.goo_store_anew.proofs.rewriting.write_and_commit.Goals as goal

pub returns-clause-done : goal.returns-clause-done
returns-clause-done g c clean =
    let answers = c.args.answers.now in
    let mid = state g.S.Store c.write_inside.new.tx.conn.now in
    let end = c.commit.new.self.0 in
    let same : end ≡ c.conn-2-1.given.0 = search rules in
    let late : HasCleanDisk (state g.S.Store end) = search rules in
    let told : AreAnswers (length answers) mid.now answers = c.in_ok-write_inside.ensures.told (omega (arith, c.commit.ensures.survives.clean)) in
    subst (λ h. AreAnswers (length answers) (state g.S.Store h).now answers) {x = c.commit.new.self.0} {y = c.conn-2-1.given.0} same
    (subst (λ (d : Database). AreAnswers (length answers) d answers) (sym (c.in_ok-commit.ensures.ok late).1.now_is) told)

pub returns-clause-crash : goal.returns-clause-crash
returns-clause-crash g c =
    let mid = c.write_inside.new.tx.conn.now in
    let end = c.commit.new.self.0 in
    let same : end ≡ c.conn-2-1.given.0 = search rules in
    let inside = subst (λ h. Survives (state g.S.Store h) (state g.S.Store mid) (λ _. ⊥)) {x = c.transaction-tx.result.conn.now} {y = record c.args.conn.now { in_transaction = true }} c.transaction-tx.ensures.begun c.write_inside.ensures.quiet.survives in
    subst (λ h. Survives (state g.S.Store c.args.conn.now) (state g.S.Store h) (HoldAnswers c.args.answers.now)) {x = c.commit.new.self.0} {y = c.conn-2-1.given.0} same
    (survives_written g.S.Store c.args.conn.now mid end c.args.answers.now (λ clean. c.in_ok-write_inside.ensures.told clean) inside c.commit.ensures.survives)

pub returns-in_err-commit-clause-crash : goal.returns-in_err-commit-clause-crash
returns-in_err-commit-clause-crash g c =
    let mid = c.write_inside.new.tx.conn.now in
    let end = c.commit.new.self.0 in
    let same : end ≡ c.conn-2-1.given.0 = search rules in
    let inside = subst (λ h. Survives (state g.S.Store h) (state g.S.Store mid) (λ _. ⊥)) {x = c.transaction-tx.result.conn.now} {y = record c.args.conn.now { in_transaction = true }} c.transaction-tx.ensures.begun c.write_inside.ensures.quiet.survives in
    subst (λ h. Survives (state g.S.Store c.args.conn.now) (state g.S.Store h) (HoldAnswers c.args.answers.now)) {x = c.commit.new.self.0} {y = c.conn-2-1.given.0} same
    (survives_written g.S.Store c.args.conn.now mid end c.args.answers.now (λ clean. c.in_ok-write_inside.ensures.told clean) inside c.commit.ensures.survives)

pub returns-in_err-commit-clause-uncommitted : goal.returns-in_err-commit-clause-uncommitted
returns-in_err-commit-clause-uncommitted g c clean =
    let mid = state g.S.Store c.write_inside.new.tx.conn.now in
    let end = c.commit.new.self.0 in
    let same : end ≡ c.conn-2-1.given.0 = search rules in
    let late : HasCleanDisk (state g.S.Store end) = search rules in
    let early : HasCleanDisk mid = omega (arith, c.commit.ensures.survives.clean) in
    let kept : KeepsCommit (state g.S.Store (record c.args.conn.now { in_transaction = true })) mid =
    subst (λ h. KeepsCommit (state g.S.Store h) mid) {x = c.transaction-tx.result.conn.now} {y = record c.args.conn.now { in_transaction = true }} c.transaction-tx.ensures.begun (c.write_inside.ensures.quiet.uncommitted early) in
    let back = begun_keeps g.S.Store c.args.conn.now mid (state g.S.Store end) kept (failed_keeps mid (state g.S.Store end) _ (c.in_err-commit.ensures.err late)) in
    whenever c.from_residual-in_err-commit.result
    (subst (λ h. KeepsCommit (state g.S.Store c.args.conn.now) (state g.S.Store h)) {x = c.commit.new.self.0} {y = c.conn-2-1.given.0} same back)
