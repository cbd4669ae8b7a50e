use Rattle.goo_store_opening.specs.Versions.{state_held}
use Rattle.goo_cli_jobs.proofs.WorkLemmas.{answered, audited, imported, served, sound_of, stated}
use Rattle.goo_cli_jobs.proofs.work.work_in_files.Goals as goal

pub returns-in-Run-clause-worked : goal.returns-in-Run-clause-worked
returns-in-Run-clause-worked g c = λ clean db holds.
    let it = c.run_in_files.ensures in
    rw c.in-Run.is (answered (state_held db) _ _ _ _ c.run_in_files.result.0 c.run_in_files.result.1 (it.runs clean db holds) (sound_of c.run_in_files.result.1 db (it.begins clean db holds)) it.words it.refused)

pub returns-in-Declare-clause-worked : goal.returns-in-Declare-clause-worked
returns-in-Declare-clause-worked g c = λ clean db holds.
    let it = c.declare_in_files.ensures in
    rw c.in-Declare.is (imported (state_held db) _ _ _ _ c.declare_in_files.result.0 c.declare_in_files.result.1 (it.runs clean db holds) (sound_of c.declare_in_files.result.1 db (it.begins clean db holds)) it.words it.refused)

pub returns-in-Statement-clause-worked : goal.returns-in-Statement-clause-worked
returns-in-Statement-clause-worked g c = λ clean db holds.
    let it = c.statement_in_files.ensures in
    rw c.in-Statement.is (stated (state_held db) (g.R.Read.remaining c.args.reader.now) (g.R.Read.remaining c.args.reader.now) _ _ c.statement_in_files.result.0 c.statement_in_files.result.1 _
    (it.shown clean db holds) (it.unknown clean db holds) (it.silent clean) (it.begun clean db holds) (it.kept clean db holds) it.words it.refused)

pub returns-in-Audit-clause-worked : goal.returns-in-Audit-clause-worked
returns-in-Audit-clause-worked g c = λ clean db holds.
    let it = c.audit_in_files.ensures in
    rw c.in-Audit.is (audited (state_held db) (g.R.Read.remaining c.args.reader.now) (g.R.Read.remaining c.args.reader.now) _ _ c.audit_in_files.result.0 c.audit_in_files.result.1
    (it.shown clean db holds) (it.silent clean) (it.begun clean db holds) (it.kept clean db holds) it.words it.refused)

pub returns-in-Serve-clause-worked : goal.returns-in-Serve-clause-worked
returns-in-Serve-clause-worked g c = λ clean db holds.
    let it = c.serve_in_files.ensures in
    rw c.in-Serve.is (served (state_held db) (g.R.Read.remaining c.args.reader.now) (g.R.Read.remaining c.args.reader.now) _ _ c.serve_in_files.result.0 c.serve_in_files.result.1 _ _ _ _ it.announced it.counted (it.promised clean db holds) (it.serves clean db holds) it.words it.refused)
