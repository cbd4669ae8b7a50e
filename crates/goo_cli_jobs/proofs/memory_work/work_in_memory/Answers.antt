use Rattle.goo_spec.specs.Created.{created}
use Rattle.goo_cli_jobs.proofs.MemoryLemmas.{answered_in_memory, served_in_memory}
use Rattle.goo_cli_jobs.proofs.memory_work.work_in_memory.Goals as goal

pub returns-in-Run : goal.returns-in-Run
returns-in-Run g c =
    let it = c.run_in_memory.ensures in
    let new = created c.args.opening.code c.args.opening.today c.args.opening.next_serial in
    record { worked = rw c.in-Run.is (answered_in_memory new _ _ _ _ c.run_in_memory.result it.runs it.sound it.words) }

pub returns-in-Serve : goal.returns-in-Serve
returns-in-Serve g c =
    let it = c.serve_in_memory.ensures in
    let new = created c.args.opening.code c.args.opening.today c.args.opening.next_serial in
    record { worked = rw c.in-Serve.is (served_in_memory new (g.R.Read.remaining c.args.reader.now) (g.R.Read.remaining c.args.reader.now) _ _ c.serve_in_memory.result _ _ _ _ it.announced it.counted it.serves it.words) }
