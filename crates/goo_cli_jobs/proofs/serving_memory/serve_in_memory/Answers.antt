use Rattle.std.proofs.Common.{inl, refl}
use Rattle.sqlite.specs.Files.{file_state}
use Rattle.sqlite_pool.specs.Pool.{state}
use Rattle.goo_cli_files.proofs.Served.{none_counted, of_fault}
use Rattle.goo_cli_registry.proofs.Files.{honest}
use Rattle.goo_cli_jobs.proofs.serving_memory.serve_in_memory.Goals as goal

-- nothing is accepted where there is no registry
pub returns-in-Err-clause-counted : goal.returns-in-Err-clause-counted
returns-in-Err-clause-counted g c = none_counted _ (g.L.Listener.clients c.args.listener.now).accepted (g.L.Listener.clients c.args.listener.now).accepted c.args.serving.count refl

pub returns-in-Err-clause-serves : goal.returns-in-Err-clause-serves
returns-in-Err-clause-serves g c = inl refl

-- a file in memory corrupts nothing
pub returns-clause-serves : goal.returns-clause-serves
unfolding state
returns-clause-serves g c = c.serve_new-ending.ensures.serves (honest (file_state c.serve_new-ending.result.1).is_clean refl)

pub returns-in-Err-clause-words : goal.returns-in-Err-clause-words
returns-in-Err-clause-words g c = of_fault c.in-Err.failure c.in-Err.ensures.word
