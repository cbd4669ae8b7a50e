use Rattle.goo_desk_backend.proofs.TableFacts.{imports_are_runs}
use Rattle.goo_desk_backend.proofs.law.imports_are_runs.Goals as goal

pub returns : goal.returns
returns c = imports_are_runs
