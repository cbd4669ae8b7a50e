use Rattle.goo_files_import.proofs.Runs.{a_run}
use Rattle.goo_files_import.proofs.law.import_is_a_run.Goals as goal

pub returns : goal.returns
returns c = a_run
