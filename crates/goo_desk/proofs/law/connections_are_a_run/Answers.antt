use Rattle.goo_desk_backend.proofs.TableFacts.{imports_are_runs}
use Rattle.goo_desk_backend.specs.Showing.{shown_by, imported_by, begun_by}
use Rattle.goo_desk_server.proofs.Running.{steps_are_a_run}
use Rattle.goo_desk.proofs.law.connections_are_a_run.Goals as goal

pub returns : goal.returns
returns c = steps_are_a_run shown_by imported_by begun_by imports_are_runs
