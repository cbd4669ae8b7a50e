use Rattle.goo_desk_lines.proofs.Runs.{lines_are_a_run}
use Rattle.goo_desk_lines.proofs.law.lines_are_a_run.Goals as goal

pub returns : goal.returns
returns c = lines_are_a_run
