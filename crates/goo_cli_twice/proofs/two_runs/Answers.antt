use Rattle.goo_cli_twice.proofs.Twice.{two_runs, two_tables}
use Rattle.goo_cli_twice.proofs.two_runs.Goals as goal

pub returns-clause-lines : goal.returns-clause-lines
returns-clause-lines g c = two_runs g.D.Disk g.E.Disk

pub returns-clause-tables : goal.returns-clause-tables
returns-clause-tables g c = two_tables g.D.Disk g.E.Disk
