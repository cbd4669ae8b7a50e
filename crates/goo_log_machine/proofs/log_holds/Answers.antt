use Rattle.goo_log_machine.proofs.Grown.{run_grows, run_keeps}
use Rattle.goo_log_machine.proofs.Kept.{runs, begins}
use Rattle.goo_log_machine.specs.Machine.{start}
use Rattle.goo_log_machine.proofs.log_holds.Goals as goal

pub returns-clause-holds : goal.returns-clause-holds
returns-clause-holds g c =
    λ next outcome stays again law s events.
    runs next outcome stays again law s events (start s) (begins next outcome stays again law s)

pub returns-clause-grows : goal.returns-clause-grows
returns-clause-grows g c = λ next outcome stays w events. run_grows next outcome stays events w

pub returns-clause-keeps : goal.returns-clause-keeps
returns-clause-keeps g c = λ next outcome stays w events. run_keeps next outcome stays events w
