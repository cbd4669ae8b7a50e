use Rattle.goo_core_moves.proofs.Stopping.{looked_failed, looked_past}
use Rattle.goo_core_judges.proofs.open_account.judge_open_account.Goals as goal

pub returns-in_err-holder : goal.returns-in_err-holder
returns-in_err-holder g c = looked_failed _ _ _ _ _ _ c.from_residual.ensures.1 c.in_err-holder.ensures

pub returns-in_err-counters : goal.returns-in_err-counters
returns-in_err-counters g c = looked_past _ _ _ _ _ _ _ _ _ c.from_residual-in_err-counters.ensures.1 c.in_ok-holder.ensures c.in_err-counters.ensures
