use Rattle.goo_core_moves.proofs.Stopping.{looked_failed}
use Rattle.goo_core_judges.proofs.open_holder.judge_open_holder.Goals as goal

pub returns-in_err-holder : goal.returns-in_err-holder
returns-in_err-holder g c = looked_failed _ _ _ _ _ _ c.from_residual.ensures.1 c.in_err-holder.ensures
