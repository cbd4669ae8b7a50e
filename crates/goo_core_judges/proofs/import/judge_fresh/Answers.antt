use Rattle.goo_core_moves.proofs.Stopping.{looked_failed}
use Rattle.goo_core_judges.proofs.import.judge_fresh.Goals as goal

pub returns-in_err-refusal : goal.returns-in_err-refusal
returns-in_err-refusal g c = looked_failed _ _ _ _ _ _ c.from_residual.ensures.1 c.in_err-refusal.ensures
