use Rattle.goo_core_moves.proofs.Stopping.{looked_failed}
use Rattle.goo_core_moves.proofs.advance.entry_refusal.Goals as goal

pub returns-in_err-today : goal.returns-in_err-today
returns-in_err-today g c = looked_failed _ _ _ _ _ _ c.from_residual.ensures.1 c.in_err-today.ensures
