use Rattle.goo_core_moves.proofs.Stopping.{looked_failed}
use Rattle.goo_core_moves.proofs.cancel.entry_refusal.Goals as goal

pub returns-in_err-account : goal.returns-in_err-account
returns-in_err-account g c = looked_failed _ _ _ _ _ _ c.from_residual.ensures.1 c.in_err-account.ensures
