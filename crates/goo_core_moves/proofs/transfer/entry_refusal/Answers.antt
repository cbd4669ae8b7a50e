use Rattle.goo_core_moves.proofs.Stopping.{looked_failed, looked_past}
use Rattle.goo_core_moves.proofs.transfer.entry_refusal.Goals as goal

pub returns-in_err-account : goal.returns-in_err-account
returns-in_err-account g c = looked_failed _ _ _ _ _ _ c.from_residual.ensures.1 c.in_err-account.ensures

pub returns-in_err-taker : goal.returns-in_err-taker
returns-in_err-taker g c = looked_past _ _ _ _ _ _ _ _ _ c.from_residual-in_err-taker.ensures.1 c.in_ok-account.ensures c.in_err-taker.ensures
