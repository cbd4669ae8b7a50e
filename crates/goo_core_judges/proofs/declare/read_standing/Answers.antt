use Rattle.goo_core_moves.proofs.Stopping.{looked_failed, looked_on, looked_past}
use Rattle.goo_core_judges.proofs.declare.read_standing.Goals as goal

pub returns-in_err-found : goal.returns-in_err-found
returns-in_err-found g c = looked_failed _ _ _ _ _ _ c.from_residual.ensures.1 c.in_err-found.ensures

pub returns-in_err-account : goal.returns-in_err-account
returns-in_err-account g c = looked_past _ _ _ _ _ _ _ _ _ c.from_residual-in_err-account.ensures.1 c.in_ok-found.ensures c.in_err-account.ensures

pub returns-in_err-meta : goal.returns-in_err-meta
returns-in_err-meta g c = looked_past _ _ _ _ _ _ _ _ _ c.from_residual-in_err-meta.ensures.1 (looked_on _ _ _ _ _ _ _ c.in_ok-found.ensures c.in_ok-account.ensures) c.in_err-meta.ensures
