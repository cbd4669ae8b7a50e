use Rattle.goo_core_moves.proofs.Stopping.{looked_failed, looked_past}
use Rattle.goo_core_judges.proofs.import.enter.Goals as goal

pub returns-in_err-meta : goal.returns-in_err-meta
returns-in_err-meta g c = looked_failed _ _ _ _ _ _ c.from_residual.ensures.1 c.in_err-meta.ensures

pub returns-in_err-peer : goal.returns-in_err-peer
returns-in_err-peer g c = looked_past _ _ _ _ _ _ _ _ _ c.from_residual-in_err-peer.ensures.1 c.in_ok-meta.ensures c.in_err-peer.ensures
