use Rattle.goo_core_moves.proofs.Stopping.{looked_failed}
use Rattle.goo_core_judges.proofs.add_peer.judge_add_peer.Goals as goal

pub returns-in_err-peer : goal.returns-in_err-peer
returns-in_err-peer g c = looked_failed _ _ _ _ _ _ c.from_residual.ensures.1 c.in_err-peer.ensures
