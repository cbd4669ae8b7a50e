use Rattle.goo_core_moves.proofs.Stopping.{looked_failed, looked_past}
use Rattle.goo_core_judges.proofs.register_device.judge_register_device.Goals as goal

pub returns-in_err-device : goal.returns-in_err-device
returns-in_err-device g c = looked_failed _ _ _ _ _ _ c.from_residual.ensures.1 c.in_err-device.ensures

pub returns-in_err-account : goal.returns-in_err-account
returns-in_err-account g c = looked_past _ _ _ _ _ _ _ _ _ c.from_residual-in_err-account.ensures.1 c.in_ok-device.ensures c.in_err-account.ensures
