use Rattle.goo_core_moves.proofs.Stopping.{looked_failed, looked_past}
use Rattle.goo_core_judges.proofs.import.arrive.Goals as goal

pub returns-in_err-known : goal.returns-in_err-known
returns-in_err-known g c = looked_failed _ _ _ _ _ _ c.from_residual.ensures.1 c.in_err-known.ensures

pub returns-in_err-rows : goal.returns-in_err-rows
returns-in_err-rows g c = looked_past _ _ _ _ _ _ _ _ _ c.from_residual-in_err-rows.ensures.1 c.in_ok-known.ensures c.in_err-rows.ensures.looks
