use Rattle.goo_core_rules.specs.Decision.{IsDecisionBy}
use Rattle.goo_core_judges.proofs.Deciding.{decided}
use Rattle.goo_core_shelf.proofs.Looking.{looked_or_full}
use Rattle.goo_core_moves.proofs.Stopping.{looked_failed}
use Rattle.goo_core_judges.proofs.decision.decide_fresh.Goals as goal

pub returns : goal.returns
returns g c =
    let old = g.S.Shelf.seen c.args.shelf.now in
    let q = c.args.request.now in
    let ruling = c.in_ok-ruling.ruling in
    looked_or_full old _ ruling _ _ (IsDecisionBy q ruling) _ c.in_ok-ruling.ensures c.decision_by.ensures.memory c.decision_by.ensures.decision (λ none ruled decision is.
    decided old.state old.rows q ruling decision c.command.ensures.limits (c.requires.sound none) (c.requires.rows none) (c.requires.fresh none) ruled is)

pub returns-in_err-ruling : goal.returns-in_err-ruling
returns-in_err-ruling g c = looked_failed _ _ _ _ _ _ c.from_residual.ensures.1 c.in_err-ruling.ensures
