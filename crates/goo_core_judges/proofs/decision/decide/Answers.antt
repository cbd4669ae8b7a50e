use Rattle.std.proofs.Common.{◌≡◌, None, sym, subst}
use Rattle.std.specs.FinMap.{get}
use Rattle.goo_spec.specs.State.{State}
use Rattle.goo_core_judges.specs.Decision.{IsDecision}
use Rattle.goo_core_shelf.proofs.Looking.{looked, looked_then, looked_as}
use Rattle.goo_core_moves.proofs.Stopping.{looked_failed}
use Rattle.goo_core_judges.proofs.Keeping.{kept_decided, kept_by_none}
use Rattle.goo_core_judges.proofs.decision.decide.Goals as goal

pub returns-in_err-receipt : goal.returns-in_err-receipt
returns-in_err-receipt g c = looked_failed _ _ _ _ _ _ c.from_residual.ensures.1 c.in_err-receipt.ensures

pub returns-in-Some : goal.returns-in-Some
returns-in-Some g c =
    let old = g.S.Shelf.seen c.args.shelf.now in
    looked _ _ _ _ _ _ c.in_ok-receipt.ensures (λ none is. kept_decided old.state old.rows c.args.request.now c.in_ok-receipt.receipt c.in-Some.decision c.in-Some.ensures is)

pub decide_fresh-requires-clause-fresh : goal.decide_fresh-requires-clause-fresh
decide_fresh-requires-clause-fresh g c = λ none.
    let s = (g.S.Shelf.seen c.args.shelf.now).state in
    let q = c.args.request.now in
    let look = c.in_ok-receipt.ensures in
    subst (λ (t : State). get t.receipts (q.caller, q.key) ≡ None) (sym (look.same none)) (kept_by_none (get s.receipts (q.caller, q.key)) q.command c.in_ok-receipt.receipt c.in-None.ensures (look.found none))

pub returns-in-None : goal.returns-in-None
returns-in-None g c =
    let old = g.S.Shelf.seen c.args.shelf.now in
    let q = c.args.request.now in
    let both = looked_then _ _ _ c.in_ok-receipt.receipt _ _ (λ s rows decision. IsDecision s rows q decision) c.in_ok-receipt.ensures c.decide_fresh.ensures in
    looked_as old _ c.decide_fresh.result _ _ both (λ none decision found. found.1)
