use Rattle.std.proofs.Common.{arith, subst}
use Rattle.std.proofs.lemmas.List.{take_all}
use Rattle.goo_core_judges.specs.Import.{IsArriving, AreArriving}
use Rattle.goo_core_judges.proofs.Arrivals.{arriving_more}
use Rattle.goo_core_shelf.proofs.Looking.{looked, looked_then}
use Rattle.goo_core_moves.proofs.Stopping.{looked_failed, looked_full}
use Rattle.goo_core_judges.proofs.import.arrive_all.Goals as goal

pub loop-part-preserved : goal.loop-part-preserved
loop-part-preserved g c =
    let old = g.S.Shelf.seen c.args.shelf.now in
    let p = c.part-item.result in
    let both = looked_then _ _ _ c.loop-part.arriving _ _ (λ s rows a. IsArriving s rows p a) c.loop-part.invariant c.in_ok-found.ensures in
    looked _ _ _ _ _ _ both (λ none found.
    arriving_more old.state old.rows c.args.parts.now c.loop-part.part-index c.loop-part.arriving.items c.push_arriving.new.arriving.items p c.in_ok-found.found
    (omega (arith, c.loop-part-test.true)) c.part-item.is found.0 found.1 c.in_ok-push_arriving.ensures)

pub returns-in_err-found : goal.returns-in_err-found
returns-in_err-found g c =
    let p = c.part-item.result in
    looked_failed _ _ _ _ _ _ c.from_residual.ensures.1 (looked_then _ _ _ c.loop-part.arriving _ _ (λ s rows a. IsArriving s rows p a) c.loop-part.invariant c.in_err-found.ensures)

pub returns-in_err-push_arriving : goal.returns-in_err-push_arriving
returns-in_err-push_arriving g c =
    let p = c.part-item.result in
    looked_full _ _ _ _ _ _ c.from_residual-in_err-push_arriving.ensures.1 (looked_then _ _ _ c.loop-part.arriving _ _ (λ s rows a. IsArriving s rows p a) c.loop-part.invariant c.in_ok-found.ensures)

pub returns : goal.returns
returns g c =
    let old = g.S.Shelf.seen c.args.shelf.now in
    looked _ _ _ _ _ _ c.loop-part.invariant (λ none are.
    subst (λ ps. AreArriving old.state old.rows ps c.loop-part.arriving.items) (take_all c.loop-part.part-index c.args.parts.now (omega (arith, c.loop-part-test.false))) are)
