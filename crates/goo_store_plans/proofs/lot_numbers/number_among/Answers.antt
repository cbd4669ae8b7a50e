use Rattle.std.proofs.Common.{◌<◌, ◌≢◌, All, length, subst, take_all, arith, rules}
use Rattle.std.proofs.lemmas.List.Elements.{All-more}
use Rattle.goo_store_plans.proofs.lot_numbers.number_among.Goals as goal

pub loop-known-preserved : goal.loop-known-preserved
loop-known-preserved c =
    let numbered = c.args.numbered.now in
    let i = c.loop-known.known-index in
    let low : i < length numbered = omega (arith, c.loop-known-test.true) in
    let other : c.known-item.result.lot ≢ c.args.lot.now = search rules in
    All-more (λ known. known.lot ≢ c.args.lot.now) numbered i c.known-item.result low c.loop-known.invariant (subst (λ known. known.lot ≢ c.args.lot.now) c.known-item.is other)

pub returns-clause-none : goal.returns-clause-none
returns-clause-none c none = subst (All (λ known. known.lot ≢ c.args.lot.now)) (take_all c.loop-known.known-index c.args.numbered.now c.loop-known-test.false) c.loop-known.invariant
