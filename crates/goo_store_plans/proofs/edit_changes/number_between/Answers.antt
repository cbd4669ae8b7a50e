use Rattle.std.proofs.Common.{◌≡◌, ◌≢◌, ◌<◌, ◌^◌, length, arith, rules}
use Rattle.goo_store_plans.proofs.Taking.{none_more}
use Rattle.goo_store_plans.proofs.edit_changes.number_between.Goals.{else-is-via-then-is+else-known, else-is-via-else-is}
use Rattle.goo_store_plans.proofs.edit_changes.number_between.Goals as goal

pub loop-place-preserved : goal.loop-place-preserved
loop-place-preserved c =
    let found = c.args.found.now in
    let i = c.loop-place.place in
    let x = c.index-found-place.result in
    let low : i < length found = omega (arith, c.loop-place-test.true, c.requires) in
    let not : ¬ ((x.lot ≡ c.args.lot.now) × (x.number < 2 ^ 63)) = elim c.else-is.branch [
      | else-is-via-then-is+else-known w ↦ λ has. omega (arith, has.1, w.if-known.false)
      | else-is-via-else-is w ↦ λ has. let other : x.lot ≢ c.args.lot.now = search rules in other has.0
    ] in
    none_more found c.args.from i c.args.lot.now x low c.index-found-place.is not c.loop-place.invariant
