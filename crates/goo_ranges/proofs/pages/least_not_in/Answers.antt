use Rattle.std.proofs.Common.{◌+◌, ◌∙◌, ◌<◌, drop, arith, sym, ap, subst}
use Rattle.std.proofs.lemmas.Bool.Decides.{nat_tests}
use Rattle.std.proofs.lemmas.List.{drop_all}
use Rattle.goo_types.specs.Piece.{IsRising}
use Rattle.goo_spec.specs.Lots.{fails}
use Rattle.goo_ranges.specs.Paging.{joined, begin_of}
use Rattle.goo_ranges.proofs.Leafing.{failing-here, failing-next, failing-past, failing-none}
use Rattle.goo_ranges.proofs.JoinedPages.{joined-drop}
use Rattle.goo_ranges_pieces.proofs.Rising.{rising-back, rising-weaken}
use Rattle.goo_ranges.proofs.pages.least_not_in.Goals as goal

pub loop-page-init : goal.loop-page-init
loop-page-init g c =
    let left = c.reaching-page-items.ensures in
    (left.rising, λ passes answers n above under. ap (fails passes) (left.same n above))

pub loop-page-preserved : goal.loop-page-preserved
loop-page-preserved g c =
    let all = joined c.args.pages.now in
    let items = c.reaching-page-items.result.now in
    let i = c.loop-page.page-index in
    let x = c.page-item.result in
    let rest = joined (drop (i + 1) items) in
    let inv = c.loop-page.invariant in
    let split = joined-drop items i x (omega arith) c.page-item.is in
    let rising = subst IsRising split inv.0 in (
      rising-weaken 0 _ rest (omega arith) (rising-back 0 x rest rising),
      λ passes answers. failing-next passes all x rest c.args.first c.args.last rising (rw split at inv.1 passes answers) (c.in_default.ensures passes (λ lot place answer e. answers lot place answer e.2)),
    )

pub returns-then-not-begins_by : goal.returns-then-not-begins_by
returns-then-not-begins_by g c = λ passes answers.
    let all = joined c.args.pages.now in
    let items = c.reaching-page-items.result.now in
    let i = c.loop-page.page-index in
    let x = c.page-item.result in
    let rest = joined (drop (i + 1) items) in
    let inv = c.loop-page.invariant in
    let split = joined-drop items i x (omega arith) c.page-item.is in
    let past : c.args.last < begin_of x = grind (arith, nat_tests) in
    failing-past passes all x rest c.args.first c.args.last (subst IsRising split inv.0) past (rw split at inv.1 passes answers)

pub returns-in-Some : goal.returns-in-Some
returns-in-Some g c = λ passes answers.
    let all = joined c.args.pages.now in
    let items = c.reaching-page-items.result.now in
    let i = c.loop-page.page-index in
    let x = c.page-item.result in
    let rest = joined (drop (i + 1) items) in
    let inv = c.loop-page.invariant in
    let split = joined-drop items i x (omega arith) c.page-item.is in
    failing-here passes all x rest c.args.first c.args.last c.in-Some.number c.requires.forward (subst IsRising split inv.0) (rw split at inv.1 passes answers) (sym c.in-Some.is ∙ c.least_not_between.ensures passes (λ lot place answer e. answers lot place answer e.2))

pub returns : goal.returns
returns g c = λ passes answers.
    let items = c.reaching-page-items.result.now in
    let none = drop_all c.loop-page.page-index items (omega arith) in
    failing-none passes (joined c.args.pages.now) (joined (drop c.loop-page.page-index items)) c.args.first c.args.last (ap joined none) (c.loop-page.invariant.1 passes answers)
