use Rattle.std.proofs.Common.{◌≡◌, suc, ◌+◌, ◌<◌, ◌≤◌, false, true, drop, arith, sym, refl, ap, ◌∙◌}
use Rattle.std.specs.Prelude.{not, max}
use Rattle.std.proofs.lemmas.Bool.Decides.{nat_tests}
use Rattle.std.proofs.lemmas.List.{drop_all}
use Rattle.goo_spec.specs.Lots.{fails}
use Rattle.goo_types.specs.Piece.{at_of}
use Rattle.goo_ranges_pieces.proofs.Find.{find-span-none, find-span-some}
use Rattle.goo_ranges_pieces.proofs.Rest.{drop-piece, known-past, known-gap, known-end, rest-next, rest-inside, later-of, starts-self, starts-rising}
use Rattle.goo_ranges.proofs.page.Page.least_not_between.Goals as goal

pub loop-piece-init : goal.loop-piece-init
loop-piece-init g c = (c.get.result, c.reaching-piece-items.ensures, omega arith, rw c.get.ensures.value (starts-self c.args.first c.reaching-piece-items.result.now), λ passes answers n above below. absurd (omega arith))

pub loop-piece-preserved : goal.loop-piece-preserved
loop-piece-preserved g c =
    let all = c.args.self.now in
    let items = c.reaching-piece-items.result.now in
    let i = c.loop-piece.piece-index in
    let p = c.piece-item.result in
    let inv = c.loop-piece.invariant in
    let split = drop-piece items i p (omega arith) c.piece-item.is in
    let rest = rw split at inv.1 in
    let reached : inv.0 ≤ p.last = rest.reaches in (
      p.last + 1,
      rest-next all (drop (i + 1) items) p inv.0 rest,
      omega (arith, inv.2),
      starts-rising c.args.first (p.last + 1) (drop (i + 1) items) rest.rising.2,
      λ passes answers.
          let passed : true ≡ passes p.lot p.place = answers p.lot p.place true c.if-not-test.ensures in
          known-past (λ o. fails passes o ≡ false) all (drop (i + 1) items) p c.args.first inv.0 rest refl (ap not (sym passed)) (inv.4 passes answers),
    )

pub returns-then-lt : goal.returns-then-lt
returns-then-lt g c = λ passes answers.
    let all = c.args.self.now in
    let items = c.reaching-piece-items.result.now in
    let i = c.loop-piece.piece-index in
    let p = c.piece-item.result in
    let inv = c.loop-piece.invariant in
    let split = drop-piece items i p (omega arith) c.piece-item.is in
    let rest = rw split at inv.1 in
    let beyond : c.args.last < p.first = grind (arith, nat_tests, c.if-lt.ensures) in
    let none = known-gap (λ o. fails passes o ≡ false) all (drop (i + 1) items) p c.args.first inv.0 rest refl (inv.4 passes answers) in
    sym (find-span-none (λ n. fails passes (at_of all n)) c.args.first (suc c.args.last) (λ m above below. none m above (omega arith)))

pub returns-then-not-test : goal.returns-then-not-test
returns-then-not-test g c = λ passes answers.
    let all = c.args.self.now in
    let items = c.reaching-piece-items.result.now in
    let i = c.loop-piece.piece-index in
    let p = c.piece-item.result in
    let low = c.args.first in
    let inv = c.loop-piece.invariant in
    let split = drop-piece items i p (omega arith) c.piece-item.is in
    let rest = rw split at inv.1 in
    let within : p.first ≤ c.args.last = grind (arith, nat_tests, c.if-lt.ensures) in
    let later : c.max.result ≡ max low p.first = c.max.ensures ∙ later-of low p.first in
    let failed : false ≡ passes p.lot p.place = answers p.lot p.place false c.if-not-test.ensures in
    let starts : inv.0 ≤ max low p.first = rw split at inv.3 in
    let reached : inv.0 ≤ p.last = rest.reaches in
    let above : low ≤ inv.0 = inv.2 in
    let here = rest-inside all (drop (i + 1) items) p inv.0 rest (max low p.first) starts (omega arith) (omega arith) in
    let before = known-gap (λ o. fails passes o ≡ false) all (drop (i + 1) items) p low inv.0 rest refl (inv.4 passes answers) in
    rw later (sym (find-span-some (λ n. fails passes (at_of all n)) low (max low p.first) (suc c.args.last) (omega arith) (omega arith)
    (λ m from below. before m from (omega arith)) (rw here (ap not (sym failed)))))

pub returns : goal.returns
returns g c = λ passes answers.
    let all = c.args.self.now in
    let items = c.reaching-piece-items.result.now in
    let i = c.loop-piece.piece-index in
    let inv = c.loop-piece.invariant in
    let end = drop_all i items (omega arith) in
    let rest = rw end at inv.1 in
    let none = known-end (λ o. fails passes o ≡ false) all c.args.first inv.0 rest refl (inv.4 passes answers) in
    sym (find-span-none (λ n. fails passes (at_of all n)) c.args.first (suc c.args.last) (λ m above below. none m above))
