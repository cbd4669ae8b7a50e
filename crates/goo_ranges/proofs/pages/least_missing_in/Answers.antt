use Rattle.std.proofs.Common.{◌+◌, ◌∙◌, ◌≤◌, ◌++◌, drop, arith, sym, ap, subst}
use Rattle.std.proofs.lemmas.Bool.Decides.{nat_tests}
use Rattle.std.proofs.lemmas.List.{drop_all}
use Rattle.goo_spec.proofs.Pieces.{one_code}
use Rattle.goo_ranges_pieces.specs.Walk.{end_of}
use Rattle.goo_ranges_pieces.proofs.Find.{least-of_span}
use Rattle.goo_ranges.proofs.Leafing.{known-more, missing-none, missing-here, missing-last}
use Rattle.goo_ranges.specs.Paging.{joined, IsLeft}
use Rattle.goo_ranges.proofs.JoinedPages.{joined-drop}
use Rattle.goo_ranges.proofs.Paging.{left-next}
use Rattle.goo_ranges.proofs.pages.least_missing_in.Goals as goal

pub least_missing_between-requires-clause-one_code : goal.least_missing_between-requires-clause-one_code
least_missing_between-requires-clause-one_code c =
    one_code c.args.first c.args.last c.loop-page.from c.loop-page.invariant.low c.loop-page.invariant.high c.requires.one_code ∙ c.requires.one_code

pub loop-page-init : goal.loop-page-init
loop-page-init c = record {
  left = c.reaching-page-items.ensures;
  low = omega arith;
  high = omega arith;
  present = λ m above below. absurd (omega arith);
}

pub loop-page-preserved : goal.loop-page-preserved
loop-page-preserved c =
    let all = joined c.args.pages.now in
    let items = c.reaching-page-items.result.now in
    let i = c.loop-page.page-index in
    let x = c.page-item.result in
    let rest = joined (drop (i + 1) items) in
    let from = c.loop-page.from in
    let next = c.in-Some.next in
    let inv = c.loop-page.invariant in
    let left : IsLeft all (x ++ rest) from = subst (λ l. IsLeft all l from) (joined-drop items i x (omega arith) c.page-item.is) inv.left in
    let least = least-of_span _ from _ next (omega arith) (sym c.least_missing_between.ensures ∙ c.in-Some.is) in
    let past : end_of 0 x ≤ next = grind (arith, nat_tests) in
    record {
      left = left-next all x rest from next left least.above past;
      low = omega (arith, least.above);
      high = omega (arith, least.below);
      present = known-more all x rest c.args.first from next left inv.present least.least;
    }

pub returns-in_default : goal.returns-in_default
returns-in_default c =
    let all = joined c.args.pages.now in
    let items = c.reaching-page-items.result.now in
    let i = c.loop-page.page-index in
    let x = c.page-item.result in
    let rest = joined (drop (i + 1) items) in
    let from = c.loop-page.from in
    let inv = c.loop-page.invariant in
    let left : IsLeft all (x ++ rest) from = subst (λ l. IsLeft all l from) (joined-drop items i x (omega arith) c.page-item.is) inv.left in
    missing-none all x rest c.args.first from c.args.last left inv.present (c.in_default.ensures)

pub returns-then-not-ends_before : goal.returns-then-not-ends_before
returns-then-not-ends_before c =
    let all = joined c.args.pages.now in
    let items = c.reaching-page-items.result.now in
    let i = c.loop-page.page-index in
    let x = c.page-item.result in
    let rest = joined (drop (i + 1) items) in
    let from = c.loop-page.from in
    let next = c.in-Some.next in
    let inv = c.loop-page.invariant in
    let left : IsLeft all (x ++ rest) from = subst (λ l. IsLeft all l from) (joined-drop items i x (omega arith) c.page-item.is) inv.left in
    let within : next + 1 ≤ end_of 0 x = grind (arith, nat_tests) in
    missing-here all x rest c.args.first from c.args.last next inv.low inv.high left inv.present (sym c.in-Some.is ∙ c.least_missing_between.ensures) within

pub returns : goal.returns
returns c =
    let items = c.reaching-page-items.result.now in
    let none = drop_all c.loop-page.page-index items (omega arith) in
    let inv = c.loop-page.invariant in
    missing-last (joined c.args.pages.now) (joined (drop c.loop-page.page-index items)) c.args.first c.loop-page.from c.args.last inv.low inv.high (ap joined none) inv.left inv.present
