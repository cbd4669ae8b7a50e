use Rattle.std.proofs.Common.{◌++◌, ◌∙◌, ap, arith}
use Rattle.std.proofs.lemmas.List.{take_all}
use Rattle.goo_ranges.specs.Paging.{joined}
use Rattle.goo_ranges.proofs.JoinedPages.{joined-page}
use Rattle.goo_ranges.proofs.pages.joined_page.Goals as goal

pub loop-page-preserved : goal.loop-page-preserved
loop-page-preserved c =
    let xs = c.args.pages.now in
    let i = c.loop-page.page-index in
    let more = joined-page xs i c.page-item.result (omega arith) c.page-item.is in
    let added = rw c.in_ok-extend_from_slice.was at c.extend_from_slice.ensures.items in
    added ∙ (λ j. c.loop-page.invariant j ++ c.pieces.ensures.value j) ∙ more

pub of_rows-requires : goal.of_rows-requires
of_rows-requires c =
    let all = c.loop-page.invariant ∙ ap joined (take_all c.loop-page.page-index c.args.pages.now (omega arith)) in
    rw all c.requires

pub returns : goal.returns
returns c =
    c.of_rows.ensures ∙ c.loop-page.invariant ∙ ap joined (take_all c.loop-page.page-index c.args.pages.now (omega arith))
