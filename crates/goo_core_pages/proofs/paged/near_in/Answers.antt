use Rattle.std.proofs.Common.{◌≡◌, ℕ, ◌+◌, ◌++◌, get_or, ap, subst, ◌∙◌, arith}
use Rattle.std.proofs.lemmas.List.{take_all}
use Rattle.goo_ranges_rows.specs.Rows.{meeting}
use Rattle.goo_core_pages.specs.Paging.{joined, BeginAfter}
use Rattle.goo_core_pages.proofs.NearLemmas.{rising-page, meeting-more, meeting-ended}
use Rattle.goo_core_pages.proofs.paged.near_in.Goals as goal
use Rattle.goo_core_pages.proofs.paged.near_in.Goals.{else-loop-page-test, then-loop-page-test+then-begins_after}

pub near-requires : goal.near-requires
near-requires c = rw (c.rows.ensures, c.page-item.is) (rising-page c.args.pages.now c.loop-page.page-index c.page-item.result c.requires (omega arith))

pub loop-page-preserved : goal.loop-page-preserved
loop-page-preserved c =
    let more = meeting-more c.args.range c.args.pages.now c.loop-page.page-index c.page-item.result (omega arith) in
    let added = rw c.in_ok-extend_from_slice.was at c.extend_from_slice.ensures.items in
    let here : c.near.result.now ≡ meeting c.args.range (get_or c.args.pages.now c.loop-page.page-index c.page-item.result) = c.near.ensures ∙ ap (meeting c.args.range) (c.rows.ensures ∙ c.page-item.is) in
    added ∙ (λ i. c.loop-page.invariant i ++ here i) ∙ more

pub returns : goal.returns
returns c =
    let xs = c.args.pages.now in
    elim c.loop-page-test.branch [
      | else-loop-page-test w ↦ c.loop-page.invariant ∙ ap (λ l. meeting c.args.range (joined l)) (take_all c.loop-page.page-index xs (omega arith))
      | then-loop-page-test+then-begins_after w ↦
          let last : c.get-last.result ≡ c.args.range.last = c.get-last.ensures.value ∙ c.last.ensures.value in
          let said : BeginAfter (c.get-last.result + 1) w.page-item.result = w.begins_after.ensures.0 w.if-begins_after.true in
          let here : BeginAfter (c.get-last.result + 1) (get_or xs c.loop-page.page-index w.page-item.result) = subst (BeginAfter (c.get-last.result + 1)) w.page-item.is said in
          let after : BeginAfter (c.args.range.last + 1) (get_or xs c.loop-page.page-index w.page-item.result) = subst (λ (n : ℕ). BeginAfter (n + 1) (get_or xs c.loop-page.page-index w.page-item.result)) last here in
          c.loop-page.invariant ∙ meeting-ended c.args.range xs c.loop-page.page-index w.page-item.result c.requires w.loop-page-test.true after
    ]
