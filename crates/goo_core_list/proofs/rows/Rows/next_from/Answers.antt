use Rattle.std.proofs.Common.{◌≡◌, ◌∙◌, ◌+◌, ◌++◌, Some, take, drop, get_or, ap, sym, subst, arith, take-append-drop}
use Rattle.goo_core_pages.specs.Paging.{joined}
use Rattle.goo_spec_runs.specs.NextRun.{first_of}
use Rattle.goo_ranges.proofs.JoinedPages.{joined-next, joined-append}
use Rattle.goo_core_list.specs.Rows.{KeptRows}
use Rattle.goo_core_shelf.specs.Sought.{is_sought}
use Rattle.goo_core_list.proofs.NextLemmas.{next_from, next_more, next_none, next_ahead}
use Rattle.goo_core_list.proofs.rows.Rows.next_from.Goals as goal

pub returns-in-Some-clause-found : goal.returns-in-Some-clause-found
returns-in-Some-clause-found c =
    let pages = c.pages-page-items.result.now in
    let i = c.loop-page.page-index in
    let page = c.page-item.result in
    let hit = sym c.in-Some.is ∙ c.first_sought.ensures ∙ ap (λ l. first_of (next_from (is_sought c.args.sought.now) c.args.from l)) (c.rows.ensures ∙ c.page-item.is) in
    let all = next_more (is_sought c.args.sought.now) c.args.from (joined (take i pages)) (get_or pages i page) c.self.inside.pieces.rows (joined (drop (i + 1) pages)) c.loop-page.invariant
    (ap (λ l. l ++ joined (drop (i + 1) pages)) (joined-next pages i page (omega arith)) ∙ sym (joined-append (take (i + 1) pages) (drop (i + 1) pages)) ∙ ap joined (take-append-drop (i + 1) pages) ∙ c.pages-page-items.ensures) c.in-Some.row hit in
    subst (λ (r : KeptRows). Some c.in-Some.row ≡ first_of (next_from (is_sought c.args.sought.now) c.args.from r.pieces)) c.self.view_is all

pub returns-in-Some-clause-ahead : goal.returns-in-Some-clause-ahead
returns-in-Some-clause-ahead c =
    let pages = c.pages-page-items.result.now in
    let i = c.loop-page.page-index in
    let page = c.page-item.result in
    let hit = sym c.in-Some.is ∙ c.first_sought.ensures ∙ ap (λ l. first_of (next_from (is_sought c.args.sought.now) c.args.from l)) (c.rows.ensures ∙ c.page-item.is) in
    next_ahead (is_sought c.args.sought.now) c.args.from c.self.inside.pieces.rows c.in-Some.row c.self.invariant
    (next_more (is_sought c.args.sought.now) c.args.from (joined (take i pages)) (get_or pages i page) c.self.inside.pieces.rows (joined (drop (i + 1) pages)) c.loop-page.invariant
    (ap (λ l. l ++ joined (drop (i + 1) pages)) (joined-next pages i page (omega arith)) ∙ sym (joined-append (take (i + 1) pages) (drop (i + 1) pages)) ∙ ap joined (take-append-drop (i + 1) pages) ∙ c.pages-page-items.ensures) c.in-Some.row hit)

pub loop-page-preserved : goal.loop-page-preserved
loop-page-preserved c =
    let pages = c.pages-page-items.result.now in
    let i = c.loop-page.page-index in
    let page = c.page-item.result in
    let miss = sym c.in-None.is ∙ c.first_sought.ensures ∙ ap (λ l. first_of (next_from (is_sought c.args.sought.now) c.args.from l)) (c.rows.ensures ∙ c.page-item.is) in
    next_none (is_sought c.args.sought.now) c.args.from (joined (take i pages)) (get_or pages i page) (joined (take (i + 1) pages)) c.loop-page.invariant (joined-next pages i page (omega arith)) miss
