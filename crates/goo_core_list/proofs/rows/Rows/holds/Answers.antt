use Rattle.std.proofs.Common.{◌∙◌, ◌+◌, ◌++◌, take, drop, get_or, ap, sym, arith, take-append-drop}
use Rattle.std.specs.List.{list_any}
use Rattle.std.proofs.lemmas.List.{take_all}
use Rattle.goo_spec.specs.Lots.{is_held_by}
use Rattle.goo_core_pages.specs.Paging.{joined}
use Rattle.goo_ranges.proofs.JoinedPages.{joined-next, joined-append}
use Rattle.goo_core_list.specs.Rows.{KeptRows}
use Rattle.goo_core_list.proofs.Holding.{any_of_page, none_so_far}
use Rattle.goo_core_list.proofs.rows.Rows.holds.Goals as goal

pub returns-then-holds_one : goal.returns-then-holds_one
returns-then-holds_one c =
    let pages = c.pages-page-items.result.now in
    let i = c.loop-page.page-index in
    let page = c.page-item.result in
    let hit = ap (list_any (λ p. is_held_by c.args.account p.place)) (sym (c.rows.ensures ∙ c.page-item.is)) ∙ sym c.holds_one.ensures ∙ c.if-holds_one.true in
    sym (any_of_page (λ p. is_held_by c.args.account p.place) (joined (take i pages)) (get_or pages i page) (joined (drop (i + 1) pages)) c.self.inside.pieces.rows
    (ap (λ l. l ++ joined (drop (i + 1) pages)) (joined-next pages i page (omega arith)) ∙ sym (joined-append (take (i + 1) pages) (drop (i + 1) pages)) ∙ ap joined (take-append-drop (i + 1) pages) ∙ c.pages-page-items.ensures) hit)
    ∙ ap (λ (r : KeptRows). list_any (λ p. is_held_by c.args.account p.place) r.pieces) c.self.view_is

pub loop-page-preserved : goal.loop-page-preserved
loop-page-preserved c =
    let pages = c.pages-page-items.result.now in
    let i = c.loop-page.page-index in
    let page = c.page-item.result in
    let miss = ap (list_any (λ p. is_held_by c.args.account p.place)) (sym (c.rows.ensures ∙ c.page-item.is)) ∙ sym c.holds_one.ensures ∙ c.if-holds_one.false in
    none_so_far (λ p. is_held_by c.args.account p.place) (joined (take i pages)) (get_or pages i page) (joined (take (i + 1) pages)) (joined-next pages i page (omega arith)) c.loop-page.invariant miss

pub returns : goal.returns
returns c =
    sym c.loop-page.invariant
    ∙ ap (λ l. list_any (λ p. is_held_by c.args.account p.place) (joined l)) (take_all c.loop-page.page-index c.pages-page-items.result.now (omega arith))
    ∙ ap (list_any (λ p. is_held_by c.args.account p.place)) c.pages-page-items.ensures
    ∙ ap (λ (r : KeptRows). list_any (λ p. is_held_by c.args.account p.place) r.pieces) c.self.view_is
