use Rattle.std.proofs.Common.{◌≡◌, ◌++◌, take, get_or, sym, ap, ◌∙◌, subst, arith}
use Rattle.std.proofs.lemmas.List.{take_all}
use Rattle.std.proofs.lemmas.List.Elements.{filter-append}
use Rattle.std.proofs.lemmas.Result.{IfOk-at_ok}
use Rattle.goo_types.specs.Piece.{IsRising}
use Rattle.goo_core_shelf.specs.Rows.{naming_account}
use Rattle.goo_core_pages.specs.Paging.{joined}
use Rattle.goo_ranges.proofs.JoinedPages.{joined-next}
use Rattle.goo_ranges_rows.proofs.Near.{filter-rising}
use Rattle.goo_core_list.proofs.rows.Rows.pieces_of.Goals as goal

pub loop-page-preserved : goal.loop-page-preserved
loop-page-preserved c =
    let pages = c.pages-page-items.result.now in
    let i = c.loop-page.page-index in
    let page = c.page-item.result in
    let added : c.add_naming.new.met.items ≡ c.loop-page.met.items ++ naming_account c.args.account c.rows.result.now = IfOk-at_ok _ c.in_ok-add_naming.was c.add_naming.ensures in
    let here : naming_account c.args.account c.rows.result.now ≡ naming_account c.args.account (get_or pages i page) = ap (naming_account c.args.account) (c.rows.ensures ∙ c.page-item.is) in
    added
    ∙ (λ k. c.loop-page.invariant k ++ here k)
    ∙ sym (filter-append _ (joined (take i pages)) (get_or pages i page))
    ∙ ap (naming_account c.args.account) (joined-next pages i page (omega arith))

pub returns-clause-rising : goal.returns-clause-rising
returns-clause-rising c =
    let met : c.loop-page.met.items ≡ naming_account c.args.account c.self.inside.pieces.rows = c.loop-page.invariant ∙ ap (λ l. naming_account c.args.account (joined l)) (take_all c.loop-page.page-index c.pages-page-items.result.now (omega arith)) ∙ ap (naming_account c.args.account) c.pages-page-items.ensures in
    subst IsRising (sym met) (filter-rising _ 0 c.self.inside.pieces.rows c.self.invariant)
