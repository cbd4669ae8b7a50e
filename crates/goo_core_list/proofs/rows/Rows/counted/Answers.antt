use Rattle.std.proofs.Common.{◌≡◌, ℕ, ◌+◌, ◌<◌, ◌≤◌, ◌^◌, List, length, take, get_or, sym, ap, ◌∙◌, subst, arith}
use Rattle.std.specs.Prelude.{sum_by}
use Rattle.std.proofs.lemmas.List.{take_all}
use Rattle.std.proofs.lemmas.List.Sums.{sum_by-append}
use Rattle.goo_types.specs.declared.piece.Piece.{Piece}
use Rattle.goo_types.specs.Piece.{IsRising}
use Rattle.goo_ranges_pieces.proofs.Rising.{rising-front}
use Rattle.goo_core_pages.specs.Paging.{joined}
use Rattle.goo_ranges.proofs.JoinedPages.{joined-next, joined-split}
use Rattle.goo_core_pages.proofs.NearLemmas.{rising-page}
use Rattle.goo_ranges_rows.specs.Certificates.{issued_in, corrected_in}
use Rattle.goo_ranges_rows.proofs.CertificateLemmas.{own-block, issued-rows, corrected-rows, corrected-few}
use Rattle.goo_core_list.proofs.rows.Rows.counted.Goals as goal

pub counted_in_rows-counted-requires : goal.counted_in_rows-counted-requires
counted_in_rows-counted-requires c =
    let pages = c.pages-page-items.result.now in
    let all : IsRising (joined pages) = rw c.pages-page-items.ensures c.self.invariant in
    rw (c.rows.ensures, c.page-item.is) (rising-page pages c.loop-page.page-index c.page-item.result all (omega arith))

-- a count of the pages up to one more
one_more : (count : Piece → ℕ) (pages : List (List Piece)) (i : ℕ) (page : List Piece) (sum here : ℕ) → i < length pages → sum ≡ sum_by count (joined (take i pages)) → here ≡ sum_by count (get_or pages i page)
    → sum + here ≡ sum_by count (joined (take (i + 1) pages))
one_more count pages i page sum here there before is =
    (λ k. before k + is k)
    ∙ sym (sum_by-append count (joined (take i pages)) (get_or pages i page))
    ∙ ap (sum_by count) (joined-next pages i page there)

-- the certificates of some pages are fewer than the registry's serials
bounded : (own : ℕ) (device : List ℕ) (pages : List (List Piece)) (i : ℕ) → own ≤ 99 → IsRising (joined pages) → sum_by (issued_in own device) (joined (take i pages)) < 2 ^ 64
bounded own device pages i code all =
    let front = rising-front 0 (joined (take i pages)) _ (subst IsRising (sym (joined-split i pages)) all) in
    let limit = own-block own device 0 (joined (take i pages)) front in
    omega (arith, limit, code)

pub overflow_add-issued : goal.overflow_add-issued
overflow_add-issued c =
    let count = issued_in c.args.own c.args.device.now in
    let pages = c.pages-page-items.result.now in
    let i = c.loop-page.page-index in
    let more = one_more count pages i c.page-item.result _ _ (omega arith) c.loop-page.invariant.0 (c.counted_in_rows-counted.ensures.issued ∙ ap (sum_by count) (c.rows.ensures ∙ c.page-item.is)) in
    let code = c.get-code.ensures.limit in
    let small = bounded c.args.own c.args.device.now pages (i + 1) (omega (arith, code)) (rw c.pages-page-items.ensures c.self.invariant) in
    omega (arith, more, small)

pub overflow_add-corrected : goal.overflow_add-corrected
overflow_add-corrected c =
    let cs = c.args.corrections.now in
    let count = corrected_in c.args.own c.args.device.now cs in
    let pages = c.pages-page-items.result.now in
    let i = c.loop-page.page-index in
    let more = one_more count pages i c.page-item.result _ _ (omega arith) c.loop-page.invariant.1 (c.counted_in_rows-counted.ensures.corrected ∙ ap (sum_by count) (c.rows.ensures ∙ c.page-item.is)) in
    let few = corrected-few c.args.own c.args.device.now cs (joined (take (i + 1) pages)) in
    let code = c.get-code.ensures.limit in
    let small = bounded c.args.own c.args.device.now pages (i + 1) (omega (arith, code)) (rw c.pages-page-items.ensures c.self.invariant) in
    omega (arith, more, few, small)

pub loop-page-preserved : goal.loop-page-preserved
loop-page-preserved c =
    let cs = c.args.corrections.now in
    let issued = issued_in c.args.own c.args.device.now in
    let corrected = corrected_in c.args.own c.args.device.now cs in
    let pages = c.pages-page-items.result.now in
    let page = c.rows.ensures ∙ c.page-item.is in (
      one_more issued pages c.loop-page.page-index c.page-item.result _ _ (omega arith) c.loop-page.invariant.0 (c.counted_in_rows-counted.ensures.issued ∙ ap (sum_by issued) page),
      one_more corrected pages c.loop-page.page-index c.page-item.result _ _ (omega arith) c.loop-page.invariant.1 (c.counted_in_rows-counted.ensures.corrected ∙ ap (sum_by corrected) page),
    )

pub returns-clause-issued : goal.returns-clause-issued
returns-clause-issued c =
    let pages = c.pages-page-items.result.now in
    c.loop-page.invariant.0
    ∙ ap (λ l. sum_by (issued_in c.args.own c.args.device.now) (joined l)) (take_all c.loop-page.page-index pages (omega arith))
    ∙ ap (sum_by (issued_in c.args.own c.args.device.now)) c.pages-page-items.ensures
    ∙ rw (← c.self.view_is) (sym (issued-rows c.args.own c.args.device.now 0 c.self.inside.pieces.rows c.self.invariant))

pub returns-clause-corrected : goal.returns-clause-corrected
returns-clause-corrected c =
    let pages = c.pages-page-items.result.now in
    let cs = c.args.corrections.now in
    c.loop-page.invariant.1
    ∙ ap (λ l. sum_by (corrected_in c.args.own c.args.device.now cs) (joined l)) (take_all c.loop-page.page-index pages (omega arith))
    ∙ ap (sum_by (corrected_in c.args.own c.args.device.now cs)) c.pages-page-items.ensures
    ∙ rw (← c.self.view_is) (sym (corrected-rows c.args.own c.args.device.now cs 0 c.self.inside.pieces.rows c.self.invariant))
