use Rattle.std.proofs.Common.{◌≡◌, ◌<◌, [], length, get_or, arith, sym, ◌∙◌}
use Rattle.std.proofs.lemmas.List.{get_or_read}
use Rattle.goo_ranges.proofs.Paging.{at-page, at-none}
use Rattle.goo_ranges.proofs.pages.at_in.Goals as goal

pub returns-then-index-pages : goal.returns-then-index-pages
returns-then-index-pages c =
    let below = rw c.get.ensures.value at c.count_before-index.ensures.below in
    sym (at-none c.args.pages.now c.count_before-index.result c.args.number c.requires.rising (omega arith) below)

pub returns : goal.returns
returns c =
    let xs = c.args.pages.now in
    let i = c.count_before-index.result in
    let page = c.index-pages-index.result in
    let bound = c.count_before-index.ensures.bound in
    let lt : i < length xs = omega arith in
    let below = rw c.get.ensures.value at c.count_before-index.ensures.below in
    let reaches = rw c.get.ensures.value at c.count_before-index.ensures.reaches in
    let read : page ≡ get_or xs i [] = get_or_read xs i page lt c.index-pages-index.is [] in
    c.at.ensures ∙ sym (at-page xs i c.args.number page c.requires.rising lt read below (reaches lt))
