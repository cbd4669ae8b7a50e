use Rattle.std.proofs.Common.{◌≡◌, ◌+◌, [], get_or, set, take, drop, ap, ◌∙◌}
use Rattle.std.specs.List.{insert}
use Rattle.std.proofs.lemmas.List.{get_or_read}
use Rattle.goo_core_pages.proofs.CutLemmas.{cut-inserted}
use Rattle.goo_core_pages.proofs.paged.cut.Goals as goal

pub returns-clause-pages : goal.returns-clause-pages
returns-clause-pages c =
    let xs = c.args.pages.now.items in
    let at = c.args.at in
    let page = c.index_mut-page.result.now in
    let read : page ≡ get_or xs at [] = get_or_read xs at page c.requires.bound c.index_mut-page.ensures.value [] in
    let put = rw (c.unwrap.ensures, c.halve.ensures.lower, c.halve.ensures.upper) at c.insert-put.ensures.items in
    put ∙ ap (λ p. insert (set xs at (take 32 p)) (at + 1) (drop 32 p)) read ∙ cut-inserted xs at c.requires.bound
