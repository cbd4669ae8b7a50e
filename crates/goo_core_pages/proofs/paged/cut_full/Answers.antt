use Rattle.std.proofs.Common.{◌≡◌, ◌<◌, [], get_or, length, ap, sym, ◌∙◌, arith}
use Rattle.std.proofs.lemmas.Bool.Decides.{nat_tests}
use Rattle.std.proofs.lemmas.List.{get_or_read}
use Rattle.goo_core_pages.specs.Paging.{joined}
use Rattle.goo_core_pages.proofs.CutLemmas.{fit-all, fit-cut, joined-cut, length-cut, beyond-cut}
use Rattle.goo_core_pages.proofs.paged.cut_full.Goals as goal
use Rattle.goo_core_pages.proofs.paged.cut_full.Goals.{After-cut}

full : (c : After-cut) → length (get_or c.args.pages.now.items c.args.at []) ≡ 64
full c =
    let read = get_or_read c.args.pages.now.items c.args.at c.index.result.now c.requires.bound c.index.ensures [] in
    let here : length c.index.result.now ≡ 64 = grind (arith, nat_tests) in
    sym (ap length read) ∙ here

pub returns-then-is_full-clause-fit : goal.returns-then-is_full-clause-fit
returns-then-is_full-clause-fit c = rw c.cut.ensures.pages (fit-cut c.args.pages.now.items c.args.at c.requires.bound c.requires.others (full c))

pub returns-then-is_full-clause-rows : goal.returns-then-is_full-clause-rows
returns-then-is_full-clause-rows c = ap joined c.cut.ensures.pages ∙ joined-cut c.args.at c.args.pages.now.items

pub returns-then-is_full-clause-paid : goal.returns-then-is_full-clause-paid
returns-then-is_full-clause-paid c =
    let less = beyond-cut c.args.pages.now.items c.args.at c.requires.bound (full c) in
    let one = c.cut.ensures.spare in
    rw c.cut.ensures.pages (omega (arith, less, one))

pub returns-then-is_full-clause-count : goal.returns-then-is_full-clause-count
returns-then-is_full-clause-count c =
    let more = ap length c.cut.ensures.pages ∙ length-cut c.args.at c.args.pages.now.items c.requires.bound in
    let one = c.cut.ensures.spare in
    omega (arith, more, one)

pub returns-else-is_full-clause-fit : goal.returns-else-is_full-clause-fit
returns-else-is_full-clause-fit c =
    let read = get_or_read c.args.pages.now.items c.args.at c.index.result.now c.requires.bound c.index.ensures [] in
    let size = ap length read in
    let limit = c.is_full.ensures.limit in
    let here : length c.index.result.now < 64 = grind (arith, nat_tests) in
    fit-all c.args.pages.now.items c.args.at c.requires.bound c.requires.others c.requires.some (omega (arith, size, here))
