use Rattle.std.proofs.Common.{◌≡◌, ◌≤◌, [], get_or, length, ap, sym, ◌∙◌, arith}
use Rattle.std.proofs.lemmas.Bool.Decides.{nat_tests}
use Rattle.std.proofs.lemmas.List.{get_or_read}
use Rattle.goo_core_pages.specs.Paging.{joined}
use Rattle.goo_core_pages.proofs.CutLemmas.{fit-all, joined-laid, room-laid}
use Rattle.goo_core_pages.proofs.paged.lay_aside_empty.Goals as goal
use Rattle.goo_core_pages.proofs.paged.lay_aside_empty.Goals.{After-lay_aside}

none : (c : After-lay_aside) → length (get_or c.args.pages.now.items c.args.at []) ≡ 0
none c =
    let read = get_or_read c.args.pages.now.items c.args.at c.index.result.now c.requires.bound c.index.ensures [] in
    let here : length c.index.result.now ≡ 0 = grind (arith, nat_tests) in
    sym (ap length read) ∙ here

pub returns-then-is_empty-clause-rows : goal.returns-then-is_empty-clause-rows
returns-then-is_empty-clause-rows c = ap joined c.lay_aside.ensures.pages ∙ joined-laid c.args.pages.now.items c.args.at c.requires.bound (none c)

pub returns-then-is_empty-clause-room : goal.returns-then-is_empty-clause-room
returns-then-is_empty-clause-room c = rw (c.lay_aside.ensures.pages, c.lay_aside.ensures.spare) (room-laid c.args.pages.now.items c.args.at _ c.requires.bound (none c))

pub returns-else-is_empty-clause-fit : goal.returns-else-is_empty-clause-fit
returns-else-is_empty-clause-fit c =
    let read = get_or_read c.args.pages.now.items c.args.at c.index.result.now c.requires.bound c.index.ensures [] in
    let size = ap length read in
    let here : 1 ≤ length c.index.result.now = grind (arith, nat_tests) in
    fit-all c.args.pages.now.items c.args.at c.requires.bound c.requires.others (omega (arith, size, here)) c.requires.less
