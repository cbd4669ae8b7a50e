use Rattle.std.proofs.Common.{◌≡◌, ◌≤◌, ◌<◌, [], get_or, take, length, ap, sym, subst, ◌∙◌, arith}
use Rattle.std.specs.Vec.{vec_len}
use Rattle.std.proofs.lemmas.List.{get_or-set_same}
use Rattle.goo_ranges_rows.specs.Rows.{without}
use Rattle.goo_core_pages.specs.Paging.{PagedRows, joined, last_begin, Below, InOrder, room_in}
use Rattle.goo_core_pages.proofs.OrderLemmas.{order-page, order-without, without-home, without-none}
use Rattle.goo_core_pages.proofs.CutLemmas.{fit-at, fit-others, length-without, room-fewer}
use Rattle.goo_core_pages.proofs.paged.Pages.take_out.Goals as goal
use Rattle.goo_core_pages.proofs.paged.Pages.take_out.Goals.{After-lay_aside_empty}

pub returns-then-at-len-clause-rows : goal.returns-then-at-len-clause-rows
returns-then-at-len-clause-rows c =
    let xs = c.self.inside.pages.items in
    let below : Below c.args.first (joined (take c.count_before-at.result xs)) = rw (c.deref.ensures.value, c.get.ensures.value) at c.count_before-at.ensures.below in
    let rows : joined xs ≡ c.args.self.now.rows = ap (λ (v : PagedRows). v.rows) c.self.view_is in
    sym (ap (without c.args.first) (sym rows) ∙ without-none c.args.first xs c.count_before-at.result (omega arith) below ∙ rows)

pub take_out_at-requires-clause-order : goal.take_out_at-requires-clause-order
take_out_at-requires-clause-order c = order-page 0 c.self.inside.pages.items c.count_before-at.result (subst (λ (v : PagedRows). InOrder 0 v.rows) (sym c.self.view_is) c.requires)

pub lay_aside_empty-requires-clause-others : goal.lay_aside_empty-requires-clause-others
lay_aside_empty-requires-clause-others c = rw c.take_out_at.ensures.pages (fit-others c.self.inside.pages.items c.count_before-at.result _ c.self.invariant.0)

pub lay_aside_empty-requires-clause-less : goal.lay_aside_empty-requires-clause-less
lay_aside_empty-requires-clause-less c =
    let xs = c.self.inside.pages.items in
    let at = c.count_before-at.result in
    let lt : at < length xs = omega arith in
    let page = without c.args.first (get_or xs at []) in
    let same = get_or-set_same xs at page [] lt in
    let fewer = length-without c.args.first (get_or xs at []) in
    let limit = (fit-at xs at c.self.invariant.0 lt).1 in
    rw (c.take_out_at.ensures.pages, same) (omega (arith, fewer, limit))

made : (c : After-lay_aside_empty) → joined c.lay_aside_empty.new.pages.items ≡ without c.args.first c.args.self.now.rows
made c =
    let xs = c.self.inside.pages.items in
    let at = c.count_before-at.result in
    let lt : at < length xs = omega arith in
    let below : Below c.args.first (joined (take at xs)) = rw (c.deref.ensures.value, c.get.ensures.value) at c.count_before-at.ensures.below in
    let reaches : at < length xs → c.args.first ≤ last_begin 0 (get_or xs at []) = rw (c.deref.ensures.value, c.get.ensures.value) at c.count_before-at.ensures.reaches in
    let order = subst (λ (v : PagedRows). InOrder 0 v.rows) (sym c.self.view_is) c.requires in
    c.lay_aside_empty.ensures.rows
    ∙ ap joined c.take_out_at.ensures.pages
    ∙ sym (without-home 0 c.args.first xs at lt c.self.invariant.0 order below (reaches lt))
    ∙ ap (λ (v : PagedRows). without c.args.first v.rows) c.self.view_is

pub returns-clause-rows : goal.returns-clause-rows
returns-clause-rows c = made c

pub returns-clause-order : goal.returns-clause-order
returns-clause-order c = subst (InOrder 0) (sym (made c)) (order-without c.args.first 0 c.args.self.now.rows c.requires)

pub returns-clause-room : goal.returns-clause-room
returns-clause-room c =
    let xs = c.self.inside.pages.items in
    let at = c.count_before-at.result in
    let spare = vec_len c.self.inside.spare in
    let page = without c.args.first (get_or xs at []) in
    let was : room_in xs spare ≡ c.args.self.now.room = ap (λ (v : PagedRows). v.room) c.self.view_is in
    let lt : at < length xs = omega arith in
    let fewer = room-fewer xs at spare page lt (length-without c.args.first (get_or xs at [])) in
    let then = rw c.take_out_at.ensures.pages at c.lay_aside_empty.ensures.room in
    omega (arith, was, fewer, then)
