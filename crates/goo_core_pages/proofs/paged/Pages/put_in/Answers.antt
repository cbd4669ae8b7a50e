use Rattle.std.proofs.Common.{◌≡◌, [], get_or, ap, sym, subst, ◌∙◌, arith}
use Rattle.std.specs.Vec.{vec_len}
use Rattle.std.proofs.lemmas.List.{get_or-set_same}
use Rattle.goo_ranges_rows.specs.Rows.{with}
use Rattle.goo_core_pages.specs.Paging.{PagedRows, joined, InOrder, IsHome, room_in}
use Rattle.goo_core_pages.proofs.OrderLemmas.{order-page, order-with, with-home}
use Rattle.goo_core_pages.proofs.CutLemmas.{fit-at, fit-others, length-with, room-more}
use Rattle.goo_core_pages.proofs.paged.Pages.put_in.Goals as goal
use Rattle.goo_core_pages.proofs.paged.Pages.put_in.Goals.{After-cut_full}

pub put_in_at-requires-clause-order : goal.put_in_at-requires-clause-order
put_in_at-requires-clause-order c = order-page 0 c.self.inside.pages.items c.home-at.result (subst (λ (v : PagedRows). InOrder 0 v.rows) (sym c.self.view_is) c.requires.order)

pub put_in_at-requires-clause-room : goal.put_in_at-requires-clause-room
put_in_at-requires-clause-room c =
    let xs = c.self.inside.pages.items in
    let home : IsHome c.args.row.first xs c.home-at.result = rw c.deref.ensures.value at c.home-at.ensures in
    (fit-at xs c.home-at.result c.self.invariant.0 home.bound).1

pub cut_full-requires-clause-others : goal.cut_full-requires-clause-others
cut_full-requires-clause-others c = rw c.put_in_at.ensures.pages (fit-others c.self.inside.pages.items c.home-at.result _ c.self.invariant.0)

pub cut_full-requires-clause-some : goal.cut_full-requires-clause-some
cut_full-requires-clause-some c =
    let xs = c.self.inside.pages.items in
    let at = c.home-at.result in
    let home : IsHome c.args.row.first xs at = rw c.deref.ensures.value at c.home-at.ensures in
    let same = get_or-set_same xs at (with c.args.row (get_or xs at [])) [] home.bound in
    let more = length-with c.args.row (get_or xs at []) in
    rw (c.put_in_at.ensures.pages, same) (omega (arith, more))

made : (c : After-cut_full) → joined c.cut_full.new.pages.items ≡ with c.args.row c.args.self.now.rows
made c =
    let xs = c.self.inside.pages.items in
    let home : IsHome c.args.row.first xs c.home-at.result = rw c.deref.ensures.value at c.home-at.ensures in
    c.cut_full.ensures.rows
    ∙ ap joined c.put_in_at.ensures.pages
    ∙ sym (with-home c.args.row xs c.home-at.result home.bound home.front home.ends)
    ∙ ap (λ (v : PagedRows). with c.args.row v.rows) c.self.view_is

pub returns-clause-rows : goal.returns-clause-rows
returns-clause-rows c = made c

pub returns-clause-order : goal.returns-clause-order
returns-clause-order c = subst (InOrder 0) (sym (made c)) (order-with c.args.row 0 c.args.self.now.rows (omega arith) c.requires.order)

pub returns-clause-room : goal.returns-clause-room
returns-clause-room c =
    let xs = c.self.inside.pages.items in
    let at = c.home-at.result in
    let home : IsHome c.args.row.first xs at = rw c.deref.ensures.value at c.home-at.ensures in
    let spare = vec_len c.self.inside.spare in
    let page = with c.args.row (get_or xs at []) in
    let was : room_in xs spare ≡ c.args.self.now.room = ap (λ (v : PagedRows). v.room) c.self.view_is in
    let one = length-with c.args.row (get_or xs at []) in
    let paid = rw c.put_in_at.ensures.pages at c.cut_full.ensures.paid in
    let more = room-more xs at page c.cut_full.new.pages.items spare (vec_len c.cut_full.new.spare) home.bound (omega (arith, one)) c.cut_full.ensures.many paid c.cut_full.ensures.spare in
    omega (arith, was, more)
