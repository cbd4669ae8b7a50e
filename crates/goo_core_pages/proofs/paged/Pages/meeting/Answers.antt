use Rattle.std.proofs.Common.{◌≡◌, ◌-◌, ◌≤◌, length, take, drop, refl, ap, sym, subst, ◌∙◌}
use Rattle.std.proofs.lemmas.List.{take_rest}
use Rattle.goo_types.specs.Piece.{IsRising}
use Rattle.goo_ranges_rows.specs.Rows.{meeting}
use Rattle.goo_core_pages.specs.Paging.{PagedRows, joined, Below}
use Rattle.goo_core_pages.proofs.OrderLemmas.{order-rising}
use Rattle.goo_core_pages.proofs.NearLemmas.{rising-from, meeting-begun}
use Rattle.goo_core_pages.proofs.paged.Pages.meeting.Goals as goal

pub count_before-requires-clause-order : goal.count_before-requires-clause-order
count_before-requires-clause-order c = rw c.deref.ensures.value (order-rising 0 _ (subst (λ (v : PagedRows). IsRising v.rows) (sym c.self.view_is) c.requires))

pub near_in-requires : goal.near_in-requires
near_in-requires c =
    let xs = c.self.inside.pages.items in
    let rising = subst (λ (v : PagedRows). IsRising v.rows) (sym c.self.view_is) c.requires in
    rw (c.deref-2.ensures.value, take_rest xs c.saturating_sub-begin.result) (rising-from xs c.saturating_sub-begin.result rising)

pub returns : goal.returns
returns c =
    let xs = c.self.inside.pages.items in
    let rising = subst (λ (v : PagedRows). IsRising v.rows) (sym c.self.view_is) c.requires in
    let below : Below c.args.range.first (joined (take c.count_before.result xs)) = rw (c.deref.ensures.value, c.get.ensures.value, c.first.ensures.value) at c.count_before.ensures.below in
    let bound : c.count_before.result ≤ length xs = rw c.deref.ensures.value at c.count_before.ensures.bound in
    let begun = meeting-begun c.args.range xs c.count_before.result rising c.self.invariant.0 bound below in
    let begin = c.saturating_sub-begin.result in
    let rest : take (length c.deref-2.result.now - begin) (drop begin c.deref-2.result.now) ≡ drop (c.count_before.result - 1) xs = rw (c.deref-2.ensures.value, take_rest xs begin, c.saturating_sub-begin.ensures) refl in
    let all = ap (λ l. meeting c.args.range (joined l)) rest ∙ begun ∙ ap (λ (v : PagedRows). meeting c.args.range v.rows) c.self.view_is in
    rw (← all) c.near_in.ensures
