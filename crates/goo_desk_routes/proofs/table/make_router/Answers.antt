use Rattle.matchit.proofs.OnLiterals.{matchit_on_literals}
use Rattle.goo_desk_routes.specs.Routes.{goo_desk_routes}
use Rattle.goo_desk_routes.proofs.table.make_router.Goals as goal

pub returns : goal.returns
unfolding matchit_on_literals goo_desk_routes
returns c =
    let a = rw c.new-router.ensures at c.in_ok-insert.ensures.1 in
    let b = rw a at c.in_ok-insert-2.ensures.1 in
    let d = rw b at c.in_ok-insert-3.ensures.1 in
    let e = rw d at c.in_ok-insert-4.ensures.1 in
    let f = rw e at c.in_ok-insert-5.ensures.1 in
    let g = rw f at c.in_ok-insert-6.ensures.1 in
    rw g at c.in_ok-insert-7.ensures.1
