use Rattle.std.proofs.Common.{◌≡◌, ◌+◌, ◌-◌, ◌/◌, ◌≤◌, length, min, ap, arith}
use Rattle.std.specs.Vec.{vec_len}
use Rattle.std.proofs.lemmas.Result.{on_ok_weaker}
use Rattle.goo_core_pages.specs.Paging.{PagedRows, room_in}
use Rattle.goo_core_pages.proofs.CutLemmas.{room-wanted}
use Rattle.goo_core_pages.proofs.paged.Pages.make_room.Goals as goal

pub returns-then-wanted-spare-clause-room : goal.returns-then-wanted-spare-clause-room
returns-then-wanted-spare-clause-room c =
    let xs = c.self.inside.pages.items in
    let spare = vec_len c.self.inside.spare in
    let enough : min c.args.count (length xs + (c.args.count / 32 + 2)) ≤ spare = omega arith in
    let room = room-wanted xs spare c.args.count c.self.invariant.0 enough in
    let was : room_in xs spare ≡ c.args.self.now.room = ap (λ (v : PagedRows). v.room) c.self.view_is in
    omega (arith, room, was)

pub returns-clause-room : goal.returns-clause-room
returns-clause-room c =
    let xs = c.self.inside.pages.items in
    let room : vec_len c.add_pages.new.spare ≡ vec_len c.reserve-2.new.self + (c.min-wanted.result - c.len-spare.result) → c.args.count ≤ room_in xs (vec_len c.add_pages.new.spare) = λ e. room-wanted xs (vec_len c.add_pages.new.spare) c.args.count c.self.invariant.0 (omega (arith, e)) in
    rw c.reserve.ensures.items (on_ok_weaker c.add_pages.result room c.add_pages.ensures.all)
