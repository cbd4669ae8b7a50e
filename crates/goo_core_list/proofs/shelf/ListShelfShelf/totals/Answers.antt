use Rattle.std.specs.Cmp.Lexicographic.{nat_list_cmp_total}
use Rattle.goo_core_shelf.specs.Shelf.{totals_for}
use Rattle.goo_core_list.specs.States.{state_of}
use Rattle.goo_core_list.proofs.LookLemmas.{looks}
use Rattle.goo_core_shelf.proofs.OrderLemmas.{map-keys}
use Rattle.goo_core_list.proofs.shelf.ListShelfShelf.totals.Goals as goal

pub returns : goal.returns
unfolding state_of
returns c =
    let s = c.args.self.now in
    looks s c.all_totals.result _ (rw (map-keys nat_list_cmp_total (totals_for (state_of s)) s.devices c.all_totals.ensures.ordered) at c.all_totals.ensures.keyed) c.all_totals.ensures.memory
