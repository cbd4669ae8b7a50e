use Rattle.std.proofs.Common.{rules}
use Rattle.goo_spec.specs.Energy.{total, lowered}
use Rattle.goo_core_list.specs.States.{state_of}
use Rattle.goo_core_list.proofs.SumLemmas.{earned_from_sums}
use Rattle.goo_core_list.proofs.list_shelf.ListShelf.earned.Goals as goal

pub returns : goal.returns
unfolding state_of total lowered
returns c =
    let sums = earned_from_sums (state_of c.args.self.now) c.args.declared.now in
    search (rules, sums)
