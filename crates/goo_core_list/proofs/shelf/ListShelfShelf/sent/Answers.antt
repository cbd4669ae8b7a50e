use Rattle.goo_core_list.specs.States.{state_of}
use Rattle.goo_core_list.proofs.LookLemmas.{looks}
use Rattle.goo_core_list.proofs.shelf.ListShelfShelf.sent.Goals as goal

pub returns : goal.returns
unfolding state_of
returns c = looks c.args.self.now c.copy_sent.result _ (rw c.find.ensures at c.copy_sent.ensures.value) c.copy_sent.ensures.memory
