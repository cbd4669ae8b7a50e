use Rattle.std.proofs.Common.{refl}
use Rattle.goo_core_list.specs.States.{state_of}
use Rattle.goo_core_list.proofs.LookLemmas.{looks_up}
use Rattle.goo_core_list.proofs.shelf.ListShelfShelf.code.Goals as goal

pub returns : goal.returns
unfolding state_of
returns c = looks_up c.args.self.now _ _ refl
