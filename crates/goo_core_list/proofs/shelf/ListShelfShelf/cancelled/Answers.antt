use Rattle.std.proofs.Common.{◌∙◌}
use Rattle.goo_core_list.specs.States.{state_of}
use Rattle.goo_core_list.proofs.LookLemmas.{looks_up}
use Rattle.goo_core_list.proofs.shelf.ListShelfShelf.cancelled.Goals as goal

pub returns : goal.returns
unfolding state_of
returns c = looks_up c.args.self.now _ _ (c.copied.ensures ∙ c.find.ensures)
