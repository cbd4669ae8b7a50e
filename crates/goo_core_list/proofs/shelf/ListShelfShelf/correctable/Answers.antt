use Rattle.goo_core_list.proofs.LookLemmas.{looks_up}
use Rattle.goo_core_list.proofs.shelf.ListShelfShelf.correctable.Goals as goal

pub returns : goal.returns
returns c = looks_up c.args.self.now _ _ c.correctable_for.ensures
