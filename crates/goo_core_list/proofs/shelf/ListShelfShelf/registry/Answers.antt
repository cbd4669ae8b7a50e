use Rattle.goo_core_list.proofs.LookLemmas.{looks_up}
use Rattle.goo_core_list.proofs.shelf.ListShelfShelf.registry.Goals as goal

pub returns : goal.returns
returns c = looks_up c.args.self.now _ _ c.own_meta.ensures
