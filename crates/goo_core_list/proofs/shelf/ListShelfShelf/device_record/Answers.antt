use Rattle.goo_core_list.proofs.LookLemmas.{looks_up}
use Rattle.goo_core_list.proofs.shelf.ListShelfShelf.device_record.Goals as goal

pub returns : goal.returns
returns c = looks_up c.args.self.now _ _ c.record_of.ensures
