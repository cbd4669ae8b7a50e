use Rattle.std.proofs.Common.{ap, ◌∙◌}
use Rattle.goo_core_list.specs.States.{state_of}
use Rattle.std.specs.FinMap.{get}
use Rattle.goo_spec.specs.State.{text_cmp}
use Rattle.goo_core_shelf.specs.Maps.{map_of}
use Rattle.goo_core_list.proofs.LookLemmas.{looks_up}
use Rattle.goo_core_list.proofs.shelf.ListShelfShelf.lot.Goals as goal

pub returns : goal.returns
unfolding state_of
returns c = looks_up c.args.self.now _ _ (c.copied.ensures ∙ c.find.ensures ∙ ap (get (map_of text_cmp c.args.self.now.lots)) c.new.ensures)
