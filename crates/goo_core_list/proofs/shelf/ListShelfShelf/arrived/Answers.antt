use Rattle.std.proofs.Common.{ap, ◌∙◌}
use Rattle.goo_core_list.specs.States.{state_of}
use Rattle.std.specs.FinMap.{get}
use Rattle.goo_spec.specs.State.{notice_cmp}
use Rattle.goo_core_shelf.specs.Shelf.{arrival_of}
use Rattle.goo_core_shelf.specs.Maps.{map_of}
use Rattle.goo_core_list.proofs.LookLemmas.{looks_up}
use Rattle.goo_core_list.proofs.shelf.ListShelfShelf.arrived.Goals as goal

pub returns : goal.returns
unfolding state_of
returns c = looks_up c.args.self.now _ _ (c.arrival_for.ensures ∙ ap (λ kept. arrival_of kept c.args.notice.now) (c.find.ensures ∙ (λ i. get (map_of notice_cmp c.args.self.now.arrived) (c.sender.ensures i, c.number.ensures i))))
