use Rattle.std.proofs.Common.{ap, ◌∙◌}
use Rattle.goo_core_list.specs.States.{state_of}
use Rattle.goo_core_shelf.specs.Shelf.{receipt_of}
use Rattle.goo_core_list.proofs.LookLemmas.{looks_up}
use Rattle.goo_core_list.proofs.shelf.ListShelfShelf.receipt.Goals as goal

pub returns : goal.returns
unfolding state_of
returns c = looks_up c.args.self.now _ _ (c.receipt_for.ensures ∙ ap (λ kept. receipt_of kept c.args.command.now) c.find.ensures)
