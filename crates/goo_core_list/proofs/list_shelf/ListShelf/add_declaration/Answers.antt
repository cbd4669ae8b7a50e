use Rattle.std.proofs.Common.{ap, sym, ◌∙◌}
use Rattle.std.specs.Option.{option_copied}
use Rattle.goo_core_list.specs.States.{state_of}
use Rattle.goo_core_list.proofs.list_shelf.ListShelf.add_declaration.Goals as goal

pub lot_of-lot-requires : goal.lot_of-lot-requires
unfolding state_of
lot_of-lot-requires c = c.requires.lot c.in-Some.device.now (sym c.find.ensures ∙ ap option_copied c.in-Some.is)
