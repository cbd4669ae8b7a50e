use Rattle.std.proofs.Common.{◌≡◌, ap, ◌∙◌, refl}
use Rattle.goo_core_list.specs.States.{state_of}
use Rattle.std.proofs.Common.{Option, None, Some, Bor}
use Rattle.std.specs.Prelude.{is_some}
use Rattle.std.specs.Option.{option_copied}
use Rattle.goo_core_list.proofs.LookLemmas.{looks_up}
use Rattle.goo_core_list.proofs.shelf.ListShelfShelf.peer.Goals as goal

-- what is copied is there where it is
there : {X : Type 0} (o : Option (Bor X)) → is_some o ≡ is_some (option_copied o)
there None = refl
there (Some x) = refl

pub returns : goal.returns
unfolding state_of
returns c = looks_up c.args.self.now _ _ (c.is_some.ensures ∙ there c.find.result ∙ ap is_some c.find.ensures)
