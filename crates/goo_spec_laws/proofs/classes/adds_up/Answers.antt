use Rattle.goo_spec_laws.proofs.Growing.{always_add_up}
use Rattle.goo_spec_laws.proofs.classes.adds_up.Goals as goal

pub returns : goal.returns
returns c = always_add_up
