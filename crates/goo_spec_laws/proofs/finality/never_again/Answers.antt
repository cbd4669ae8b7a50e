use Rattle.goo_spec_laws.proofs.Lasting.{never_again}
use Rattle.goo_spec_laws.proofs.finality.never_again.Goals as goal

pub returns : goal.returns
returns c = never_again
