use Rattle.goo_spec_laws.proofs.AccountLists.{independent}
use Rattle.goo_spec_laws.proofs.independent.independent.Goals as goal

pub returns : goal.returns
returns c = independent
