use Rattle.goo_spec_laws.proofs.Keeping.{always_in_time}
use Rattle.goo_spec_laws.proofs.deadlines.in_time.Goals as goal

pub returns : goal.returns
returns c = always_in_time
