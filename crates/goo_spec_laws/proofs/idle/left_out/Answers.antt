use Rattle.goo_spec_laws.proofs.LeftOut.{each_is_idle}
use Rattle.goo_spec_laws.proofs.idle.left_out.Goals as goal

pub returns : goal.returns
returns c = each_is_idle
