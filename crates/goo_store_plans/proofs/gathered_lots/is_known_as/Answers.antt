use Rattle.goo_store_plans.proofs.Gathering.{known_as_test}
use Rattle.goo_store_plans.proofs.gathered_lots.is_known_as.Goals as goal

pub returns : goal.returns
returns c = known_as_test c.is_known_as.result c.args.known.now.lot c.args.lot.now c.is_known_as.ensures
