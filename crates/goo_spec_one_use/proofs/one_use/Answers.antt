use Rattle.goo_spec_one_use.proofs.Worlds.{cancelled_once, cancelled_for_good}
use Rattle.goo_spec_one_use.proofs.one_use.Goals as goal

pub returns-clause-once : goal.returns-clause-once
returns-clause-once c = cancelled_once

pub returns-clause-for_good : goal.returns-clause-for_good
returns-clause-for_good c = cancelled_for_good
