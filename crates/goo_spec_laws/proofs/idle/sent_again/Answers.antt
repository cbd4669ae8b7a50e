use Rattle.goo_spec_laws.proofs.Again.{again_is_idle, copies_are_idle}
use Rattle.goo_spec_laws.proofs.idle.sent_again.Goals as goal

pub returns-clause-at_once : goal.returns-clause-at_once
returns-clause-at_once c = again_is_idle

pub returns-clause-copies : goal.returns-clause-copies
returns-clause-copies c = copies_are_idle
