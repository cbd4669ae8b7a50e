use Rattle.goo_spec_again.proofs.Declared.{declarations_again}
use Rattle.goo_spec_again.proofs.Whole.{accepted_is_repeated, kept_is_repeated, lists_again}
use Rattle.goo_spec_again.proofs.sent_again_whole.Goals as goal

pub returns-clause-kept : goal.returns-clause-kept
returns-clause-kept c = kept_is_repeated

pub returns-clause-accepted : goal.returns-clause-accepted
returns-clause-accepted c = accepted_is_repeated

pub returns-clause-lists : goal.returns-clause-lists
returns-clause-lists c = lists_again

pub returns-clause-declarations : goal.returns-clause-declarations
returns-clause-declarations c = declarations_again
