use Rattle.goo_desk.proofs.DenialFacts.{denied_are_sent_nothing, denied_see_nothing}
use Rattle.goo_desk.proofs.law.denied_see_nothing.Goals as goal

pub returns-clause-answered : goal.returns-clause-answered
returns-clause-answered c = denied_see_nothing

pub returns-clause-sent : goal.returns-clause-sent
returns-clause-sent c = denied_are_sent_nothing
