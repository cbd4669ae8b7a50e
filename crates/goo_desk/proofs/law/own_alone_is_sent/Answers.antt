use Rattle.goo_desk.proofs.HolderFacts.{own_alone_is_sent}
use Rattle.goo_desk.proofs.law.own_alone_is_sent.Goals as goal

pub returns : goal.returns
returns c = own_alone_is_sent
