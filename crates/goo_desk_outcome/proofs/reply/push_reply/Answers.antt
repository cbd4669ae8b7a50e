use Rattle.goo_desk_outcome.proofs.reply.push_reply.Goals as goal

pub returns-in-Advanced-clause-bytes : goal.returns-in-Advanced-clause-bytes
returns-in-Advanced-clause-bytes c = rw c.in-Advanced.is c.push_one-in-Advanced.ensures.bytes
