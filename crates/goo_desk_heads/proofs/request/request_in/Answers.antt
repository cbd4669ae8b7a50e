use Rattle.goo_desk_heads.proofs.request.request_in.Goals as goal

pub whole-requires-clause-text : goal.whole-requires-clause-text
whole-requires-clause-text c = let begins = rw c.in-Head.is at c.requires in rw (begins.2.target) (begins.1.0.1.0.target_text)
