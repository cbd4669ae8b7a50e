use Rattle.std.proofs.Common.{rules}
use Rattle.goo_store_anew.proofs.rewriting.write_inside.Goals as goal

pub returns-in-Ok-true-clause-told : goal.returns-in-Ok-true-clause-told
returns-in-Ok-true-clause-told g c = λ clean. c.in-Ok-true.ensures.same clean (search rules)
