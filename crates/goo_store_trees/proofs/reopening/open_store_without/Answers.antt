use Rattle.std.proofs.Common.{arith}
use Rattle.std.proofs.lemmas.Result.{IfErr-weaker}
use Rattle.goo_store_trees.proofs.reopening.open_store_without.Goals as goal

pub returns-in-Ok-clause-left : goal.returns-in-Ok-clause-left
returns-in-Ok-clause-left g c =
    IfErr-weaker c.open_fresh.result _ _ (λ e quiet clean db may. c.drop_trees.ensures.crash (omega (arith, clean, quiet.clean)) db (quiet.outcomes db may)) c.open_fresh.ensures.unharmed
