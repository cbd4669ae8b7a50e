use Rattle.std.proofs.Common.{rules}
use Rattle.goo_store_adoption.specs.Judged.{IsJudged}
use Rattle.goo_store_adoption.proofs.judging.judge.Goals as goal

pub returns-in-Ok-true-clause-judged : goal.returns-in-Ok-true-clause-judged
returns-in-Ok-true-clause-judged c = let it : IsJudged c.args.layout c.args.answers.now c.in_ok-found.found = search rules in (c.in_ok-found.found, it)
