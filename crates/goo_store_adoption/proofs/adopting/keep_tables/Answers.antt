use Rattle.std.proofs.Common.{◌≡◌, arith, subst, rules}
use Rattle.goo_store_adoption.specs.Judged.{IsRegistry}
use Rattle.goo_store_adoption.proofs.adopting.keep_tables.Goals as goal

pub returns-clause-told : goal.returns-clause-told
returns-clause-told g c = λ clean settled. rw (c.tables_of.ensures.value) at (c.in-Ok.ensures.told clean settled)

pub returns-clause-few : goal.returns-clause-few
returns-clause-few g c = omega (arith, c.in-Ok.ensures.long, c.tables_of.ensures.limit)

pub returns-clause-judged : goal.returns-clause-judged
returns-clause-judged g c =
    let lent : c.deref.result.now ≡ c.in-Ok.answers.items = search rules in
    subst (IsRegistry c.args.layout) lent c.in_ok-judge.ensures.judged
