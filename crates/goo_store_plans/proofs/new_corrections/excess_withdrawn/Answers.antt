use Rattle.std.proofs.Common.{sym, subst}
use Rattle.goo_spec.specs.Correct.{taken_out}
use Rattle.goo_spec_tables.specs.States.{state_of}
use Rattle.goo_store_plans.specs.Correcting.{TakesOut}
use Rattle.goo_store_plans.proofs.CorrectCarried.{nothing_taken, ranges_taken}
use Rattle.goo_store_plans.proofs.new_corrections.excess_withdrawn.Goals as goal

pub returns-in-None-clause-takes : goal.returns-in-None-clause-takes
returns-in-None-clause-takes c t told kept order caller accepted =
    let x = c.args.accepted.now in
    subst (λ o. TakesOut t (taken_out (state_of t) x o) c.new.result.items) (sym c.in-None.is) (subst (TakesOut t (state_of t)) (sym c.new.ensures.items) (nothing_taken t kept))

pub returns-in-Some-clause-takes : goal.returns-in-Some-clause-takes
returns-in-Some-clause-takes c =
    ranges_taken c.args.meta.now c.args.accepted.now c.in-Some.range c.in-Some.is c.withdraw.result c.withdraw.ensures.does c.withdraw.ensures.these
