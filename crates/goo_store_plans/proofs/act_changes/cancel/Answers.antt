use Rattle.std.proofs.Common.{◌+◌, rules, sym, subst}
use Rattle.goo_types.specs.declared.command.Command.TheVariants as command
use Rattle.goo_store_plans.specs.Carried.{Does}
use Rattle.goo_store_plans.proofs.Carrying.{cancels}
use Rattle.goo_store_plans.proofs.act_changes.cancel.Goals as goal

pub returns-clause-does : goal.returns-clause-does
returns-clause-does c t told =
    subst (Does t (command.Cancel c.args.accepted.now)) (sym c.in_ok-vec.ensures.items)
    (cancels t c.args.meta.now told c.in_ok-number.number c.get.ensures.limit.1 _ c.args.accepted.now c.in_ok-record.record c.in_ok-day.day (search rules) c.in_ok-number.ensures.value
    (λ i. record (c.in_ok-next_numbers.ensures.numbers i) { next_cancellation = c.get.ensures.value i + 1 }) c.in_ok-record.ensures.states c.in_ok-record.ensures.reads)
