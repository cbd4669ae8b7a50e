use Rattle.std.proofs.Common.{◌+◌, sym, subst}
use Rattle.goo_types.specs.declared.command.Command.TheVariants as command
use Rattle.goo_store_plans.specs.Carried.{Does}
use Rattle.goo_store_plans.proofs.Carrying.{exports}
use Rattle.goo_store_plans.proofs.act_changes.export.Goals as goal

pub returns-clause-does : goal.returns-clause-does
returns-clause-does c t told is =
    subst (Does t (command.Export c.args.accepted.now)) (sym c.in_ok-vec.ensures.items)
    (exports t c.args.meta.now told c.in_ok-number.number c.get.ensures.limit.1 _ c.args.accepted.now c.in_ok-sent.sent c.args.notice.now is c.in_ok-number.ensures.value
    (λ i. record (c.in_ok-next_numbers.ensures.numbers i) { next_notice = c.get.ensures.value i + 1 }) c.in_ok-sent.ensures.states c.in_ok-sent.ensures.reads)
