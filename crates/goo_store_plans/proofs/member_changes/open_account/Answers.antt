use Rattle.std.proofs.Common.{◌+◌, sym, subst}
use Rattle.goo_types.specs.declared.command.Command.TheVariants as command
use Rattle.goo_store_plans.specs.Carried.{Does}
use Rattle.goo_store_plans.proofs.Carrying.{opens}
use Rattle.goo_store_plans.proofs.member_changes.open_account.Goals as goal

pub returns-clause-does : goal.returns-clause-does
returns-clause-does c t told =
    subst (Does t (command.OpenAccount c.args.opened.now)) (sym c.in_ok-vec.ensures.items)
    (opens t c.args.meta.now told c.in_ok-number.number c.get.ensures.limit.1 _ c.args.opened.now c.in_ok-account.account c.in_ok-number.ensures.value
    (λ i. record (c.in_ok-next_numbers.ensures.numbers i) { next_account = c.get.ensures.value i + 1 }) c.in_ok-account.ensures.states c.in_ok-account.ensures.reads)
