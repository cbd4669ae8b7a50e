use Rattle.std.proofs.Common.{sym, subst}
use Rattle.goo_types.specs.declared.command.Command.TheVariants as command
use Rattle.goo_store_plans.specs.Carried.{Does}
use Rattle.goo_store_plans.proofs.Carrying.{transfers}
use Rattle.goo_store_plans.proofs.command_changes.plain_changes.Goals as goal

pub returns-in-Transfer-clause-does : goal.returns-in-Transfer-clause-does
returns-in-Transfer-clause-does c t =
    subst (λ k. Does t k c.transfer.result.items) (sym c.in-Transfer.is) (subst (Does t (command.Transfer c.in-Transfer.field-0)) (sym c.transfer.ensures) (transfers t c.in-Transfer.field-0))
