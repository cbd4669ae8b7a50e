use Rattle.std.proofs.Common.{sym, subst}
use Rattle.goo_types.specs.declared.command.Command.TheVariants as command
use Rattle.goo_store_plans.specs.Carried.{Does}
use Rattle.goo_store_plans.proofs.Carrying.{names}
use Rattle.goo_store_plans.proofs.member_changes.open_holder.Goals as goal

pub returns-clause-does : goal.returns-clause-does
returns-clause-does c t =
    subst (Does t (command.OpenHolder c.args.opened.now)) (sym c.in_ok-vec.ensures.items)
    (names t c.args.opened.now c.in_ok-holder.holder c.in_ok-holder.ensures.states c.in_ok-holder.ensures.reads)
