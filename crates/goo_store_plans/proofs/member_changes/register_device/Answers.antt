use Rattle.std.proofs.Common.{sym, subst}
use Rattle.goo_types.specs.declared.command.Command.TheVariants as command
use Rattle.goo_store_plans.specs.Carried.{Does}
use Rattle.goo_store_plans.proofs.Carrying.{registers}
use Rattle.goo_store_plans.proofs.member_changes.register_device.Goals as goal

pub returns-clause-does : goal.returns-clause-does
returns-clause-does c t =
    subst (Does t (command.RegisterDevice c.args.registered.now)) (sym c.in_ok-vec.ensures.items)
    (registers t c.args.registered.now c.in_ok-device.device c.in_ok-device.ensures.states c.in_ok-device.ensures.begins c.in_ok-device.ensures.reads)
