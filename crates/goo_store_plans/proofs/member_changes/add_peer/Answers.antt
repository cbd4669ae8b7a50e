use Rattle.std.proofs.Common.{sym, subst}
use Rattle.goo_types.specs.declared.command.Command.TheVariants as command
use Rattle.goo_store_plans.specs.Carried.{Does}
use Rattle.goo_store_plans.proofs.Carrying.{peers}
use Rattle.goo_store_plans.proofs.member_changes.add_peer.Goals as goal

pub returns-clause-does : goal.returns-clause-does
returns-clause-does c t =
    subst (Does t (command.AddPeer c.args.added.now)) (sym c.in_ok-vec.ensures.items)
    (peers t c.args.added.now c.peer_row-peer.result c.peer_row-peer.ensures.states c.peer_row-peer.ensures.reads)
