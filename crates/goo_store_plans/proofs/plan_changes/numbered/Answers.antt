use Rattle.std.proofs.Common.{ap}
use Rattle.goo_spec.proofs.Stepping.{accepted_passes}
use Rattle.goo_spec_tables.specs.States.{state_of}
use Rattle.goo_store_plans.proofs.Joining.{carried_without}
use Rattle.goo_store_plans.proofs.plan_changes.numbered.Goals as goal

pub returns-clause-does : goal.returns-clause-does
returns-clause-does c t same kept order fits =
    let q = c.args.plan.now.request in
    carried_without t q.command c.in_ok-changes.changes.items c.without_lots.result (ap (λ v. v.items) c.without_lots.ensures.changes) c.without_lots.ensures.added
    (c.in_ok-changes.ensures.does t same fits.sent kept order q.caller (accepted_passes (state_of t) q c.args.plan.now.reply fits.accepted))
