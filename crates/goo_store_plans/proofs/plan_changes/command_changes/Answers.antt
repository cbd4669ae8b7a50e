use Rattle.std.proofs.Common.{subst}
use Rattle.sqlite.specs.Held.{state}
use Rattle.goo_store_plans.specs.PlanNeeds.{CanGo}
use Rattle.goo_store_plans.proofs.Refusing.{blames_so}
use Rattle.goo_tables_rows.proofs.Results.{if_ok}
use Rattle.goo_store_plans.proofs.LookUps.{looks_none, looks_so}
use Rattle.goo_store_plans.proofs.plan_changes.command_changes.Goals as goal

pub returns-in-Import-clause-gathers : goal.returns-in-Import-clause-gathers
returns-in-Import-clause-gathers g c =
    looks_so (state g.S.Store c.args.conn.now) (state g.S.Store c.import_changes.new.conn) c.import_changes.result _ _ c.import_changes.ensures.looks
    (λ t it gathered says known basis are kept order fits. says basis.next_lot are c.args.plan.now.request c.args.plan.now.reply c.in-Import.is (record { kept = kept; accepted = fits.accepted }))

pub returns-in_default-clause-gathers : goal.returns-in_default-clause-gathers
returns-in_default-clause-gathers g c =
    looks_none (state g.S.Store c.args.conn.now) c.plain.result _
    (λ t it. if_ok c.plain.result c.plain.ensures.does (λ gathered does known device are kept order fits. does t kept order fits))

pub returns-in-OpenAccount-clause-gathers : goal.returns-in-OpenAccount-clause-gathers
returns-in-OpenAccount-clause-gathers g c =
    looks_so (state g.S.Store c.args.conn.now) (state g.S.Store c.by_own_row.new.conn) c.by_own_row.result _ _ c.by_own_row.ensures.gathers (λ t it gathered carries known device are kept order fits. carries known device kept order fits)

pub returns-in-Import-clause-blames : goal.returns-in-Import-clause-blames
returns-in-Import-clause-blames g c =
    blames_so (state g.S.Store c.args.conn.now) (state g.S.Store c.import_changes.new.conn) c.import_changes.result _ _ c.import_changes.ensures.blames
    (λ t stands kept can. subst (CanGo t c.args.own c.args.basis c.args.plan.now) c.in-Import.is can)
