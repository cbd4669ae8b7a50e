use Rattle.std.proofs.Common.{◌≡◌, Ok, Err, subst, rules}
use Rattle.sqlite.specs.Held.{state}
use Rattle.goo_store_changes.specs.Changes.{made_all}
use Rattle.goo_store_plans.specs.Found.{IsBasisOf}
use Rattle.goo_store_plans.specs.PlanNeeds.{CanBePlanned}
use Rattle.goo_store_plans.proofs.LookUps.{looks_made, looks_then}
use Rattle.goo_store_plans.proofs.Refusing.{blames_err, blames_made, blames_so, blames_then}
use Rattle.goo_store_plans.proofs.plan_changes.plan_changes.Goals as goal

pub returns-clause-gathers : goal.returns-clause-gathers
returns-clause-gathers g c =
    let s0 = state g.S.Store c.args.conn.now in
    let s1 = state g.S.Store c.with_numbers.new.conn in
    let s2 = state g.S.Store c.changes_by.new.conn in
    let changes = c.in_ok-changes.changes in
    looks_made s0 s2 changes (Ok (record { changes = changes; after = c.after_changes-after.result })) _ _
    (looks_then s0 s1 s2 c.in_ok-basis.basis (Ok changes) _ _ c.in_ok-basis.ensures.looks c.in_ok-changes.ensures.gathers)
    (λ t it both known kept order fits.
    let basis = both.0 known.basis in (
      both.1 (record { own = known.own; basis = basis; lots = known.lots; edges = known.edges }) kept order fits,
      subst (λ xs. IsBasisOf c.after_changes-after.result (made_all t xs)) c.deref.ensures.value (c.after_changes-after.ensures t order basis),
    ))

pub returns-in_err-basis-clause-blames : goal.returns-in_err-basis-clause-blames
returns-in_err-basis-clause-blames g c =
    let s0 = state g.S.Store c.args.conn.now in
    let s1 = state g.S.Store c.with_numbers.new.conn in
    let same : c.from_residual.result ≡ Err c.in_err-basis.field-0.0 = search rules in
    blames_err s0 s1 c.in_err-basis.field-0.0 c.from_residual.result _ same
    (blames_so s0 s1 (Err c.in_err-basis.field-0.0) _ _ c.in_err-basis.ensures.blames (λ t stands kept can. can.room))

pub returns-in_err-changes-clause-blames : goal.returns-in_err-changes-clause-blames
returns-in_err-changes-clause-blames g c =
    let s0 = state g.S.Store c.args.conn.now in
    let s1 = state g.S.Store c.with_numbers.new.conn in
    let s2 = state g.S.Store c.changes_by.new.conn in
    let same : c.from_residual-in_err-changes.result ≡ Err c.in_err-changes.field-0.0 = search rules in
    blames_err s0 s2 c.in_err-changes.field-0.0 c.from_residual-in_err-changes.result _ same
    (blames_then s0 s1 s2 c.in_ok-basis.basis _ c.in_ok-basis.ensures.looks _ c.in_ok-basis.ensures.blames (Err c.in_err-changes.field-0.0) _ c.in_err-changes.ensures.gathers _ c.in_err-changes.ensures.blames _
    (λ t stands kept can first.
    record { found = record { own = can.found.own; basis = first can.found.basis; lots = can.found.lots; edges = can.found.edges }; order = can.order; fits = can.fits; room = can.room; lots = can.lots }))

pub returns-clause-blames : goal.returns-clause-blames
returns-clause-blames g c =
    let s0 = state g.S.Store c.args.conn.now in
    let s1 = state g.S.Store c.with_numbers.new.conn in
    let s2 = state g.S.Store c.changes_by.new.conn in
    let changes = c.in_ok-changes.changes in
    blames_made s0 s2 changes _ (looks_then s0 s1 s2 c.in_ok-basis.basis (Ok changes) _ _ c.in_ok-basis.ensures.looks c.in_ok-changes.ensures.gathers) _
    (blames_then s0 s1 s2 c.in_ok-basis.basis _ c.in_ok-basis.ensures.looks _ c.in_ok-basis.ensures.blames (Ok changes) _ c.in_ok-changes.ensures.gathers _ c.in_ok-changes.ensures.blames (λ t. CanBePlanned t c.args.known_rows c.args.plan.now)
    (λ t stands kept can first.
    record { found = record { own = can.found.own; basis = first can.found.basis; lots = can.found.lots; edges = can.found.edges }; order = can.order; fits = can.fits; room = can.room; lots = can.lots }))
    (Ok (record { changes = changes; after = c.after_changes-after.result })) _ (λ t stands kept can first. tt)
