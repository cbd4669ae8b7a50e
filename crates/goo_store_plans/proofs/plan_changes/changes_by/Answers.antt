use Rattle.std.proofs.Common.{◌≡◌, List, ◌++◌, Ok, Err, IsOkUnless, ap, refl, sym, subst, ◌∙◌, rules}
use Rattle.sqlite.specs.Held.{state}
use Rattle.goo_core_shelf.specs.Plan.{Fits}
use Rattle.goo_tables_rows.specs.Rows.{Tables, Lot}
use Rattle.goo_tables_rows.proofs.Results.{if_ok}
use Rattle.goo_spec_tables.specs.Kept.{AreKept}
use Rattle.goo_spec_tables.specs.Places.{rows_of}
use Rattle.goo_spec_tables.specs.States.{state_of}
use Rattle.goo_store_plans.specs.Carried.{AreInOrder}
use Rattle.goo_store_plans.specs.Carrying.{CarriesOut}
use Rattle.goo_store_changes.specs.Changes.{made_all}
use Rattle.goo_store_plans.specs.EditChanges.{AreForEdits}
use Rattle.goo_store_plans.specs.LotNumbers.{AreWith}
use Rattle.goo_store_plans.specs.Found.{AreLots, IsRowOf, IsBasisOf}
use Rattle.goo_store_plans.proofs.EditsAtHand.{edits_at_hand}
use Rattle.goo_store_plans.proofs.Found.{with_found}
use Rattle.goo_store_plans.proofs.Gathered.{gathers_then, gathers_made}
use Rattle.goo_store_plans.specs.EditsTaken.{CanTakeEdits}
use Rattle.goo_store_plans.specs.PlanNeeds.{CanBePlanned}
use Rattle.goo_store_values.specs.declared.statement_fault.StatementFault.TheVariants.{Memory}
use Rattle.goo_store_plans.proofs.LookUps.{looks_then}
use Rattle.goo_store_plans.proofs.Needs.{can_go, kept_numbers}
use Rattle.goo_store_plans.proofs.Refusing.{blames_err, blames_made, blames_so, blames_then}
use Rattle.goo_store_plans.proofs.plan_changes.changes_by.Goals as goal

pub returns-clause-gathers : goal.returns-clause-gathers
returns-clause-gathers g c =
    let start = state g.S.Store c.args.conn.now in
    let mid = state g.S.Store c.command_changes.new.conn in
    let end = state g.S.Store c.changes_of_edits.new.conn in
    let plan = c.args.plan.now in
    let act = c.in_ok-act.act in
    let added = c.deref-2.result.now in
    let edits = c.deref-3.result.now in
    let Carries : Tables → Type 0 = λ t. IsRowOf c.args.known_rows.own t → IsBasisOf c.args.known_rows.basis t → AreLots t.lots c.args.known_rows.lots → AreKept t → AreInOrder t → Fits (state_of t) (rows_of t) plan → CarriesOut t plan.request.command act in
    gathers_made start end c.in_ok-edits.edits c.joined.result _ _
    (gathers_then start mid end act _ _ _ c.in_ok-act.ensures.gathers c.in_ok-edits.ensures.looks (λ t pieces. Carries t × ((lots : List Lot) → AreWith t.lots added lots → AreForEdits lots edits pieces.items)) (λ t pieces carry are. (carry, are)))
    (λ t both. if_ok c.joined.result c.joined.ensures.planned (λ changes is known kept order fits.
    let carries = both.0 known.own known.basis known.lots kept order fits in
    let lots = (made_all t act.changes.items).lots in
    is t kept order fits act refl carries
    (subst (λ es. AreForEdits lots es c.in_ok-edits.edits.items) c.deref-3.ensures.value (both.1 lots (subst (λ xs. AreWith t.lots xs lots) (sym (c.deref-2.ensures.value ∙ c.in_ok-extend_from_slice.ensures.items ∙ ap (λ xs. act.added.items ++ xs) c.deref.ensures.value)) (with_found t.lots act.added.items c.args.known_rows.lots.found.items lots known.lots.found carries.lots).with)))))

pub returns-in_err-act-clause-blames : goal.returns-in_err-act-clause-blames
returns-in_err-act-clause-blames g c =
    let s0 = state g.S.Store c.args.conn.now in
    let s1 = state g.S.Store c.command_changes.new.conn in
    let same : c.from_residual.result ≡ Err c.in_err-act.field-0.0 = search rules in
    blames_err s0 s1 c.in_err-act.field-0.0 c.from_residual.result _ same (blames_so s0 s1 (Err c.in_err-act.field-0.0) _ _ c.in_err-act.ensures.blames (λ t stands kept can. can_go t kept c.args.plan.now can.fits c.args.known_rows.own can.found.own c.args.known_rows.basis can.found.basis can.room))

pub returns-in_err-extend_from_slice-clause-blames : goal.returns-in_err-extend_from_slice-clause-blames
returns-in_err-extend_from_slice-clause-blames g c =
    let memory : IsOkUnless c.from_residual-in_err-extend_from_slice.result Memory = search rules in
    blames_made (state g.S.Store c.args.conn.now) (state g.S.Store c.command_changes.new.conn) c.in_ok-act.act _ c.in_ok-act.ensures.gathers _ c.in_ok-act.ensures.blames c.from_residual-in_err-extend_from_slice.result _
    (λ t stands kept can first. memory)

pub returns-in_err-edits-clause-blames : goal.returns-in_err-edits-clause-blames
returns-in_err-edits-clause-blames g c =
    let start = state g.S.Store c.args.conn.now in
    let mid = state g.S.Store c.command_changes.new.conn in
    let end = state g.S.Store c.changes_of_edits.new.conn in
    let act = c.in_ok-act.act in
    let lots = c.args.known_rows.lots.found.items in
    let same : c.from_residual-in_err-edits.result ≡ Err c.in_err-edits.field-0.0 = search rules in
    blames_err start end c.in_err-edits.field-0.0 c.from_residual-in_err-edits.result _ same
    (blames_then start mid end act _ c.in_ok-act.ensures.gathers _ c.in_ok-act.ensures.blames (Err c.in_err-edits.field-0.0) _ c.in_err-edits.ensures.looks _ c.in_err-edits.ensures.blames (λ t. CanBePlanned t c.args.known_rows c.args.plan.now)
    (λ t stands kept can carry.
    let carries = carry can.found.own can.found.basis can.found.lots kept can.order can.fits in
    subst (λ xs. CanTakeEdits xs t c.deref-3.result.now) (sym (c.deref-2.ensures.value ∙ c.in_ok-extend_from_slice.ensures.items ∙ ap (λ xs. act.added.items ++ xs) c.deref.ensures.value))
    (subst (CanTakeEdits (act.added.items ++ lots) t) (sym c.deref-3.ensures.value) (edits_at_hand t c.args.plan.now act lots can.fits carries c.in_ok-act.ensures.fits can.found.lots.found can.lots))))

pub returns-clause-blames : goal.returns-clause-blames
returns-clause-blames g c =
    let start = state g.S.Store c.args.conn.now in
    let mid = state g.S.Store c.command_changes.new.conn in
    let end = state g.S.Store c.changes_of_edits.new.conn in
    let act = c.in_ok-act.act in
    let lots = c.args.known_rows.lots.found.items in
    let edits = c.in_ok-edits.edits in
    let Needs : Tables → Type 0 = λ t. CanBePlanned t c.args.known_rows c.args.plan.now in
    blames_made start end edits _ (looks_then start mid end act (Ok edits) _ _ c.in_ok-act.ensures.gathers c.in_ok-edits.ensures.looks) Needs
    (blames_then start mid end act _ c.in_ok-act.ensures.gathers _ c.in_ok-act.ensures.blames (Ok edits) _ c.in_ok-edits.ensures.looks _ c.in_ok-edits.ensures.blames Needs
    (λ t stands kept can carry.
    let carries = carry can.found.own can.found.basis can.found.lots kept can.order can.fits in
    subst (λ xs. CanTakeEdits xs t c.deref-3.result.now) (sym (c.deref-2.ensures.value ∙ c.in_ok-extend_from_slice.ensures.items ∙ ap (λ xs. act.added.items ++ xs) c.deref.ensures.value))
    (subst (CanTakeEdits (act.added.items ++ lots) t) (sym c.deref-3.ensures.value) (edits_at_hand t c.args.plan.now act lots can.fits carries c.in_ok-act.ensures.fits can.found.lots.found can.lots))))
    c.joined.result _ (λ t stands kept can first. c.joined.ensures.memory (kept_numbers t kept c.args.plan.now can.fits))
