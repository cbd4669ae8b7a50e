use Rattle.std.proofs.Common.{◌≡◌, ◌<◌, ◌+◌, [], ◌++◌, Err, append-nil, drop, length, refl, sym, subst, ◌∙◌, arith, rules}
use Rattle.goo_store_plans.specs.EditsGathered.{CanBeTaken}
use Rattle.goo_store_plans.proofs.Taking.{handed}
use Rattle.std.proofs.lemmas.List.{drop_more, drop_all}
use Rattle.std.proofs.Common.{ap, ◌∷◌}
use Rattle.goo_store_plans.specs.EditChanges.{AreForEdits}
use Rattle.goo_store_plans.proofs.RowsGathered.{edit_more}
use Rattle.goo_store_plans.proofs.edit_changes.edit_changes.Goals as goal

pub loop-edit-preserved : goal.loop-edit-preserved
loop-edit-preserved c =
    let edits = c.args.edits.now in
    let i = c.loop-edit.edit-index in
    let e = c.edit-item.result in
    let it = c.in_ok-push_edit.ensures.made in
    let low : i < length edits = omega (arith, c.loop-edit-test.true) in
    record {
      made = λ lots are more left.
          subst (λ cs. AreForEdits lots edits (cs ++ more)) (sym it.after_is)
          (edit_more lots (drop i edits) e (drop (i + 1) edits) edits c.loop-edit.changes.items it.front (drop_more edits i e low ∙ ap (λ x. x ∷ drop (i + 1) edits) (sym c.edit-item.is))
          (c.loop-edit.invariant.made lots are) (it.made lots are) more left);
      fits = c.in_ok-push_edit.ensures.fits c.loop-edit.invariant.fits;
    }

pub returns-clause-made : goal.returns-clause-made
returns-clause-made c lots are =
    subst (AreForEdits lots c.args.edits.now) (append-nil c.loop-edit.changes.items)
    (c.loop-edit.invariant.made lots are [] (subst (λ es. AreForEdits lots es []) (sym (drop_all c.loop-edit.edit-index c.args.edits.now c.loop-edit-test.false)) refl))

pub returns-in_err-push_edit-clause-memory : goal.returns-in_err-push_edit-clause-memory
returns-in_err-push_edit-clause-memory c all =
    let low : c.loop-edit.edit-index < length c.args.edits.now = omega (arith, c.loop-edit-test.true) in
    let same : c.from_residual.result ≡ Err c.in_err-push_edit.field-0.0 = search rules in
    handed c.in_err-push_edit.field-0.0 c.from_residual.result same (c.in_err-push_edit.ensures.memory (subst (CanBeTaken c.args.found.now) (sym c.edit-item.is) (all c.loop-edit.edit-index c.edit-item.result low)))
