use Rattle.std.proofs.Common.{◌≡◌, ◌++◌, append_assoc, map, All, Err, refl, ap, sym, subst, ◌∙◌, rules}
use Rattle.goo_store_plans.specs.EditsGathered.{HasRowToBe}
use Rattle.goo_store_plans.proofs.Taking.{handed}
use Rattle.goo_store_plans.specs.EditChanges.{AreRowsOf}
use Rattle.goo_store_changes.specs.declared.table_change.TableChange.TheVariants.{DeletePiece, InsertPiece}
use Rattle.goo_store_plans.proofs.LookUps.{on}
use Rattle.goo_store_plans.proofs.edit_changes.push_edit.Goals as goal

pub returns-clause-made : goal.returns-clause-made
returns-clause-made c =
    let before = c.args.changes.now.items in
    let deletes = map (λ k. DeletePiece k) c.args.edit.now.delete.items in
    let rows = c.in_ok-rows.rows.items in
    on c.push_inserts.result c.push_inserts.ensures.items (λ is. record {
      front = deletes ++ map (λ x. InsertPiece x) rows;
      after_is = is
          ∙ (λ i. (c.in_ok-push_deletes.ensures.items ∙ ap (λ ks. before ++ map (λ k. DeletePiece k) ks) c.deref-2.ensures.value) i ++ map (λ x. InsertPiece x) (c.deref-3.ensures.value i))
          ∙ append_assoc before deletes (map (λ x. InsertPiece x) rows);
      made = λ lots are. record { rows = rows; changes_are = refl; rows_are = subst (AreRowsOf lots rows) c.deref.ensures.value (c.in_ok-rows.ensures.rows lots are) };
    })

pub returns-in_err-rows-clause-memory : goal.returns-in_err-rows-clause-memory
returns-in_err-rows-clause-memory c all =
    let same : c.from_residual.result ≡ Err c.in_err-rows.field-0.0 = search rules in
    handed c.in_err-rows.field-0.0 c.from_residual.result same (c.in_err-rows.ensures.memory (subst (All (HasRowToBe c.args.found.now)) (sym c.deref.ensures.value) all))
