use Rattle.std.proofs.Common.{◌≡◌, All, take}
use Rattle.std.specs.List.{Any, Contains}
use Rattle.goo_types.specs.declared.lot_fields.LotFields.{LotFields}
use Rattle.goo_store_plans.proofs.edit_changes.lots_inserted.Given as goal

abbrev pub invariant-loop-edit : goal.invariant-loop-edit
invariant-loop-edit l = record {
  noted : All (λ e. All (λ p. Contains l.lots.items p.lot) e.insert.items) (take l.edit-index l.edits);
  only : (x : LotFields) → Contains l.lots.items x → Any (λ e. Any (λ p. p.lot ≡ x) e.insert.items) l.edits;
}
