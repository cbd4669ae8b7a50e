use Rattle.std.proofs.Common.{◌≡◌, ◌⊎◌, All, take}
use Rattle.std.specs.List.{Any, Contains}
use Rattle.goo_types.specs.declared.lot_fields.LotFields.{LotFields}
use Rattle.goo_store_plans.proofs.edit_changes.note_lots.Given as goal

abbrev pub invariant-loop-piece : goal.invariant-loop-piece
invariant-loop-piece l = record {
  kept : (x : LotFields) → Contains l.fn.lots.items x → Contains l.lots.items x;
  only : (x : LotFields) → Contains l.lots.items x → Contains l.fn.lots.items x ⊎ Any (λ p. p.lot ≡ x) l.pieces;
  noted : All (λ p. Contains l.lots.items p.lot) (take l.piece-index l.pieces);
}
