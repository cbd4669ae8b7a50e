-- Changes that are gathered edit by edit.
use Rattle.std.specs.Prelude.{◌≡◌, ◌≤◌, ◌<◌, ◌^◌, ℕ, List, ◌++◌, All, get_or}
use Rattle.std.specs.List.{Any}
use Rattle.goo_types.specs.Piece.{IsForward}
use Rattle.goo_types.specs.declared.lot_fields.LotFields.{LotFields}
use Rattle.goo_types.specs.declared.piece.Piece.{Piece}
use Rattle.goo_ranges.specs.declared.edits.Edit.{Edit}
use Rattle.goo_tables_rows.specs.Rows.{Lot}
use Rattle.goo_store_plans.specs.EditChanges.{AreForEdit}
use Rattle.goo_store_plans.specs.LotNumbers.{AreNumbered}
use Rattle.goo_store_changes.specs.declared.table_change.TableChange.{TableChange}
use Rattle.goo_store_plans.specs.declared.lot_numbers.NumberedLot.{NumberedLot}

-- the changes of an edit are put behind, for any lots that have the numbers found
pub record AddsEdit (found : List NumberedLot) (edit : Edit) (before after : List TableChange) : Type 0 where
  pub front : List TableChange
  pub after_is : after ≡ before ++ front
  pub made : (lots : List Lot) → AreNumbered lots found → AreForEdit lots edit front

-- the lot has a number that a column keeps, among those found
abbrev pub HasNumber : List NumberedLot → LotFields → Type 0
HasNumber found lot = Any (λ known. (known.lot ≡ lot) × (known.number < 2 ^ 63)) found

-- it has none between two places
abbrev pub HasNoNumber : List NumberedLot → ℕ → ℕ → LotFields → Type 0
HasNoNumber found from to lot = (k : ℕ) (known : NumberedLot) → from ≤ k → k < to → known ≡ get_or found k known → ¬ ((known.lot ≡ lot) × (known.number < 2 ^ 63))

-- the piece runs forward, and its lot has a number
abbrev pub HasRowToBe : List NumberedLot → Piece → Type 0
HasRowToBe found p = IsForward p × HasNumber found p.lot

-- so does each piece that the edit inserts
abbrev pub CanBeTaken : List NumberedLot → Edit → Type 0
CanBeTaken found e = All (HasRowToBe found) e.insert.items
