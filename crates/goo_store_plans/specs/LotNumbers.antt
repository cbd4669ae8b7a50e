-- The numbers under which the table keeps lots.
use Rattle.std.specs.Prelude.{◌≡◌, ◌⊎◌, ℕ, pos, List, All, Option, Some}
use Rattle.std.specs.FinMap.{get}
use Rattle.std.specs.List.{Any}
use Rattle.sqlite_keyed.specs.Keyed.{get_by}
use Rattle.goo_types.specs.declared.lot_fields.LotFields.{LotFields}
use Rattle.goo_spec.specs.Lots.{key_of}
use Rattle.goo_tables_rows.specs.Rows.{Lot, lot_key}
use Rattle.goo_spec_tables.specs.Places.{lot_of}
use Rattle.goo_store_plans.specs.NewLots.{known_lots}
use Rattle.goo_store_plans.specs.declared.lot_numbers.NumberedLot.{NumberedLot}

-- a row of the lot stands under the number
pub record IsNumberOf (lots : List Lot) (n : ℕ) (lot : LotFields) : Type 0 where
  pub row : Lot
  pub there : get_by lot_key lots (pos n) ≡ Some row
  pub states : lot_of row ≡ lot

abbrev pub AreNumbered : List Lot → List NumberedLot → Type 0
AreNumbered lots xs = All (λ x. IsNumberOf lots x.number x.lot) xs

-- the rows that were there are there, and those of the lots that are added
pub record AreWith (before : List Lot) (added : List NumberedLot) (lots : List Lot) : Type 0 where
  pub kept : (n : ℕ) (row : Lot) → get_by lot_key before (pos n) ≡ Some row → get_by lot_key lots (pos n) ≡ Some row
  pub added_are : AreNumbered lots added

-- the rows make the lot known
abbrev pub IsKnownBy : List Lot → LotFields → Type 0
IsKnownBy lots lot = get (known_lots lots) (key_of lot) ≡ Some lot

-- so they are, and no other lot is known by them
pub record AreJustWith (before : List Lot) (added : List NumberedLot) (lots : List Lot) : Type 0 where
  pub with : AreWith before added lots
  pub only : (lot : LotFields) → IsKnownBy lots lot → Any (λ x. x.lot ≡ lot) added ⊎ IsKnownBy before lot

-- a row was found, it has the number, and it states the lot
pub record IsRowOfLot (found : Option Lot) (n : ℕ) (lot : LotFields) : Type 0 where
  pub row : Lot
  pub found_is : found ≡ Some row
  pub number : row.id ≡ n
  pub states : lot_of row ≡ lot
