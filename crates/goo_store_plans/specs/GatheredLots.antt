-- Changes that put lots in, one after another.
use Rattle.std.specs.Prelude.{◌≡◌, ◌+◌, true, List, [], ◌∷◌, ◌++◌, map}
use Rattle.goo_types.specs.declared.lot_fields.LotFields.{LotFields}
use Rattle.goo_types.specs.declared.part.Part.{Part}
use Rattle.goo_tables_rows.specs.Rows.{Lot, lot_in}
use Rattle.goo_tables_rows.specs.declared.lot.LotRow.{LotRow}
use Rattle.goo_spec_tables.specs.Kept.{IsKeptLot}
use Rattle.goo_spec_tables.specs.Places.{lot_of}
use Rattle.goo_spec_tables.specs.Readable.{is_lot}
use Rattle.goo_store_plans.specs.LotRows.{AreGathered}
use Rattle.goo_store_changes.specs.declared.table_change.TableChange.TheVariants.{AddLot}
use Rattle.goo_store_plans.specs.declared.gathered_lots.Gathered.{Gathered}

-- a row of the lot is put in, under the next number
pub record AddsLot (lot : LotFields) (before after : Gathered) : Type 0 where
  pub row : LotRow
  pub changes : after.changes.items ≡ before.changes.items ++ AddLot row ∷ []
  pub added : after.added.items ≡ before.added.items ++ record { number = before.next; lot = lot } ∷ []
  pub next : after.next ≡ before.next + 1
  pub id : row.id ≡ before.next
  pub states : lot_of (lot_in row) ≡ lot
  pub reads : is_lot (lot_in row) ≡ true
  pub kept : IsKeptLot (lot_in row)

-- the changes put in what is gathered
pub record ArePutIn (lots : List Lot) (all left : List Part) (g : Gathered) : Type 0 where
  pub rows : List LotRow
  pub changes : g.changes.items ≡ map (λ r. AddLot r) rows
  pub gathered : AreGathered lots all left (map lot_in rows) g.added.items g.next

-- one part after another
abbrev pub Gathers : List Lot → Part → Gathered → Gathered → Type 0
Gathers lots part before after = (all left : List Part) → ArePutIn lots all (part ∷ left) before → ArePutIn lots all left after
