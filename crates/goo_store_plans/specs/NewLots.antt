-- The lots that are put in for the parts of a notice.
use Rattle.std.specs.Prelude.{◌≡◌, ◌⊎◌, true, false, List, [], ◌∷◌, map, None}
use Rattle.std.specs.FinMap.{FinMap, get, contains_key, from_entries}
use Rattle.sqlite_keyed.specs.Keyed.{has_key, insert_by}
use Rattle.goo_types.specs.declared.lot_fields.LotFields.{LotFields}
use Rattle.goo_types.specs.declared.part.Part.{Part}
use Rattle.goo_spec.specs.Lots.{key_of}
use Rattle.goo_spec.specs.State.{text_cmp}
use Rattle.goo_tables_rows.specs.Rows.{Lot, lot_key}
use Rattle.goo_spec_tables.specs.Kept.{IsKeptLot}
use Rattle.goo_spec_tables.specs.Places.{lot_of}
use Rattle.goo_spec_tables.specs.Readable.{is_lot}
use Rattle.goo_spec_tables.specs.States.{known_lot}

abbrev pub known_lots : List Lot → FinMap text_cmp LotFields
known_lots lots = from_entries {R = text_cmp} (map known_lot lots)

-- the row of a lot that isn't known yet, under a number that no lot has
pub record IsNewLot (lots : List Lot) (lot : LotFields) (l : Lot) : Type 0 where
  pub states : lot_of l ≡ lot
  pub unknown : get (known_lots lots) (key_of lot) ≡ None
  pub fresh : has_key lot_key lots (lot_key l) ≡ false
  pub reads : is_lot l ≡ true
  pub kept : IsKeptLot l

-- nothing is put in for a part whose lot is known by then, and one row for any other
abbrev pub AreNewLots : List Lot → List Part → List Lot → Type 0
AreNewLots lots [] new = new ≡ []
AreNewLots lots (p ∷ ps) new =
    ((contains_key (known_lots lots) (key_of p.lot) ≡ true) × AreNewLots lots ps new)
    ⊎ ((l : Lot) × (rest : List Lot) × (new ≡ l ∷ rest) × IsNewLot lots p.lot l × AreNewLots (insert_by lot_key lots l) ps rest)
