-- Rows that can be read, where their own values are not all that is asked of them.
use Rattle.std.specs.Prelude.{IsTrue}
use Rattle.goo_types.specs.Lot.{IsLot}
use Rattle.goo_tables_rows.specs.Rows.{Lot}
use Rattle.goo_spec_tables.specs.Places.{lot_of}
use Rattle.goo_spec_tables.specs.Readable.{is_lot}

-- a lot, by its values and by the rules on its days
pub record IsReadableLot (l : Lot) : Type 0 where
  pub values : IsTrue (is_lot l)
  pub days : IsLot (lot_of l)
