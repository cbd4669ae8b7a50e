-- The rowids that the tables have left.
use Rattle.std.specs.Prelude.{List, All, IsTrue}
use Rattle.sqlite.specs.Ops.{fits_i64}
use Rattle.sqlite_keyed.specs.Keyed.{next_key}
use Rattle.goo_tables_rows.specs.Rows.{Tables, Kept, kept_key}

-- the next rowid, one above the last, fits in 64 bits
abbrev pub HasRowid : {X : Type 0} → List (Kept X) → Type 0
HasRowid rows = IsTrue (fits_i64 (next_key kept_key rows))

-- each of the six tables that choose their rowids has one left, and the devices, whose rows are changed, have such
pub record HaveRowids (t : Tables) : Type 0 where
  pub holders : HasRowid t.holders
  pub devices : HasRowid t.devices
  pub device_carriers : HasRowid t.device_carriers
  pub devices_there : All (λ k. IsTrue (fits_i64 (kept_key k))) t.devices
  pub peers : HasRowid t.peers
  pub receipts : HasRowid t.receipts
  pub notices_in : HasRowid t.notices_in
