-- Devices and lots, and the rows of their carriers, each by itself.
use Rattle.std.specs.Prelude.{◌≡◌, List, map, Result, OnOk, IsTrue}
use Rattle.sqlite.specs.State.{State, HasCleanDisk}
use Rattle.sqlite.specs.Order.{Row}
use Rattle.sqlite.specs.declared.error.Error.{Error}
use Rattle.sqlite_keyed.specs.Keyed.{insert_by}
use Rattle.goo_tables_rows.specs.Columns.{registry_schema}
use Rattle.goo_tables_rows.specs.Met.{KeepsSome}
use Rattle.goo_tables_rows.specs.Rows.{Tables, Device, device_row, DeviceCarrier, Lot, lot_row, lot_key, LotCarrier, lot_carrier_key, bare_device, bare_lot}
use Rattle.goo_tables_rows.specs.Stands.{Keeps}
use Rattle.goo_tables_accounts.specs.Changes.{added}

-- a device's carrier
abbrev pub with_device_carrier : Tables → DeviceCarrier → Tables
with_device_carrier t x = record t { device_carriers = added t.device_carriers x }

-- a device, whose carrier is there if it has one
abbrev pub with_device_row : Tables → Device → Tables
with_device_row t x = record t { devices = added t.devices x }

-- a lot's carrier
abbrev pub with_lot_carrier : Tables → LotCarrier → Tables
with_lot_carrier t x = record t { lot_carriers = insert_by lot_carrier_key t.lot_carriers x }

-- a lot, whose carrier is there if it has one
abbrev pub with_lot_row : Tables → Lot → Tables
with_lot_row t x = record t { lots = insert_by lot_key t.lots x }

-- a change that succeeds leaves a transaction on our tables
abbrev pub StaysOurs : {T : Type 0} → State → State → Result T Error → Type 0
StaysOurs old new result =
    HasCleanDisk new → IsTrue old.in_transaction → old.now.schema ≡ registry_schema → OnOk result (IsTrue new.in_transaction × (new.now.schema ≡ registry_schema))

-- the rows keep these, which are read without their carriers
abbrev pub KeepsBareDevices : List Row → List Device → Type 0
KeepsBareDevices rows xs = KeepsSome rows device_row xs × (xs ≡ map bare_device xs)

abbrev pub KeepsBareLots : List Row → List Lot → Type 0
KeepsBareLots rows xs = Keeps rows lot_row lot_key xs × (xs ≡ map bare_lot xs)
