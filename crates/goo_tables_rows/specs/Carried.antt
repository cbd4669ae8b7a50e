-- The carriers of devices and lots, which stand in tables of their own, and only where they are another than electricity.
use Rattle.std.specs.Prelude.{◌≡◌, ℕ, pos, List, find, Option, None, option_map}
use Rattle.std.specs.List.{AllByRecursion}
use Rattle.sqlite_typed.specs.Tests.{bytes_eq}
use Rattle.sqlite_keyed.specs.Keyed.{get_by}
use Rattle.goo_tables_rows.specs.Cells.{Kept}
use Rattle.goo_tables_rows.specs.LaterRows.{DeviceCarrier, LotCarrier, lot_carrier_key}
use Rattle.goo_tables_rows.specs.PlantRows.{Device, Lot}

-- the word that is kept for a device
abbrev pub carrier_of_device : List (Kept DeviceCarrier) → List ℕ → Option (List ℕ)
carrier_of_device carriers gsrn = option_map (λ k. k.1.carrier) (find (λ k. bytes_eq k.1.gsrn gsrn) carriers)

-- the word that is kept for a lot
abbrev pub carrier_of_lot : List LotCarrier → ℕ → Option (List ℕ)
carrier_of_lot carriers id = option_map (λ c. c.carrier) (get_by lot_carrier_key carriers (pos id))

-- a device and a lot with the words that are kept for them
abbrev pub carried_device : List (Kept DeviceCarrier) → Kept Device → Kept Device
carried_device carriers k = (k.0, record k.1 { carrier = carrier_of_device carriers k.1.gsrn })

abbrev pub carried_lot : List LotCarrier → Lot → Lot
carried_lot carriers l = record l { carrier = carrier_of_lot carriers l.id }

-- each has the word that is kept for it
abbrev pub AreCarriedDevices : List (Kept DeviceCarrier) → List (Kept Device) → Type 0
AreCarriedDevices carriers devices = AllByRecursion (λ k. k.1.carrier ≡ carrier_of_device carriers k.1.gsrn) devices

abbrev pub AreCarriedLots : List LotCarrier → List Lot → Type 0
AreCarriedLots carriers lots = AllByRecursion (λ l. l.carrier ≡ carrier_of_lot carriers l.id) lots

-- as they are read without their carriers
abbrev pub bare_device : Device → Device
bare_device d = record d { carrier = None }

abbrev pub bare_lot : Lot → Lot
bare_lot l = record l { carrier = None }
