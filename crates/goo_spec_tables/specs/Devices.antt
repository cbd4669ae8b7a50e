-- The devices and the declarations that rows stand for.
use Rattle.std.specs.Prelude.{ℕ, List, find, Option, Some, None, option_map}
use Rattle.sqlite_typed.specs.Tests.{bytes_eq}
use Rattle.goo_types.specs.declared.command.Declare.{Declare}
use Rattle.goo_spec.specs.State.{Device}
use Rattle.goo_core_shelf.specs.declared.found.DeviceRecord.{DeviceRecord}
use Rattle.goo_core_shelf.specs.declared.found.Progress.{Progress}
use Rattle.goo_tables_rows.specs.Rows as row
use Rattle.goo_tables_rows.specs.Rows.{Kept}
use Rattle.goo_spec_tables.specs.Texts.{day_of, support_of, carrier_of}

abbrev pub device_of : row.Device → Device
device_of d = record {
  account = d.account;
  country = d.plant.country;
  site = d.plant.site;
  tech = d.plant.tech;
  source = d.plant.source;
  capacity_w = d.plant.capacity_w;
  commissioned = day_of d.plant.commissioned;
  support = support_of d.plant.support;
  carrier = carrier_of d.carrier;
}

-- a device under its number
abbrev pub device_entry : row.Device → List ℕ × Device
device_entry d = (d.gsrn, device_of d)

abbrev pub declaration_of : row.Declaration → Declare
declaration_of d = record { device = d.device; first_day = day_of d.first_day; last_day = day_of d.last_day; gross = d.gross; aux = d.aux }

-- what the row of a device tells of its declarations
abbrev pub progress_in : Option row.Device → Progress
progress_in None = record { last_day = None; carry = 0 }
progress_in (Some d) = record { last_day = option_map day_of d.last_day; carry = d.carry }

-- what the row of a device tells of it
abbrev pub record_in : Option row.Device → Option DeviceRecord
record_in found = option_map (λ d. record { device = device_of d; progress = progress_in (Some d) }) found

-- the row of a device
abbrev pub device_row : List (Kept row.Device) → List ℕ → Option row.Device
device_row devices gsrn = option_map (λ k. k.1) (find (λ k. bytes_eq k.1.gsrn gsrn) devices)
