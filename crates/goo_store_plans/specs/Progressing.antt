-- The last accepted period of a device and its carry, in its row.
use Rattle.std.specs.Prelude.{◌≡◌, ℕ, true, All, IsSome, List, filter}
use Rattle.sqlite_typed.specs.Tests.{bytes_eq}
use Rattle.goo_types.specs.Day.{CalendarDay, day_reading}
use Rattle.goo_tables_rows.specs.Once.{IsOnce}
use Rattle.goo_tables_rows.specs.Refused.{CanBeKept}
use Rattle.goo_tables_rows.specs.Rows as row
use Rattle.goo_tables_rows.specs.Rows.{Tables}
use Rattle.goo_tables_accounts.specs.Changes.{progressed, with_progress}
use Rattle.goo_spec_tables.specs.Devices.{device_row, progress_in}
use Rattle.goo_spec_tables.specs.Readable.{reads}
use Rattle.goo_spec_tables.specs.Texts.{day_of}
use Rattle.goo_store_changes.specs.Changes.{made, IsFor, IsFree, HasRoom}
use Rattle.goo_store_changes.specs.declared.table_change.TableChange.{TableChange}

-- the change sets the last day of the device's last period, and its carry, in the one row of the device
pub record SetsProgress (device : List ℕ) (day : CalendarDay) (carry : ℕ) (c : TableChange) : Type 0 where
  pub last_day : List ℕ
  pub made_is : (t : Tables) → made t c ≡ with_progress t device last_day carry
  pub for : (t : Tables) → IsOnce (filter (λ k. bytes_eq k.1.gsrn device) t.devices) → IsFor t c
  pub free : (t : Tables) → IsOnce (filter (λ k. bytes_eq k.1.gsrn device) t.devices) → IsFree t c
  pub room : (t : Tables) → All (λ k. CanBeKept (row.device_row (progressed last_day carry k))) t.devices → HasRoom t c
  pub ends : day_of last_day ≡ day
  pub ends_read : reads (day_reading last_day) ≡ true

-- the device has an accepted period
abbrev pub HasEnded : Tables → List ℕ → Type 0
HasEnded t gsrn = IsSome (progress_in (device_row t.devices gsrn)).last_day
