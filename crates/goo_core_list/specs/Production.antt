-- What devices declared, in memory: beside the list of declarations, each device's last day and its sum.
use Rattle.std.specs.Prelude.{◌≡◌, ◌≤◌, ◌*◌, ◌^◌, ℕ, List, length, Option, Some, None, sum_by}
use Rattle.std.specs.FinMap.{FinMap, get}
use Rattle.goo_types.specs.Day.{CalendarDay}
use Rattle.goo_types.specs.declared.command.Declare.{Declare}
use Rattle.goo_spec.specs.State.{text_cmp}
use Rattle.goo_spec.specs.Declare.{declared_by, last_end}
use Rattle.goo_spec.specs.Energy.{net_of}
use Rattle.goo_core_list.specs.declared.listed_declarations.Produced.{Produced}

-- the watt-hours that the device declared, less those of its auxiliaries
abbrev pub net_by : List ℕ → List Declare → ℕ
net_by device xs = sum_by (net_of device) xs

abbrev pub last_day_in : Option Produced → Option CalendarDay
last_day_in None = None
last_day_in (Some p) = Some p.last_day

abbrev pub net_in : Option Produced → ℕ
net_in None = 0
net_in (Some p) = p.net

-- what is kept of each device is what its declarations come to
pub record AddsUp (xs : List Declare) (devices : FinMap text_cmp Produced) : Type 0 where
  pub last_day : (device : List ℕ) → last_day_in (get devices device) ≡ last_end None (declared_by device xs)
  pub net : (device : List ℕ) → net_in (get devices device) ≡ net_by device xs
  -- a declaration has at most 10 ^ 15 Wh
  pub small : (device : List ℕ) → net_by device xs ≤ 10 ^ 15 * length xs
