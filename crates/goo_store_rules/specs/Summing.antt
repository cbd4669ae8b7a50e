-- Sums that are kept by device.
use Rattle.std.specs.Prelude.{◌≡◌, ℕ, ◌-◌, List, Option, Some, None, sum_by}
use Rattle.std.specs.BTreeMap.{BTreeMap, get}
use Rattle.goo_types.specs.declared.command.Declare.{Declare}
use Rattle.goo_spec.specs.Energy.{net_of, less_of}
use Rattle.goo_spec.specs.State.{Correction, text_cmp}
use Rattle.goo_store_rules.specs.declared.energy.Energy.{Energy}

-- no sum yet is 0
abbrev pub amount : Option ℕ → ℕ
amount None = 0
amount (Some n) = n

-- the sum that stands under a device
abbrev pub sum_at : BTreeMap (List ℕ) ℕ → List ℕ → ℕ
sum_at sums device = amount (get text_cmp sums device)

-- each device's sums are the energy of its declarations, and what its corrections took off
pub record KeepsEnergy (xs : List Declare) (cs : List Correction) (e : Energy) : Type 0 where
  pub declared : (device : List ℕ) → sum_at e.declared device ≡ sum_by (net_of device) xs
  pub lowered : (device : List ℕ) → sum_at e.lowered device ≡ sum_by (less_of device) cs

-- what is left of a device's energy, by these sums
abbrev pub left_at : Energy → List ℕ → ℕ
left_at e device = sum_at e.declared device - sum_at e.lowered device
