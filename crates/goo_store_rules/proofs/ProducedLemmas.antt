-- What the rows of devices keep, by trees and by declarations and corrections.
use Rattle.std.proofs.Common.{◌≡◌, ◌%◌, ◌-◌, ℕ, List, [], ◌∷◌, map, All, None, sym, ap, ◌∙◌}
use Rattle.std.specs.BTreeMap.{BTreeMap, get}
use Rattle.std.proofs.lemmas.List.Elements.{All-nil, All-cons, All-head, All-tail}
use Rattle.goo_types.specs.Day.{CalendarDay}
use Rattle.goo_types.specs.declared.command.Declare.{Declare}
use Rattle.goo_spec.specs.Declare.{declared_by, last_end}
use Rattle.goo_spec.specs.Energy.{certificate}
use Rattle.goo_spec.specs.State.{Correction, text_cmp}
use Rattle.goo_tables_rows.specs.Rows.{device_in}
use Rattle.goo_tables_rows.specs.declared.device.DeviceRow.{DeviceRow}
use Rattle.goo_store_rules.specs.Production.{HasProgress, HasItsProgress, left_by}
use Rattle.goo_store_rules.specs.Summing.{left_at, KeepsEnergy}
use Rattle.goo_store_rules.specs.declared.energy.Energy.{Energy}

-- what is left by the sums is what is left
pub left_is : (xs : List Declare) (cs : List Correction) (e : Energy) → KeepsEnergy xs cs e → (q : List ℕ) → left_at e q ≡ left_by xs cs q
left_is xs cs e are q = λ i. are.declared q i - are.lowered q i

module _ (xs : List Declare) (cs : List Correction) (ends : BTreeMap (List ℕ) CalendarDay) (energy : Energy) (are_ends : (q : List ℕ) → get text_cmp ends q ≡ last_end None (declared_by q xs)) (are_sums : KeepsEnergy xs cs energy) where
  abbrev Keeps : DeviceRow → Type 0
  Keeps row = HasProgress (get text_cmp ends) (left_at energy) (device_in row)

  pub progress_of_trees : (rows : List DeviceRow) → All Keeps rows → All (HasItsProgress xs cs) (map device_in rows)
  progress_of_trees [] all = All-nil (HasItsProgress xs cs)
  progress_of_trees (row ∷ rows) all =
      let here = All-head Keeps row rows all in
      All-cons (HasItsProgress xs cs) (device_in row) (map device_in rows)
      (record { last_day = here.last_day ∙ are_ends (device_in row).gsrn; carry = here.carry ∙ ap (λ n. n % certificate) (left_is xs cs energy are_sums (device_in row).gsrn) })
      (progress_of_trees rows (All-tail Keeps row rows all))

  pub progress_in_trees : (rows : List DeviceRow) → All (HasItsProgress xs cs) (map device_in rows) → All Keeps rows
  progress_in_trees [] all = All-nil Keeps
  progress_in_trees (row ∷ rows) all =
      let here = All-head (HasItsProgress xs cs) (device_in row) (map device_in rows) all in
      All-cons Keeps row rows
      (record { last_day = here.last_day ∙ sym (are_ends (device_in row).gsrn); carry = here.carry ∙ ap (λ n. n % certificate) (sym (left_is xs cs energy are_sums (device_in row).gsrn)) })
      (progress_in_trees rows (All-tail (HasItsProgress xs cs) (device_in row) (map device_in rows) all))
