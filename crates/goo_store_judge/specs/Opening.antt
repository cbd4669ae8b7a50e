-- What opening a registry says.
use Rattle.std.specs.Prelude.{◌≡◌, ◌⊎◌, ℕ, false, None, Result, IfOk, IfErr, OnOk, IsTrue}
use Rattle.sqlite_disk.specs.Disk.{MoreFaults}
use Rattle.sqlite.specs.State.{State, HasCleanDisk}
use Rattle.sqlite.specs.Tree.{Trees}
use Rattle.goo_tables_rows.specs.Rows.{Tables}
use Rattle.goo_tables_rows.specs.Stands.{Stands, Rests}
use Rattle.goo_spec_tables.specs.Kept.{AreKeptIn}
use Rattle.goo_store_open.specs.Found.{IsOutside}
use Rattle.goo_store_open.specs.Layout.{number_of, seen_by}
use Rattle.goo_store_open.specs.Reading.{CanBeRead, IsMet}
use Rattle.goo_store_open.specs.declared.layout.Layout.{Layout}
use Rattle.goo_store_open.specs.declared.fault.OpenFault.{OpenFault}
use Rattle.goo_store_open.specs.declared.fault.OpenFault.TheVariants.{Version, Damaged, Store}

-- The word for tables of a version that are refused: one from outside; `Damaged` where they don't keep the rules, and are of that version if
-- they can be read at all; or their version, which isn't that.
abbrev pub IsRefusalIn : ℕ → Tables → OpenFault → Type 0
IsRefusalIn number t f = IsOutside f ⊎ (((f ≡ Damaged) × (¬ AreKeptIn number t × (CanBeRead t → t.meta.version ≡ number))) ⊎ ((f ≡ Version t.meta.version) × ¬ (t.meta.version ≡ number)))

abbrev pub IsRefusal : Tables → OpenFault → Type 0
IsRefusal = IsRefusalIn 2

-- On a connection that works and whose disk has returned what was written, with no limit on steps: `Store` is told only where the disk
-- failed in this call. So want of memory is told as `Memory`, and what the tables hold by a word on them.
abbrev pub BlamesOpening : State → State → OpenFault → Type 0
BlamesOpening old new f = HasCleanDisk new → IsTrue old.is_open → old.step_limit ≡ None → f ≡ Store → MoreFaults old.faults new.faults

-- Tables of a version are judged, and nothing is changed. `kept`: those that are accepted keep the rules, and what is told is so of them; `right`: tables
-- that keep the rules are refused for want of memory or a fault of the store alone. `blames`: the store is blamed only where its disk failed, whatever they hold.
pub record Judges {T : Type 0} (layout : Layout) (old new : State) (result : Result T OpenFault) (Tells : Tables → T → Type 0) : Type 0 where
  pub clean : HasCleanDisk new → HasCleanDisk old
  pub outside : old.in_transaction ≡ false → new.in_transaction ≡ false
  pub rests : HasCleanDisk new → IsMet layout old → Rests old new
  pub works : OnOk result (HasCleanDisk new → IsTrue new.is_open)
  pub kept : HasCleanDisk new → IsMet layout old → IfOk result (λ x. (t : Tables) × Stands (seen_by layout old.now) t × AreKeptIn (number_of layout) t × Tells t x)
  pub right : HasCleanDisk new → IsMet layout old → old.step_limit ≡ None → (t : Tables) → Stands (seen_by layout old.now) t → AreKeptIn (number_of layout) t → IfErr result IsOutside
  pub words : HasCleanDisk new → IsMet layout old → old.step_limit ≡ None → (t : Tables) → Stands (seen_by layout old.now) t → IfErr result (IsRefusalIn (number_of layout) t)
  pub crash : HasCleanDisk new → IsMet layout old → (db : Trees) → new.may_leave db → old.may_leave db
  pub blames : (HasCleanDisk new → IsMet layout old) → IfErr result (BlamesOpening old new)
