-- What is found where the tables of a registry are looked for.
use Rattle.std.specs.Prelude.{◌≡◌, ◌⊎◌, ◌≤◌, ◌==◌, if◌then◌else◌, ℕ, false, List, [], ◌∷◌, map, None, Result, IfOk, IfErr, OnOk, IsTrue}
use Rattle.sqlite_disk.specs.Disk.{MoreFaults}
use Rattle.sqlite.specs.State.{State, HasCleanDisk}
use Rattle.sqlite.specs.Tree.{Trees}
use Rattle.sqlite.specs.declared.error.Error.{Error}
use Rattle.sqlite.specs.declared.error.Error.TheVariants.{SqliteFailure, SqlInputError, InvalidColumnIndex, InvalidColumnType, IntegralValueOutOfRange, Utf8Error}
use Rattle.sqlite.specs.declared.error.ErrorCode.TheVariants.{OutOfMemory}
use Rattle.sqlite.specs.Effect.{Database}
use Rattle.goo_tables_rows.specs.Rows.{Tables, Kept, Numbered, meta_row, meta_in, holder_in, account_in, device_in, declaration_in, lot_in, withdrawal_in, notice_out_in, notice_in_in, correction_in, device_carrier_in, lot_carrier_in, bare_device, bare_lot}
use Rattle.goo_tables_rows.specs.Stands.{Stands, Rests}
use Rattle.goo_tables_rows.specs.declared.meta.MetaRow.{MetaRow}
use Rattle.goo_spec_tables.specs.Readable.{is_receipt}
use Rattle.goo_store_receipts.specs.Judged.{judged_cancellation}
use Rattle.goo_store_receipts.specs.declared.receipts.JudgedReceipt.{JudgedReceipt}
use Rattle.goo_store_open.specs.Layout.{number_of, seen_by}
use Rattle.goo_store_open.specs.Reading.{CanBeRead, IsMet}
use Rattle.goo_store_open.specs.declared.fault.OpenFault.{OpenFault}
use Rattle.goo_store_open.specs.declared.fault.OpenFault.TheVariants.{NotARegistry, Version, Damaged, Store, Memory}
use Rattle.goo_store_open.specs.declared.finding.Found.{Found}
use Rattle.goo_store_open.specs.declared.layout.Layout.{Layout}

-- the values of rows under rowids of their own
abbrev pub values : {X : Type 0} → List (Kept X) → List X
values = map (λ k. k.1)

-- What was read is what these tables hold: of a receipt whether it keeps the rules, of a cancellation that, its number and its account, and
-- devices and lots without their carriers, which are read from tables of their own.
pub record AreOf (t : Tables) (x : Found) : Type 0 where
  pub meta : meta_in x.meta ≡ t.meta
  pub holders : map holder_in x.rows.members.holders.items ≡ values t.holders
  pub accounts : map account_in x.rows.members.accounts.items ≡ t.accounts
  pub peers : x.rows.members.peers.items ≡ values t.peers
  pub devices : map device_in x.rows.production.devices.items ≡ map bare_device (values t.devices)
  pub declarations : map declaration_in x.rows.production.declarations.items ≡ t.declarations
  pub lots : map lot_in x.rows.production.lots.items ≡ map bare_lot t.lots
  pub pieces : x.rows.production.pieces.items ≡ t.pieces
  pub receipts : map (λ (r : JudgedReceipt). r.is_good) x.rows.acts.receipts.items ≡ map is_receipt t.receipts
  pub cancellations : x.rows.acts.cancellations.items ≡ map judged_cancellation t.cancellations
  pub withdrawals : map withdrawal_in x.rows.acts.withdrawals.items ≡ t.withdrawals
  pub notices_out : map notice_out_in x.rows.notices.sent.items ≡ t.notices_out
  pub notices_in : map notice_in_in x.rows.notices.came.items ≡ values t.notices_in
  pub corrections : map correction_in x.rows.production.corrections.items ≡ t.corrections
  pub device_carriers : map device_carrier_in x.rows.carriers.devices.items ≡ values t.device_carriers
  pub lot_carriers : map lot_carrier_in x.rows.carriers.lots.items ≡ t.lot_carriers

-- the only row of `meta`, which tells the version of these tables
pub record ShowsMeta (layout : Layout) (db : Database) (m : MetaRow) : Type 0 where
  pub only : db.trees 0 ≡ meta_row (meta_in m) ∷ []
  pub version : m.version ≡ number_of layout

-- why rows of `meta` are not those of a registry that is read here: not one row, or not under the number 1, or of this version
abbrev pub row_fault : List Numbered → OpenFault
row_fault [] = NotARegistry
row_fault (row ∷ []) = if row.id == 1 then Version row.meta.version else NotARegistry
row_fault (row ∷ other ∷ rows) = NotARegistry

-- the database holds tables of the layout's version, and they are what was read
abbrev pub ShowsTables : Layout → Database → Found → Type 0
ShowsTables layout db x = (t : Tables) × Stands db t × AreOf t x × (t.meta.version ≡ number_of layout)

-- tables of this version whose values can be read
abbrev pub IsReadableIn : ℕ → Tables → Type 0
IsReadableIn number t = CanBeRead t × (t.meta.version ≡ number)

abbrev pub IsReadable : Tables → Type 0
IsReadable = IsReadableIn 2

-- the database failed, or memory did
abbrev pub IsOutside : OpenFault → Type 0
IsOutside f = (f ≡ Store) ⊎ (f ≡ Memory)

-- The word for tables that are refused: one from outside, `Damaged` where a value can't be read, or their version, which isn't the layout's.
abbrev pub IsWord : Layout → Tables → OpenFault → Type 0
IsWord layout t f = IsOutside f ⊎ (((f ≡ Damaged) × ¬ CanBeRead t) ⊎ ((f ≡ Version t.meta.version) × ¬ (t.meta.version ≡ number_of layout)))

-- The word for the error of a statement: for want of memory; the one that is given where a table or a column is missing; for a value that
-- can't be read; and for all others that of the store.
abbrev pub word_of : OpenFault → Error → OpenFault
word_of missing (SqliteFailure OutOfMemory) = Memory
word_of missing (SqlInputError cause) = missing
word_of missing (InvalidColumnIndex at) = Damaged
word_of missing (InvalidColumnType at kind) = Damaged
word_of missing (IntegralValueOutOfRange at) = Damaged
word_of missing (Utf8Error at) = Damaged
word_of missing _ = Store

-- the disk failed in this call, or an earlier failure had shut the connection
abbrev pub HasStoreFailed : State → State → Type 0
HasStoreFailed old new = MoreFaults old.faults new.faults ⊎ (old.is_open ≡ false)

-- A call that reads and changes nothing, as `OnlyReads`, whose refusals are words on the tables.
-- `blames`: `Store` is told only where the store failed, whatever the tables hold.
-- `right`: tables that can be read are refused for want of memory or a fault of the store alone.
pub record Finds {T : Type 0} (layout : Layout) (old new : State) (result : Result T OpenFault) (Shows : Database → T → Type 0) : Type 0 where
  pub clean : HasCleanDisk new → HasCleanDisk old
  pub outside : old.in_transaction ≡ false → new.in_transaction ≡ false
  pub rests : HasCleanDisk new → IsMet layout old → Rests old new
  pub works : OnOk result (HasCleanDisk new → IsTrue new.is_open)
  pub seen : HasCleanDisk new → IsMet layout old → IfOk result (Shows (seen_by layout old.now))
  pub crash : HasCleanDisk new → IsMet layout old → (db : Trees) → new.may_leave db → old.may_leave db
  pub counts : HasCleanDisk new → IsMet layout old → old.faults ≤ new.faults
  pub limit : HasCleanDisk new → IsMet layout old → new.step_limit ≡ old.step_limit
  pub right : HasCleanDisk new → IsMet layout old → old.step_limit ≡ None → (t : Tables) → Stands (seen_by layout old.now) t → IsReadableIn (number_of layout) t → IfErr result IsOutside
  pub words : HasCleanDisk new → IsMet layout old → old.step_limit ≡ None → (t : Tables) → Stands (seen_by layout old.now) t → IfErr result (IsWord layout t)
  pub blames : HasCleanDisk new → IsMet layout old → old.step_limit ≡ None → IfErr result (λ f. f ≡ Store → HasStoreFailed old new)
