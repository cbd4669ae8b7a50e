-- When a database holds the tables, and what a call on it leaves.
use Rattle.std.specs.Prelude.{◌≡◌, ◌≤◌, ℕ, ℤ, Bool, List, [], ◌∷◌, map, IsTrue, false, ◌&&◌, Result, IfOk, OnOk}
use Rattle.sqlite.specs.State.{State, HasCleanDisk, Survives}
use Rattle.sqlite.specs.declared.error.Error.{Error}
use Rattle.sqlite.specs.Tree.{Trees}
use Rattle.sqlite.specs.Order.{Row}
use Rattle.sqlite.specs.Effect.{Database, IsDatabase}
use Rattle.sqlite_trees.specs.View.{doubt}
use Rattle.sqlite_keyed.specs.Keyed.{IsKeyedBy}
use Rattle.goo_tables_rows.specs.Columns.{registry_schema}
use Rattle.goo_tables_rows.specs.Rows.{Tables, kept_key, meta_row, holder_row, account_row, account_key, device_row, declaration_row, declaration_key, lot_row, lot_key, piece_row, piece_key, peer_row, receipt_row, cancellation_row, cancellation_key, withdrawal_row, withdrawal_key, notice_out_row, notice_out_key, notice_in_row, correction_row, correction_key, device_carrier_row, lot_carrier_row, lot_carrier_key, AreCarriedDevices, AreCarriedLots}

-- the rows of a table are these, in the order of the key
pub record Keeps {X : Type 0} (rows : List Row) (to_row : X → Row) (key : X → ℤ) (xs : List X) : Type 0 where
  pub are : rows ≡ map to_row xs
  pub rise : IsKeyedBy key xs

-- the database holds the tables, and nothing else
pub record Stands (db : Database) (t : Tables) : Type 0 where
  pub schema : db.schema ≡ registry_schema
  pub meta : db.trees 0 ≡ meta_row t.meta ∷ []
  pub holders : Keeps (db.trees 1) holder_row kept_key t.holders
  pub accounts : Keeps (db.trees 3) account_row account_key t.accounts
  pub devices : Keeps (db.trees 4) device_row kept_key t.devices
  pub declarations : Keeps (db.trees 6) declaration_row declaration_key t.declarations
  pub lots : Keeps (db.trees 8) lot_row lot_key t.lots
  pub pieces : Keeps (db.trees 10) piece_row piece_key t.pieces
  pub peers : Keeps (db.trees 11) peer_row kept_key t.peers
  pub receipts : Keeps (db.trees 13) receipt_row kept_key t.receipts
  pub cancellations : Keeps (db.trees 15) cancellation_row cancellation_key t.cancellations
  pub withdrawals : Keeps (db.trees 16) withdrawal_row withdrawal_key t.withdrawals
  pub notices_out : Keeps (db.trees 17) notice_out_row notice_out_key t.notices_out
  pub notices_in : Keeps (db.trees 18) notice_in_row kept_key t.notices_in
  pub corrections : Keeps (db.trees 22) correction_row correction_key t.corrections
  pub device_carriers : Keeps (db.trees 23) device_carrier_row kept_key t.device_carriers
  pub lot_carriers : Keeps (db.trees 25) lot_carrier_row lot_carrier_key t.lot_carriers
  -- devices and lots have the carriers that the last two tables keep
  pub devices_carried : AreCarriedDevices t.device_carriers t.devices
  pub lots_carried : AreCarriedLots t.lot_carriers t.lots

-- trees that hold the tables
abbrev pub Holds : Tables → Trees → Type 0
Holds t trees = Stands (record { schema = registry_schema; trees = trees }) t

-- the trees list the registry's tables and indexes, and obey them: what is opened over them has this schema
abbrev pub AreOurs : Trees → Type 0
AreOurs trees = ∥ IsDatabase (record { schema = registry_schema; trees = trees }) ∥₁

-- trees that hold the tables and, where the connection was open that they were committed by, list them
abbrev pub HoldsOurs : Bool → Tables → Trees → Type 0
HoldsOurs was_open t trees = Holds t trees × (IsTrue was_open → AreOurs trees)

-- the tables as `create_tables` leaves them: each of them is there and has no row
pub record IsBare (db : Database) : Type 0 where
  pub schema : db.schema ≡ registry_schema
  pub meta : db.trees 0 ≡ []
  pub holders : db.trees 1 ≡ []
  pub accounts : db.trees 3 ≡ []
  pub devices : db.trees 4 ≡ []
  pub declarations : db.trees 6 ≡ []
  pub lots : db.trees 8 ≡ []
  pub pieces : db.trees 10 ≡ []
  pub peers : db.trees 11 ≡ []
  pub receipts : db.trees 13 ≡ []
  pub cancellations : db.trees 15 ≡ []
  pub withdrawals : db.trees 16 ≡ []
  pub notices_out : db.trees 17 ≡ []
  pub notices_in : db.trees 18 ≡ []
  pub corrections : db.trees 22 ≡ []
  pub device_carriers : db.trees 23 ≡ []
  pub lot_carriers : db.trees 25 ≡ []

-- inside a transaction that sees these tables
pub record Sees (s : State) (t : Tables) : Type 0 where
  pub inside : IsTrue s.in_transaction
  pub stands : Stands s.now t

-- outside a transaction, with these tables committed
pub record Settled (s : State) (t : Tables) : Type 0 where
  pub outside : s.in_transaction ≡ false
  pub stands : Stands s.now t
  pub committed : s.committed ≡ s.now

-- what is seen is committed
abbrev pub IsSettled : State → Type 0
IsSettled s = IsTrue s.is_open → s.now ≡ s.committed

-- 0 while the connection works and its disk has returned what was written
unfoldable pub defects : State → ℕ
defects s = doubt (s.is_clean && s.is_open)

-- a call that leaves the database as it was
pub record Rests (old new : State) : Type 0 where
  pub was_open : IsTrue new.is_open → IsTrue old.is_open
  pub now : IsTrue new.is_open → new.now ≡ old.now
  pub committed : IsTrue new.is_open → new.committed ≡ old.committed

-- A look-up: what it finds is right of the tables, and it changes nothing, whether it succeeds or not.
-- `found` and `rests` are of a disk that has returned what was written; `crash` is of any. The last two ask that the tables are ours, and nothing of their rows.
pub record Looks {T : Type 0} (old new : State) (result : Result T Error) (right : Tables → T → Type 0) : Type 0 where
  pub found : HasCleanDisk new → (t : Tables) → Stands old.now t → IfOk result (right t)
  pub clean : doubt old.is_clean ≤ doubt new.is_clean
  pub works : OnOk result (HasCleanDisk new → IsTrue new.is_open)
  pub was_open : HasCleanDisk new → IsTrue new.is_open → IsTrue old.is_open
  pub rests : HasCleanDisk new → old.now.schema ≡ registry_schema → IsSettled old → Rests old new
  pub crash : old.now.schema ≡ registry_schema → Survives old new (λ _. ⊥)
