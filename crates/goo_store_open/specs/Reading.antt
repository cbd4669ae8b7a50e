-- What a call that only reads the tables says.
use Rattle.std.specs.Prelude.{◌≡◌, ◌⊎◌, ◌≤◌, false, pos, [], ◌∷◌, All, map, None, Result, IfOk, IfErr, OnOk, IsTrue}
use Rattle.sqlite.specs.State.{State, HasCleanDisk}
use Rattle.sqlite.specs.Tree.{Trees}
use Rattle.sqlite.specs.Effect.{Database}
use Rattle.sqlite.specs.declared.types.Value.TheVariants.{Int}
use Rattle.sqlite.specs.declared.error.Error.{Error}
use Rattle.goo_tables_rows.specs.Rows.{Tables, meta_columns, holder_columns, account_columns, device_columns, declaration_columns, lot_columns, piece_columns, peer_columns, receipt_columns, cancellation_columns, withdrawal_columns, notice_out_columns, notice_in_columns, correction_columns, device_carrier_columns, lot_carrier_columns}
use Rattle.goo_tables_rows.specs.Stands.{Stands, Rests, IsSettled}
use Rattle.goo_tables_rows.specs.Refused.{IsFault}
use Rattle.goo_tables_rows.specs.Readable.{is_read_error, numbered_meta_readable, holder_readable, account_readable, device_readable, declaration_readable, lot_readable, piece_readable, peer_readable, receipt_readable, cancellation_readable, withdrawal_readable, notice_out_readable, notice_in_readable, correction_readable, device_carrier_readable, lot_carrier_readable}
use Rattle.goo_store_open.specs.Layout.{schema_of, HasTables, seen_by}
use Rattle.goo_store_open.specs.declared.layout.Layout.{Layout}

-- each value is one that its column's reader takes: a number of its size, a text in UTF-8
pub record CanBeRead (t : Tables) : Type 0 where
  pub meta : All numbered_meta_readable (map (λ m. Int (pos 1) ∷ meta_columns m) (t.meta ∷ []))
  pub holders : All holder_readable (map (λ k. holder_columns k.1) t.holders)
  pub accounts : All account_readable (map account_columns t.accounts)
  pub devices : All device_readable (map (λ k. device_columns k.1) t.devices)
  pub declarations : All declaration_readable (map declaration_columns t.declarations)
  pub lots : All (lot_readable 0) (map lot_columns t.lots)
  pub pieces : All piece_readable (map piece_columns t.pieces)
  pub peers : All peer_readable (map (λ k. peer_columns k.1) t.peers)
  pub receipts : All receipt_readable (map (λ k. receipt_columns k.1) t.receipts)
  pub cancellations : All cancellation_readable (map cancellation_columns t.cancellations)
  pub withdrawals : All withdrawal_readable (map withdrawal_columns t.withdrawals)
  pub notices_out : All notice_out_readable (map notice_out_columns t.notices_out)
  pub notices_in : All notice_in_readable (map (λ k. notice_in_columns k.1) t.notices_in)
  pub corrections : All correction_readable (map correction_columns t.corrections)
  pub device_carriers : All device_carrier_readable (map (λ k. device_carrier_columns k.1) t.device_carriers)
  pub lot_carriers : All lot_carrier_readable (map lot_carrier_columns t.lot_carriers)

-- tables of this layout with whatever rows, which an open connection keeps to their keys and checks, and nothing that waits for a commit
pub record IsMet (layout : Layout) (s : State) : Type 0 where
  pub schema : s.now.schema ≡ schema_of layout
  pub ours : IsTrue s.is_open → HasTables layout s.now
  pub settled : IsSettled s

-- Everything is said of a disk that has returned what was written.
-- `seen` is what was found, in the database as it was and is; `rests` holds after an error too; `crash`: a crash finds nothing new;
-- `outside`: no transaction is begun; `refused`: an error is a fault of memory or of the store, or tells of a value that can't be read;
-- `faulty`: over tables that can be read, it is a fault of memory or of the store.
pub record OnlyReads {T : Type 0} (layout : Layout) (old new : State) (result : Result T Error) (Shows : Database → T → Type 0) : Type 0 where
  pub clean : HasCleanDisk new → HasCleanDisk old
  pub outside : old.in_transaction ≡ false → new.in_transaction ≡ false
  pub rests : HasCleanDisk new → IsMet layout old → Rests old new
  pub works : OnOk result (HasCleanDisk new → IsTrue new.is_open)
  pub seen : HasCleanDisk new → IsMet layout old → IfOk result (Shows (seen_by layout old.now))
  pub crash : HasCleanDisk new → IsMet layout old → (db : Trees) → new.may_leave db → old.may_leave db
  pub counts : HasCleanDisk new → IsMet layout old → old.faults ≤ new.faults
  pub limit : HasCleanDisk new → IsMet layout old → new.step_limit ≡ old.step_limit
  pub refused : HasCleanDisk new → IsMet layout old → old.step_limit ≡ None → IfErr result (λ e. IsFault old new e ⊎ IsTrue (is_read_error e))
  pub faulty : HasCleanDisk new → IsMet layout old → old.step_limit ≡ None → (t : Tables) → Stands (seen_by layout old.now) t → CanBeRead t → IfErr result (IsFault old new)
