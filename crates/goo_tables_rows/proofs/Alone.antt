-- A change of one table's rows, and the tables that the database holds afterwards.
use Rattle.std.proofs.Common.{◌≡◌, ◌≢◌, ℕ, ℤ, List, [], ◌∷◌, ◌∙◌, arith}
use Rattle.std.specs.List.{AllByRecursion}
use Rattle.sqlite.specs.Order.{Row}
use Rattle.sqlite.specs.Tree.{Trees}
use Rattle.sqlite.specs.Effect.{Database}
use Rattle.sqlite.specs.Table.{Table}
use Rattle.goo_tables_rows.specs.Columns.{registry_schema, registry_tables}
use Rattle.goo_tables_rows.specs.Rows.{Tables, Meta, meta_row, kept_key, Kept, holder_row, Holder, account_row, account_key, Account, device_row, Device, declaration_row, declaration_key, Declaration, lot_row, lot_key, Lot, piece_row, piece_key, peer_row, receipt_row, Receipt, cancellation_row, cancellation_key, Cancellation, withdrawal_row, withdrawal_key, Withdrawal, notice_out_row, notice_out_key, NoticeOut, notice_in_row, NoticeIn, Correction, correction_row, correction_key, DeviceCarrier, device_carrier_row, LotCarrier, lot_carrier_row, lot_carrier_key, AreCarriedDevices, AreCarriedLots}
use Rattle.goo_tables_rows.specs.declared.piece.PieceRow.{PieceRow}
use Rattle.goo_tables_rows.specs.declared.peer.PeerRow.{PeerRow}
use Rattle.goo_tables_rows.specs.Stands.{Stands, Keeps, IsBare}

-- each table but the one in this tree has the rows that it had
abbrev pub IsAlone : ℕ → Trees → Trees → Type 0
IsAlone tree old new = AllByRecursion (λ (t : Table). t.tree ≢ tree → new t.tree ≡ old t.tree) registry_tables

same_rows : {X : Type 0} {old new : List Row} {to_row : X → Row} {key : X → ℤ} {xs : List X} → new ≡ old → Keeps old to_row key xs → Keeps new to_row key xs
same_rows same it = record { are = same ∙ it.are; rise = it.rise }

module _ (old new : Database) (t : Tables) (it : Stands old t) (schema : new.schema ≡ registry_schema) where
  pub with_meta_stands : IsAlone 0 old.trees new.trees → (m : Meta) → new.trees 0 ≡ meta_row m ∷ [] → Stands new (record t { meta = m })
  with_meta_stands others m is = record {
    schema = schema;
    meta = is;
    holders = same_rows (others.1.0 (λ e. omega (arith, e))) it.holders;
    accounts = same_rows (others.1.1.0 (λ e. omega (arith, e))) it.accounts;
    devices = same_rows (others.1.1.1.0 (λ e. omega (arith, e))) it.devices;
    declarations = same_rows (others.1.1.1.1.0 (λ e. omega (arith, e))) it.declarations;
    lots = same_rows (others.1.1.1.1.1.0 (λ e. omega (arith, e))) it.lots;
    pieces = same_rows (others.1.1.1.1.1.1.0 (λ e. omega (arith, e))) it.pieces;
    peers = same_rows (others.1.1.1.1.1.1.1.0 (λ e. omega (arith, e))) it.peers;
    receipts = same_rows (others.1.1.1.1.1.1.1.1.0 (λ e. omega (arith, e))) it.receipts;
    cancellations = same_rows (others.1.1.1.1.1.1.1.1.1.0 (λ e. omega (arith, e))) it.cancellations;
    withdrawals = same_rows (others.1.1.1.1.1.1.1.1.1.1.0 (λ e. omega (arith, e))) it.withdrawals;
    notices_out = same_rows (others.1.1.1.1.1.1.1.1.1.1.1.0 (λ e. omega (arith, e))) it.notices_out;
    notices_in = same_rows (others.1.1.1.1.1.1.1.1.1.1.1.1.0 (λ e. omega (arith, e))) it.notices_in;
    corrections = same_rows (others.1.1.1.1.1.1.1.1.1.1.1.1.1.0 (λ e. omega (arith, e))) it.corrections;
    device_carriers = same_rows (others.1.1.1.1.1.1.1.1.1.1.1.1.1.1.0 (λ e. omega (arith, e))) it.device_carriers;
    lot_carriers = same_rows (others.1.1.1.1.1.1.1.1.1.1.1.1.1.1.1.0 (λ e. omega (arith, e))) it.lot_carriers;
    devices_carried = it.devices_carried;
    lots_carried = it.lots_carried;
  }

  pub holders_stand : IsAlone 1 old.trees new.trees → (xs : List (Kept Holder)) → Keeps (new.trees 1) holder_row kept_key xs → Stands new (record t { holders = xs })
  holders_stand others xs is = record {
    schema = schema;
    meta = others.0 (λ e. omega (arith, e)) ∙ it.meta;
    holders = is;
    accounts = same_rows (others.1.1.0 (λ e. omega (arith, e))) it.accounts;
    devices = same_rows (others.1.1.1.0 (λ e. omega (arith, e))) it.devices;
    declarations = same_rows (others.1.1.1.1.0 (λ e. omega (arith, e))) it.declarations;
    lots = same_rows (others.1.1.1.1.1.0 (λ e. omega (arith, e))) it.lots;
    pieces = same_rows (others.1.1.1.1.1.1.0 (λ e. omega (arith, e))) it.pieces;
    peers = same_rows (others.1.1.1.1.1.1.1.0 (λ e. omega (arith, e))) it.peers;
    receipts = same_rows (others.1.1.1.1.1.1.1.1.0 (λ e. omega (arith, e))) it.receipts;
    cancellations = same_rows (others.1.1.1.1.1.1.1.1.1.0 (λ e. omega (arith, e))) it.cancellations;
    withdrawals = same_rows (others.1.1.1.1.1.1.1.1.1.1.0 (λ e. omega (arith, e))) it.withdrawals;
    notices_out = same_rows (others.1.1.1.1.1.1.1.1.1.1.1.0 (λ e. omega (arith, e))) it.notices_out;
    notices_in = same_rows (others.1.1.1.1.1.1.1.1.1.1.1.1.0 (λ e. omega (arith, e))) it.notices_in;
    corrections = same_rows (others.1.1.1.1.1.1.1.1.1.1.1.1.1.0 (λ e. omega (arith, e))) it.corrections;
    device_carriers = same_rows (others.1.1.1.1.1.1.1.1.1.1.1.1.1.1.0 (λ e. omega (arith, e))) it.device_carriers;
    lot_carriers = same_rows (others.1.1.1.1.1.1.1.1.1.1.1.1.1.1.1.0 (λ e. omega (arith, e))) it.lot_carriers;
    devices_carried = it.devices_carried;
    lots_carried = it.lots_carried;
  }

  pub accounts_stand : IsAlone 3 old.trees new.trees → (xs : List Account) → Keeps (new.trees 3) account_row account_key xs → Stands new (record t { accounts = xs })
  accounts_stand others xs is = record {
    schema = schema;
    meta = others.0 (λ e. omega (arith, e)) ∙ it.meta;
    holders = same_rows (others.1.0 (λ e. omega (arith, e))) it.holders;
    accounts = is;
    devices = same_rows (others.1.1.1.0 (λ e. omega (arith, e))) it.devices;
    declarations = same_rows (others.1.1.1.1.0 (λ e. omega (arith, e))) it.declarations;
    lots = same_rows (others.1.1.1.1.1.0 (λ e. omega (arith, e))) it.lots;
    pieces = same_rows (others.1.1.1.1.1.1.0 (λ e. omega (arith, e))) it.pieces;
    peers = same_rows (others.1.1.1.1.1.1.1.0 (λ e. omega (arith, e))) it.peers;
    receipts = same_rows (others.1.1.1.1.1.1.1.1.0 (λ e. omega (arith, e))) it.receipts;
    cancellations = same_rows (others.1.1.1.1.1.1.1.1.1.0 (λ e. omega (arith, e))) it.cancellations;
    withdrawals = same_rows (others.1.1.1.1.1.1.1.1.1.1.0 (λ e. omega (arith, e))) it.withdrawals;
    notices_out = same_rows (others.1.1.1.1.1.1.1.1.1.1.1.0 (λ e. omega (arith, e))) it.notices_out;
    notices_in = same_rows (others.1.1.1.1.1.1.1.1.1.1.1.1.0 (λ e. omega (arith, e))) it.notices_in;
    corrections = same_rows (others.1.1.1.1.1.1.1.1.1.1.1.1.1.0 (λ e. omega (arith, e))) it.corrections;
    device_carriers = same_rows (others.1.1.1.1.1.1.1.1.1.1.1.1.1.1.0 (λ e. omega (arith, e))) it.device_carriers;
    lot_carriers = same_rows (others.1.1.1.1.1.1.1.1.1.1.1.1.1.1.1.0 (λ e. omega (arith, e))) it.lot_carriers;
    devices_carried = it.devices_carried;
    lots_carried = it.lots_carried;
  }

  pub devices_stand : IsAlone 4 old.trees new.trees → (xs : List (Kept Device)) → Keeps (new.trees 4) device_row kept_key xs → AreCarriedDevices t.device_carriers xs → Stands new (record t { devices = xs })
  devices_stand others xs is carried = record {
    schema = schema;
    meta = others.0 (λ e. omega (arith, e)) ∙ it.meta;
    holders = same_rows (others.1.0 (λ e. omega (arith, e))) it.holders;
    accounts = same_rows (others.1.1.0 (λ e. omega (arith, e))) it.accounts;
    devices = is;
    declarations = same_rows (others.1.1.1.1.0 (λ e. omega (arith, e))) it.declarations;
    lots = same_rows (others.1.1.1.1.1.0 (λ e. omega (arith, e))) it.lots;
    pieces = same_rows (others.1.1.1.1.1.1.0 (λ e. omega (arith, e))) it.pieces;
    peers = same_rows (others.1.1.1.1.1.1.1.0 (λ e. omega (arith, e))) it.peers;
    receipts = same_rows (others.1.1.1.1.1.1.1.1.0 (λ e. omega (arith, e))) it.receipts;
    cancellations = same_rows (others.1.1.1.1.1.1.1.1.1.0 (λ e. omega (arith, e))) it.cancellations;
    withdrawals = same_rows (others.1.1.1.1.1.1.1.1.1.1.0 (λ e. omega (arith, e))) it.withdrawals;
    notices_out = same_rows (others.1.1.1.1.1.1.1.1.1.1.1.0 (λ e. omega (arith, e))) it.notices_out;
    notices_in = same_rows (others.1.1.1.1.1.1.1.1.1.1.1.1.0 (λ e. omega (arith, e))) it.notices_in;
    corrections = same_rows (others.1.1.1.1.1.1.1.1.1.1.1.1.1.0 (λ e. omega (arith, e))) it.corrections;
    device_carriers = same_rows (others.1.1.1.1.1.1.1.1.1.1.1.1.1.1.0 (λ e. omega (arith, e))) it.device_carriers;
    lot_carriers = same_rows (others.1.1.1.1.1.1.1.1.1.1.1.1.1.1.1.0 (λ e. omega (arith, e))) it.lot_carriers;
    devices_carried = carried;
    lots_carried = it.lots_carried;
  }

  pub declarations_stand : IsAlone 6 old.trees new.trees → (xs : List Declaration) → Keeps (new.trees 6) declaration_row declaration_key xs → Stands new (record t { declarations = xs })
  declarations_stand others xs is = record {
    schema = schema;
    meta = others.0 (λ e. omega (arith, e)) ∙ it.meta;
    holders = same_rows (others.1.0 (λ e. omega (arith, e))) it.holders;
    accounts = same_rows (others.1.1.0 (λ e. omega (arith, e))) it.accounts;
    devices = same_rows (others.1.1.1.0 (λ e. omega (arith, e))) it.devices;
    declarations = is;
    lots = same_rows (others.1.1.1.1.1.0 (λ e. omega (arith, e))) it.lots;
    pieces = same_rows (others.1.1.1.1.1.1.0 (λ e. omega (arith, e))) it.pieces;
    peers = same_rows (others.1.1.1.1.1.1.1.0 (λ e. omega (arith, e))) it.peers;
    receipts = same_rows (others.1.1.1.1.1.1.1.1.0 (λ e. omega (arith, e))) it.receipts;
    cancellations = same_rows (others.1.1.1.1.1.1.1.1.1.0 (λ e. omega (arith, e))) it.cancellations;
    withdrawals = same_rows (others.1.1.1.1.1.1.1.1.1.1.0 (λ e. omega (arith, e))) it.withdrawals;
    notices_out = same_rows (others.1.1.1.1.1.1.1.1.1.1.1.0 (λ e. omega (arith, e))) it.notices_out;
    notices_in = same_rows (others.1.1.1.1.1.1.1.1.1.1.1.1.0 (λ e. omega (arith, e))) it.notices_in;
    corrections = same_rows (others.1.1.1.1.1.1.1.1.1.1.1.1.1.0 (λ e. omega (arith, e))) it.corrections;
    device_carriers = same_rows (others.1.1.1.1.1.1.1.1.1.1.1.1.1.1.0 (λ e. omega (arith, e))) it.device_carriers;
    lot_carriers = same_rows (others.1.1.1.1.1.1.1.1.1.1.1.1.1.1.1.0 (λ e. omega (arith, e))) it.lot_carriers;
    devices_carried = it.devices_carried;
    lots_carried = it.lots_carried;
  }

  pub lots_stand : IsAlone 8 old.trees new.trees → (xs : List Lot) → Keeps (new.trees 8) lot_row lot_key xs → AreCarriedLots t.lot_carriers xs → Stands new (record t { lots = xs })
  lots_stand others xs is carried = record {
    schema = schema;
    meta = others.0 (λ e. omega (arith, e)) ∙ it.meta;
    holders = same_rows (others.1.0 (λ e. omega (arith, e))) it.holders;
    accounts = same_rows (others.1.1.0 (λ e. omega (arith, e))) it.accounts;
    devices = same_rows (others.1.1.1.0 (λ e. omega (arith, e))) it.devices;
    declarations = same_rows (others.1.1.1.1.0 (λ e. omega (arith, e))) it.declarations;
    lots = is;
    pieces = same_rows (others.1.1.1.1.1.1.0 (λ e. omega (arith, e))) it.pieces;
    peers = same_rows (others.1.1.1.1.1.1.1.0 (λ e. omega (arith, e))) it.peers;
    receipts = same_rows (others.1.1.1.1.1.1.1.1.0 (λ e. omega (arith, e))) it.receipts;
    cancellations = same_rows (others.1.1.1.1.1.1.1.1.1.0 (λ e. omega (arith, e))) it.cancellations;
    withdrawals = same_rows (others.1.1.1.1.1.1.1.1.1.1.0 (λ e. omega (arith, e))) it.withdrawals;
    notices_out = same_rows (others.1.1.1.1.1.1.1.1.1.1.1.0 (λ e. omega (arith, e))) it.notices_out;
    notices_in = same_rows (others.1.1.1.1.1.1.1.1.1.1.1.1.0 (λ e. omega (arith, e))) it.notices_in;
    corrections = same_rows (others.1.1.1.1.1.1.1.1.1.1.1.1.1.0 (λ e. omega (arith, e))) it.corrections;
    device_carriers = same_rows (others.1.1.1.1.1.1.1.1.1.1.1.1.1.1.0 (λ e. omega (arith, e))) it.device_carriers;
    lot_carriers = same_rows (others.1.1.1.1.1.1.1.1.1.1.1.1.1.1.1.0 (λ e. omega (arith, e))) it.lot_carriers;
    devices_carried = it.devices_carried;
    lots_carried = carried;
  }

  pub pieces_stand : IsAlone 10 old.trees new.trees → (xs : List PieceRow) → Keeps (new.trees 10) piece_row piece_key xs → Stands new (record t { pieces = xs })
  pieces_stand others xs is = record {
    schema = schema;
    meta = others.0 (λ e. omega (arith, e)) ∙ it.meta;
    holders = same_rows (others.1.0 (λ e. omega (arith, e))) it.holders;
    accounts = same_rows (others.1.1.0 (λ e. omega (arith, e))) it.accounts;
    devices = same_rows (others.1.1.1.0 (λ e. omega (arith, e))) it.devices;
    declarations = same_rows (others.1.1.1.1.0 (λ e. omega (arith, e))) it.declarations;
    lots = same_rows (others.1.1.1.1.1.0 (λ e. omega (arith, e))) it.lots;
    pieces = is;
    peers = same_rows (others.1.1.1.1.1.1.1.0 (λ e. omega (arith, e))) it.peers;
    receipts = same_rows (others.1.1.1.1.1.1.1.1.0 (λ e. omega (arith, e))) it.receipts;
    cancellations = same_rows (others.1.1.1.1.1.1.1.1.1.0 (λ e. omega (arith, e))) it.cancellations;
    withdrawals = same_rows (others.1.1.1.1.1.1.1.1.1.1.0 (λ e. omega (arith, e))) it.withdrawals;
    notices_out = same_rows (others.1.1.1.1.1.1.1.1.1.1.1.0 (λ e. omega (arith, e))) it.notices_out;
    notices_in = same_rows (others.1.1.1.1.1.1.1.1.1.1.1.1.0 (λ e. omega (arith, e))) it.notices_in;
    corrections = same_rows (others.1.1.1.1.1.1.1.1.1.1.1.1.1.0 (λ e. omega (arith, e))) it.corrections;
    device_carriers = same_rows (others.1.1.1.1.1.1.1.1.1.1.1.1.1.1.0 (λ e. omega (arith, e))) it.device_carriers;
    lot_carriers = same_rows (others.1.1.1.1.1.1.1.1.1.1.1.1.1.1.1.0 (λ e. omega (arith, e))) it.lot_carriers;
    devices_carried = it.devices_carried;
    lots_carried = it.lots_carried;
  }

  pub peers_stand : IsAlone 11 old.trees new.trees → (xs : List (Kept PeerRow)) → Keeps (new.trees 11) peer_row kept_key xs → Stands new (record t { peers = xs })
  peers_stand others xs is = record {
    schema = schema;
    meta = others.0 (λ e. omega (arith, e)) ∙ it.meta;
    holders = same_rows (others.1.0 (λ e. omega (arith, e))) it.holders;
    accounts = same_rows (others.1.1.0 (λ e. omega (arith, e))) it.accounts;
    devices = same_rows (others.1.1.1.0 (λ e. omega (arith, e))) it.devices;
    declarations = same_rows (others.1.1.1.1.0 (λ e. omega (arith, e))) it.declarations;
    lots = same_rows (others.1.1.1.1.1.0 (λ e. omega (arith, e))) it.lots;
    pieces = same_rows (others.1.1.1.1.1.1.0 (λ e. omega (arith, e))) it.pieces;
    peers = is;
    receipts = same_rows (others.1.1.1.1.1.1.1.1.0 (λ e. omega (arith, e))) it.receipts;
    cancellations = same_rows (others.1.1.1.1.1.1.1.1.1.0 (λ e. omega (arith, e))) it.cancellations;
    withdrawals = same_rows (others.1.1.1.1.1.1.1.1.1.1.0 (λ e. omega (arith, e))) it.withdrawals;
    notices_out = same_rows (others.1.1.1.1.1.1.1.1.1.1.1.0 (λ e. omega (arith, e))) it.notices_out;
    notices_in = same_rows (others.1.1.1.1.1.1.1.1.1.1.1.1.0 (λ e. omega (arith, e))) it.notices_in;
    corrections = same_rows (others.1.1.1.1.1.1.1.1.1.1.1.1.1.0 (λ e. omega (arith, e))) it.corrections;
    device_carriers = same_rows (others.1.1.1.1.1.1.1.1.1.1.1.1.1.1.0 (λ e. omega (arith, e))) it.device_carriers;
    lot_carriers = same_rows (others.1.1.1.1.1.1.1.1.1.1.1.1.1.1.1.0 (λ e. omega (arith, e))) it.lot_carriers;
    devices_carried = it.devices_carried;
    lots_carried = it.lots_carried;
  }

  pub receipts_stand : IsAlone 13 old.trees new.trees → (xs : List (Kept Receipt)) → Keeps (new.trees 13) receipt_row kept_key xs → Stands new (record t { receipts = xs })
  receipts_stand others xs is = record {
    schema = schema;
    meta = others.0 (λ e. omega (arith, e)) ∙ it.meta;
    holders = same_rows (others.1.0 (λ e. omega (arith, e))) it.holders;
    accounts = same_rows (others.1.1.0 (λ e. omega (arith, e))) it.accounts;
    devices = same_rows (others.1.1.1.0 (λ e. omega (arith, e))) it.devices;
    declarations = same_rows (others.1.1.1.1.0 (λ e. omega (arith, e))) it.declarations;
    lots = same_rows (others.1.1.1.1.1.0 (λ e. omega (arith, e))) it.lots;
    pieces = same_rows (others.1.1.1.1.1.1.0 (λ e. omega (arith, e))) it.pieces;
    peers = same_rows (others.1.1.1.1.1.1.1.0 (λ e. omega (arith, e))) it.peers;
    receipts = is;
    cancellations = same_rows (others.1.1.1.1.1.1.1.1.1.0 (λ e. omega (arith, e))) it.cancellations;
    withdrawals = same_rows (others.1.1.1.1.1.1.1.1.1.1.0 (λ e. omega (arith, e))) it.withdrawals;
    notices_out = same_rows (others.1.1.1.1.1.1.1.1.1.1.1.0 (λ e. omega (arith, e))) it.notices_out;
    notices_in = same_rows (others.1.1.1.1.1.1.1.1.1.1.1.1.0 (λ e. omega (arith, e))) it.notices_in;
    corrections = same_rows (others.1.1.1.1.1.1.1.1.1.1.1.1.1.0 (λ e. omega (arith, e))) it.corrections;
    device_carriers = same_rows (others.1.1.1.1.1.1.1.1.1.1.1.1.1.1.0 (λ e. omega (arith, e))) it.device_carriers;
    lot_carriers = same_rows (others.1.1.1.1.1.1.1.1.1.1.1.1.1.1.1.0 (λ e. omega (arith, e))) it.lot_carriers;
    devices_carried = it.devices_carried;
    lots_carried = it.lots_carried;
  }

  pub cancellations_stand : IsAlone 15 old.trees new.trees → (xs : List Cancellation) → Keeps (new.trees 15) cancellation_row cancellation_key xs → Stands new (record t { cancellations = xs })
  cancellations_stand others xs is = record {
    schema = schema;
    meta = others.0 (λ e. omega (arith, e)) ∙ it.meta;
    holders = same_rows (others.1.0 (λ e. omega (arith, e))) it.holders;
    accounts = same_rows (others.1.1.0 (λ e. omega (arith, e))) it.accounts;
    devices = same_rows (others.1.1.1.0 (λ e. omega (arith, e))) it.devices;
    declarations = same_rows (others.1.1.1.1.0 (λ e. omega (arith, e))) it.declarations;
    lots = same_rows (others.1.1.1.1.1.0 (λ e. omega (arith, e))) it.lots;
    pieces = same_rows (others.1.1.1.1.1.1.0 (λ e. omega (arith, e))) it.pieces;
    peers = same_rows (others.1.1.1.1.1.1.1.0 (λ e. omega (arith, e))) it.peers;
    receipts = same_rows (others.1.1.1.1.1.1.1.1.0 (λ e. omega (arith, e))) it.receipts;
    cancellations = is;
    withdrawals = same_rows (others.1.1.1.1.1.1.1.1.1.1.0 (λ e. omega (arith, e))) it.withdrawals;
    notices_out = same_rows (others.1.1.1.1.1.1.1.1.1.1.1.0 (λ e. omega (arith, e))) it.notices_out;
    notices_in = same_rows (others.1.1.1.1.1.1.1.1.1.1.1.1.0 (λ e. omega (arith, e))) it.notices_in;
    corrections = same_rows (others.1.1.1.1.1.1.1.1.1.1.1.1.1.0 (λ e. omega (arith, e))) it.corrections;
    device_carriers = same_rows (others.1.1.1.1.1.1.1.1.1.1.1.1.1.1.0 (λ e. omega (arith, e))) it.device_carriers;
    lot_carriers = same_rows (others.1.1.1.1.1.1.1.1.1.1.1.1.1.1.1.0 (λ e. omega (arith, e))) it.lot_carriers;
    devices_carried = it.devices_carried;
    lots_carried = it.lots_carried;
  }

  pub withdrawals_stand : IsAlone 16 old.trees new.trees → (xs : List Withdrawal) → Keeps (new.trees 16) withdrawal_row withdrawal_key xs → Stands new (record t { withdrawals = xs })
  withdrawals_stand others xs is = record {
    schema = schema;
    meta = others.0 (λ e. omega (arith, e)) ∙ it.meta;
    holders = same_rows (others.1.0 (λ e. omega (arith, e))) it.holders;
    accounts = same_rows (others.1.1.0 (λ e. omega (arith, e))) it.accounts;
    devices = same_rows (others.1.1.1.0 (λ e. omega (arith, e))) it.devices;
    declarations = same_rows (others.1.1.1.1.0 (λ e. omega (arith, e))) it.declarations;
    lots = same_rows (others.1.1.1.1.1.0 (λ e. omega (arith, e))) it.lots;
    pieces = same_rows (others.1.1.1.1.1.1.0 (λ e. omega (arith, e))) it.pieces;
    peers = same_rows (others.1.1.1.1.1.1.1.0 (λ e. omega (arith, e))) it.peers;
    receipts = same_rows (others.1.1.1.1.1.1.1.1.0 (λ e. omega (arith, e))) it.receipts;
    cancellations = same_rows (others.1.1.1.1.1.1.1.1.1.0 (λ e. omega (arith, e))) it.cancellations;
    withdrawals = is;
    notices_out = same_rows (others.1.1.1.1.1.1.1.1.1.1.1.0 (λ e. omega (arith, e))) it.notices_out;
    notices_in = same_rows (others.1.1.1.1.1.1.1.1.1.1.1.1.0 (λ e. omega (arith, e))) it.notices_in;
    corrections = same_rows (others.1.1.1.1.1.1.1.1.1.1.1.1.1.0 (λ e. omega (arith, e))) it.corrections;
    device_carriers = same_rows (others.1.1.1.1.1.1.1.1.1.1.1.1.1.1.0 (λ e. omega (arith, e))) it.device_carriers;
    lot_carriers = same_rows (others.1.1.1.1.1.1.1.1.1.1.1.1.1.1.1.0 (λ e. omega (arith, e))) it.lot_carriers;
    devices_carried = it.devices_carried;
    lots_carried = it.lots_carried;
  }

  pub notices_out_stand : IsAlone 17 old.trees new.trees → (xs : List NoticeOut) → Keeps (new.trees 17) notice_out_row notice_out_key xs → Stands new (record t { notices_out = xs })
  notices_out_stand others xs is = record {
    schema = schema;
    meta = others.0 (λ e. omega (arith, e)) ∙ it.meta;
    holders = same_rows (others.1.0 (λ e. omega (arith, e))) it.holders;
    accounts = same_rows (others.1.1.0 (λ e. omega (arith, e))) it.accounts;
    devices = same_rows (others.1.1.1.0 (λ e. omega (arith, e))) it.devices;
    declarations = same_rows (others.1.1.1.1.0 (λ e. omega (arith, e))) it.declarations;
    lots = same_rows (others.1.1.1.1.1.0 (λ e. omega (arith, e))) it.lots;
    pieces = same_rows (others.1.1.1.1.1.1.0 (λ e. omega (arith, e))) it.pieces;
    peers = same_rows (others.1.1.1.1.1.1.1.0 (λ e. omega (arith, e))) it.peers;
    receipts = same_rows (others.1.1.1.1.1.1.1.1.0 (λ e. omega (arith, e))) it.receipts;
    cancellations = same_rows (others.1.1.1.1.1.1.1.1.1.0 (λ e. omega (arith, e))) it.cancellations;
    withdrawals = same_rows (others.1.1.1.1.1.1.1.1.1.1.0 (λ e. omega (arith, e))) it.withdrawals;
    notices_out = is;
    notices_in = same_rows (others.1.1.1.1.1.1.1.1.1.1.1.1.0 (λ e. omega (arith, e))) it.notices_in;
    corrections = same_rows (others.1.1.1.1.1.1.1.1.1.1.1.1.1.0 (λ e. omega (arith, e))) it.corrections;
    device_carriers = same_rows (others.1.1.1.1.1.1.1.1.1.1.1.1.1.1.0 (λ e. omega (arith, e))) it.device_carriers;
    lot_carriers = same_rows (others.1.1.1.1.1.1.1.1.1.1.1.1.1.1.1.0 (λ e. omega (arith, e))) it.lot_carriers;
    devices_carried = it.devices_carried;
    lots_carried = it.lots_carried;
  }

  pub notices_in_stand : IsAlone 18 old.trees new.trees → (xs : List (Kept NoticeIn)) → Keeps (new.trees 18) notice_in_row kept_key xs → Stands new (record t { notices_in = xs })
  notices_in_stand others xs is = record {
    schema = schema;
    meta = others.0 (λ e. omega (arith, e)) ∙ it.meta;
    holders = same_rows (others.1.0 (λ e. omega (arith, e))) it.holders;
    accounts = same_rows (others.1.1.0 (λ e. omega (arith, e))) it.accounts;
    devices = same_rows (others.1.1.1.0 (λ e. omega (arith, e))) it.devices;
    declarations = same_rows (others.1.1.1.1.0 (λ e. omega (arith, e))) it.declarations;
    lots = same_rows (others.1.1.1.1.1.0 (λ e. omega (arith, e))) it.lots;
    pieces = same_rows (others.1.1.1.1.1.1.0 (λ e. omega (arith, e))) it.pieces;
    peers = same_rows (others.1.1.1.1.1.1.1.0 (λ e. omega (arith, e))) it.peers;
    receipts = same_rows (others.1.1.1.1.1.1.1.1.0 (λ e. omega (arith, e))) it.receipts;
    cancellations = same_rows (others.1.1.1.1.1.1.1.1.1.0 (λ e. omega (arith, e))) it.cancellations;
    withdrawals = same_rows (others.1.1.1.1.1.1.1.1.1.1.0 (λ e. omega (arith, e))) it.withdrawals;
    notices_out = same_rows (others.1.1.1.1.1.1.1.1.1.1.1.0 (λ e. omega (arith, e))) it.notices_out;
    notices_in = is;
    corrections = same_rows (others.1.1.1.1.1.1.1.1.1.1.1.1.1.0 (λ e. omega (arith, e))) it.corrections;
    device_carriers = same_rows (others.1.1.1.1.1.1.1.1.1.1.1.1.1.1.0 (λ e. omega (arith, e))) it.device_carriers;
    lot_carriers = same_rows (others.1.1.1.1.1.1.1.1.1.1.1.1.1.1.1.0 (λ e. omega (arith, e))) it.lot_carriers;
    devices_carried = it.devices_carried;
    lots_carried = it.lots_carried;
  }

  pub corrections_stand : IsAlone 22 old.trees new.trees → (xs : List Correction) → Keeps (new.trees 22) correction_row correction_key xs → Stands new (record t { corrections = xs })
  corrections_stand others xs is = record {
    schema = schema;
    meta = others.0 (λ e. omega (arith, e)) ∙ it.meta;
    holders = same_rows (others.1.0 (λ e. omega (arith, e))) it.holders;
    accounts = same_rows (others.1.1.0 (λ e. omega (arith, e))) it.accounts;
    devices = same_rows (others.1.1.1.0 (λ e. omega (arith, e))) it.devices;
    declarations = same_rows (others.1.1.1.1.0 (λ e. omega (arith, e))) it.declarations;
    lots = same_rows (others.1.1.1.1.1.0 (λ e. omega (arith, e))) it.lots;
    pieces = same_rows (others.1.1.1.1.1.1.0 (λ e. omega (arith, e))) it.pieces;
    peers = same_rows (others.1.1.1.1.1.1.1.0 (λ e. omega (arith, e))) it.peers;
    receipts = same_rows (others.1.1.1.1.1.1.1.1.0 (λ e. omega (arith, e))) it.receipts;
    cancellations = same_rows (others.1.1.1.1.1.1.1.1.1.0 (λ e. omega (arith, e))) it.cancellations;
    withdrawals = same_rows (others.1.1.1.1.1.1.1.1.1.1.0 (λ e. omega (arith, e))) it.withdrawals;
    notices_out = same_rows (others.1.1.1.1.1.1.1.1.1.1.1.0 (λ e. omega (arith, e))) it.notices_out;
    notices_in = same_rows (others.1.1.1.1.1.1.1.1.1.1.1.1.0 (λ e. omega (arith, e))) it.notices_in;
    corrections = is;
    device_carriers = same_rows (others.1.1.1.1.1.1.1.1.1.1.1.1.1.1.0 (λ e. omega (arith, e))) it.device_carriers;
    lot_carriers = same_rows (others.1.1.1.1.1.1.1.1.1.1.1.1.1.1.1.0 (λ e. omega (arith, e))) it.lot_carriers;
    devices_carried = it.devices_carried;
    lots_carried = it.lots_carried;
  }

  pub device_carriers_stand : IsAlone 23 old.trees new.trees → (xs : List (Kept DeviceCarrier)) → Keeps (new.trees 23) device_carrier_row kept_key xs → AreCarriedDevices xs t.devices → Stands new (record t { device_carriers = xs })
  device_carriers_stand others xs is carried = record {
    schema = schema;
    meta = others.0 (λ e. omega (arith, e)) ∙ it.meta;
    holders = same_rows (others.1.0 (λ e. omega (arith, e))) it.holders;
    accounts = same_rows (others.1.1.0 (λ e. omega (arith, e))) it.accounts;
    devices = same_rows (others.1.1.1.0 (λ e. omega (arith, e))) it.devices;
    declarations = same_rows (others.1.1.1.1.0 (λ e. omega (arith, e))) it.declarations;
    lots = same_rows (others.1.1.1.1.1.0 (λ e. omega (arith, e))) it.lots;
    pieces = same_rows (others.1.1.1.1.1.1.0 (λ e. omega (arith, e))) it.pieces;
    peers = same_rows (others.1.1.1.1.1.1.1.0 (λ e. omega (arith, e))) it.peers;
    receipts = same_rows (others.1.1.1.1.1.1.1.1.0 (λ e. omega (arith, e))) it.receipts;
    cancellations = same_rows (others.1.1.1.1.1.1.1.1.1.0 (λ e. omega (arith, e))) it.cancellations;
    withdrawals = same_rows (others.1.1.1.1.1.1.1.1.1.1.0 (λ e. omega (arith, e))) it.withdrawals;
    notices_out = same_rows (others.1.1.1.1.1.1.1.1.1.1.1.0 (λ e. omega (arith, e))) it.notices_out;
    notices_in = same_rows (others.1.1.1.1.1.1.1.1.1.1.1.1.0 (λ e. omega (arith, e))) it.notices_in;
    corrections = same_rows (others.1.1.1.1.1.1.1.1.1.1.1.1.1.0 (λ e. omega (arith, e))) it.corrections;
    device_carriers = is;
    lot_carriers = same_rows (others.1.1.1.1.1.1.1.1.1.1.1.1.1.1.1.0 (λ e. omega (arith, e))) it.lot_carriers;
    devices_carried = carried;
    lots_carried = it.lots_carried;
  }

  pub lot_carriers_stand : IsAlone 25 old.trees new.trees → (xs : List LotCarrier) → Keeps (new.trees 25) lot_carrier_row lot_carrier_key xs → AreCarriedLots xs t.lots → Stands new (record t { lot_carriers = xs })
  lot_carriers_stand others xs is carried = record {
    schema = schema;
    meta = others.0 (λ e. omega (arith, e)) ∙ it.meta;
    holders = same_rows (others.1.0 (λ e. omega (arith, e))) it.holders;
    accounts = same_rows (others.1.1.0 (λ e. omega (arith, e))) it.accounts;
    devices = same_rows (others.1.1.1.0 (λ e. omega (arith, e))) it.devices;
    declarations = same_rows (others.1.1.1.1.0 (λ e. omega (arith, e))) it.declarations;
    lots = same_rows (others.1.1.1.1.1.0 (λ e. omega (arith, e))) it.lots;
    pieces = same_rows (others.1.1.1.1.1.1.0 (λ e. omega (arith, e))) it.pieces;
    peers = same_rows (others.1.1.1.1.1.1.1.0 (λ e. omega (arith, e))) it.peers;
    receipts = same_rows (others.1.1.1.1.1.1.1.1.0 (λ e. omega (arith, e))) it.receipts;
    cancellations = same_rows (others.1.1.1.1.1.1.1.1.1.0 (λ e. omega (arith, e))) it.cancellations;
    withdrawals = same_rows (others.1.1.1.1.1.1.1.1.1.1.0 (λ e. omega (arith, e))) it.withdrawals;
    notices_out = same_rows (others.1.1.1.1.1.1.1.1.1.1.1.0 (λ e. omega (arith, e))) it.notices_out;
    notices_in = same_rows (others.1.1.1.1.1.1.1.1.1.1.1.1.0 (λ e. omega (arith, e))) it.notices_in;
    corrections = same_rows (others.1.1.1.1.1.1.1.1.1.1.1.1.1.0 (λ e. omega (arith, e))) it.corrections;
    device_carriers = same_rows (others.1.1.1.1.1.1.1.1.1.1.1.1.1.1.0 (λ e. omega (arith, e))) it.device_carriers;
    lot_carriers = is;
    devices_carried = it.devices_carried;
    lots_carried = carried;
  }

-- the first row of bare tables
pub begun_stands : (old new : Database) → IsBare old → new.schema ≡ registry_schema → IsAlone 0 old.trees new.trees → (m : Meta) → new.trees 0 ≡ meta_row m ∷ []
    → Stands new (record { meta = m; holders = []; accounts = []; devices = []; declarations = []; lots = []; pieces = []; peers = []; receipts = []; cancellations = []; withdrawals = []; notices_out = []; notices_in = []; corrections = []; device_carriers = []; lot_carriers = [] })
begun_stands old new it schema others m is = record {
  schema = schema;
  meta = is;
  holders = record { are = others.1.0 (λ e. omega (arith, e)) ∙ it.holders; rise = tt };
  accounts = record { are = others.1.1.0 (λ e. omega (arith, e)) ∙ it.accounts; rise = tt };
  devices = record { are = others.1.1.1.0 (λ e. omega (arith, e)) ∙ it.devices; rise = tt };
  declarations = record { are = others.1.1.1.1.0 (λ e. omega (arith, e)) ∙ it.declarations; rise = tt };
  lots = record { are = others.1.1.1.1.1.0 (λ e. omega (arith, e)) ∙ it.lots; rise = tt };
  pieces = record { are = others.1.1.1.1.1.1.0 (λ e. omega (arith, e)) ∙ it.pieces; rise = tt };
  peers = record { are = others.1.1.1.1.1.1.1.0 (λ e. omega (arith, e)) ∙ it.peers; rise = tt };
  receipts = record { are = others.1.1.1.1.1.1.1.1.0 (λ e. omega (arith, e)) ∙ it.receipts; rise = tt };
  cancellations = record { are = others.1.1.1.1.1.1.1.1.1.0 (λ e. omega (arith, e)) ∙ it.cancellations; rise = tt };
  withdrawals = record { are = others.1.1.1.1.1.1.1.1.1.1.0 (λ e. omega (arith, e)) ∙ it.withdrawals; rise = tt };
  notices_out = record { are = others.1.1.1.1.1.1.1.1.1.1.1.0 (λ e. omega (arith, e)) ∙ it.notices_out; rise = tt };
  notices_in = record { are = others.1.1.1.1.1.1.1.1.1.1.1.1.0 (λ e. omega (arith, e)) ∙ it.notices_in; rise = tt };
  corrections = record { are = others.1.1.1.1.1.1.1.1.1.1.1.1.1.0 (λ e. omega (arith, e)) ∙ it.corrections; rise = tt };
  device_carriers = record { are = others.1.1.1.1.1.1.1.1.1.1.1.1.1.1.0 (λ e. omega (arith, e)) ∙ it.device_carriers; rise = tt };
  lot_carriers = record { are = others.1.1.1.1.1.1.1.1.1.1.1.1.1.1.1.0 (λ e. omega (arith, e)) ∙ it.lot_carriers; rise = tt };
  devices_carried = tt;
  lots_carried = tt;
}
