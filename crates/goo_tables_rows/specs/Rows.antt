-- The tables as lists of their rows, each row a plain record. The rows are passed on from one place.
pub use Rattle.goo_tables_rows.specs.Cells.{number_in, Kept, kept_key}
pub use Rattle.goo_tables_rows.specs.MemberRows.{Meta, meta_row, meta_columns, meta_in, meta_at, Numbered, numbered_key, numbered_row, numbered_in, Holder, holder_columns, holder_row, holder_in, holder_at, Account, account_key, account_row, account_columns, account_in, account_at, peer_columns, peer_row, peer_at}
pub use Rattle.goo_tables_rows.specs.PlantRows.{Plant, plant_columns, plant_in, plant_at, Device, device_values, device_columns, device_row, device_in, device_at, Declaration, declaration_key, declaration_row, declaration_columns, declaration_in, declaration_at, Lot, lot_key, lot_row, lot_values, lot_columns, lot_in, lot_at, piece_key, piece_row, piece_columns, piece_at}
pub use Rattle.goo_tables_rows.specs.ActRows.{Receipt, receipt_columns, receipt_row, receipt_in, receipt_at, Cancellation, cancellation_key, cancellation_row, cancellation_columns, cancellation_in, cancellation_at, Withdrawal, withdrawal_key, withdrawal_row, withdrawal_columns, withdrawal_in, withdrawal_at, NoticeOut, notice_out_key, notice_out_row, notice_out_columns, notice_out_in, notice_out_at, NoticeIn, notice_in_columns, notice_in_row, notice_in_in, notice_in_at}
pub use Rattle.goo_tables_rows.specs.LaterRows.{Correction, correction_key, correction_row, correction_columns, correction_in, correction_at, DeviceCarrier, device_carrier_columns, device_carrier_row, device_carrier_in, device_carrier_at, LotCarrier, lot_carrier_key, lot_carrier_row, lot_carrier_columns, lot_carrier_in, lot_carrier_at}
pub use Rattle.goo_tables_rows.specs.Carried.{carrier_of_device, carrier_of_lot, carried_device, carried_lot, AreCarriedDevices, AreCarriedLots, bare_device, bare_lot}
use Rattle.std.specs.Prelude.{List, [], ◌∷◌, map}
use Rattle.sqlite.specs.Order.{Row}
use Rattle.sqlite.specs.Tree.{Trees}
use Rattle.goo_tables_rows.specs.declared.piece.PieceRow.{PieceRow}
use Rattle.goo_tables_rows.specs.declared.peer.PeerRow.{PeerRow}

pub record Tables : Type 0 where
  pub meta : Meta
  pub holders : List (Kept Holder)
  pub accounts : List Account
  pub devices : List (Kept Device)
  pub declarations : List Declaration
  pub lots : List Lot
  pub pieces : List PieceRow
  pub peers : List (Kept PeerRow)
  pub receipts : List (Kept Receipt)
  pub cancellations : List Cancellation
  pub withdrawals : List Withdrawal
  pub notices_out : List NoticeOut
  pub notices_in : List (Kept NoticeIn)
  pub corrections : List Correction
  pub device_carriers : List (Kept DeviceCarrier)
  pub lot_carriers : List LotCarrier

abbrev pub first_row : List Row → Row
first_row [] = []
first_row (r ∷ rows) = r

-- the tables that trees hold, read without a look at whether they hold any
unfoldable pub tables_of : Trees → Tables
tables_of trees = record {
  meta = meta_at (first_row (trees 0));
  holders = map holder_at (trees 1);
  accounts = map account_at (trees 3);
  devices = map (carried_device (map device_carrier_at (trees 23))) (map device_at (trees 4));
  declarations = map declaration_at (trees 6);
  lots = map (carried_lot (map lot_carrier_at (trees 25))) (map lot_at (trees 8));
  pieces = map piece_at (trees 10);
  peers = map peer_at (trees 11);
  receipts = map receipt_at (trees 13);
  cancellations = map cancellation_at (trees 15);
  withdrawals = map withdrawal_at (trees 16);
  notices_out = map notice_out_at (trees 17);
  notices_in = map notice_in_at (trees 18);
  corrections = map correction_at (trees 22);
  device_carriers = map device_carrier_at (trees 23);
  lot_carriers = map lot_carrier_at (trees 25);
}
