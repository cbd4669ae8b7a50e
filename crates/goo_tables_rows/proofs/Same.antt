-- A row that shows a value reads as that value alone.
use Rattle.std.proofs.Common.{◌≡◌, inl, inr, ℕ, pos, List, string_bytes, Option, Some, None, option_map, refl}
use Rattle.sqlite.specs.declared.types.Value.TheVariants.{Int, Text, Blob}
use Rattle.sqlite_typed.specs.Columns.{or_null}
use Rattle.goo_tables_rows.specs.Rows.{Plant, plant_columns, plant_in, Meta, meta_columns, meta_in, holder_columns, holder_in, Holder, account_columns, account_in, Account, device_columns, device_in, Device, declaration_columns, declaration_in, Declaration, lot_columns, lot_in, Lot, piece_columns, peer_columns, receipt_columns, receipt_in, Receipt, cancellation_columns, cancellation_in, Cancellation, withdrawal_columns, withdrawal_in, Withdrawal, notice_out_columns, notice_out_in, NoticeOut, notice_in_columns, notice_in_in, NoticeIn, correction_columns, correction_in, Correction, device_carrier_columns, device_carrier_in, DeviceCarrier, lot_carrier_columns, lot_carrier_in, LotCarrier}
use Rattle.goo_tables_rows.specs.Reads.{IsOctets, joined_reads, plant_reads, meta_reads, holder_reads, account_reads, device_reads, declaration_reads, lot_reads, piece_reads, peer_reads, receipt_reads, cancellation_reads, withdrawal_reads, notice_out_reads, notice_in_reads, correction_reads, device_carrier_reads, lot_carrier_reads}
use Rattle.goo_tables_rows.specs.declared.plant.PlantRow.{PlantRow}
use Rattle.goo_tables_rows.specs.declared.meta.MetaRow.{MetaRow}
use Rattle.goo_tables_rows.specs.declared.holder.HolderRow.{HolderRow}
use Rattle.goo_tables_rows.specs.declared.account.AccountRow.{AccountRow}
use Rattle.goo_tables_rows.specs.declared.device.DeviceRow.{DeviceRow}
use Rattle.goo_tables_rows.specs.declared.declaration.DeclarationRow.{DeclarationRow}
use Rattle.goo_tables_rows.specs.declared.lot.LotRow.{LotRow}
use Rattle.goo_tables_rows.specs.declared.piece.PieceRow.{PieceRow}
use Rattle.goo_tables_rows.specs.declared.peer.PeerRow.{PeerRow}
use Rattle.goo_tables_rows.specs.declared.receipt.ReceiptRow.{ReceiptRow}
use Rattle.goo_tables_rows.specs.declared.cancellation.CancellationRow.{CancellationRow}
use Rattle.goo_tables_rows.specs.declared.withdrawal.WithdrawalRow.{WithdrawalRow}
use Rattle.goo_tables_rows.specs.declared.notice_out.NoticeOutRow.{NoticeOutRow}
use Rattle.goo_tables_rows.specs.declared.notice_in.NoticeInRow.{NoticeInRow}
use Rattle.goo_tables_rows.specs.declared.correction.CorrectionRow.{CorrectionRow}
use Rattle.goo_tables_rows.specs.declared.device_carrier.DeviceCarrierRow.{DeviceCarrierRow}
use Rattle.goo_tables_rows.specs.declared.lot_carrier.LotCarrierRow.{LotCarrierRow}
use Rattle.goo_tables_rows.specs.declared.joined.JoinedRow.{JoinedRow}
use Rattle.goo_tables_rows.specs.Beside.{joined_in, joined_columns}

number_same : {a b : ℕ} → Int (pos a) ≡ Int (pos b) → b ≡ a
number_same is = cc

text_same : {a b : List ℕ} → Text a ≡ Text b → b ≡ a
text_same is = cc

octets_same : {a b : List ℕ} → IsOctets (Text a) b → b ≡ a
octets_same (inl is) = cc
octets_same (inr is) = absurd cc

blob_same : {a b : List ℕ} → IsOctets (Blob a) b → b ≡ a
blob_same (inl is) = absurd cc
blob_same (inr is) = cc

maybe_same : (a b : Option (List ℕ)) → or_null Text a ≡ or_null Text b → b ≡ a
maybe_same None None is = refl
maybe_same None (Some b) is = absurd cc
maybe_same (Some a) None is = absurd cc
maybe_same (Some a) (Some b) is = cc

plant_same : (p : Plant) (x : PlantRow) → plant_reads 0 (plant_columns p) x → plant_in x ≡ p
plant_same p x reads = λ i. record { country = text_same reads.0 i; site = text_same reads.1 i; tech = text_same reads.2 i; source = text_same reads.3 i; capacity_w = number_same reads.4 i; commissioned = text_same reads.5 i; support = text_same reads.6 i }

pub meta_same : (y : Meta) (x : MetaRow) → meta_reads (meta_columns y) x → meta_in x ≡ y
meta_same y x reads = λ i. record { version = number_same reads.0 i; code = number_same reads.1 i; today = text_same reads.2 i; next_serial = number_same reads.3 i; next_account = number_same reads.4 i; next_cancellation = number_same reads.5 i; next_withdrawal = number_same reads.6 i; next_notice = number_same reads.7 i }

pub holder_same : (y : Holder) (x : HolderRow) → holder_reads (holder_columns y) x → holder_in x ≡ y
holder_same y x reads = λ i. record { code = text_same reads.0 i; name = text_same reads.1 i }

pub account_same : (y : Account) (x : AccountRow) → account_reads (account_columns y) x → account_in x ≡ y
account_same y x reads = λ i. record { number = number_same reads.0 i; holder = text_same reads.1 i; closed = number_same reads.2 i }

pub device_same : (y : Device) (x : DeviceRow) → device_reads (device_columns y) x → device_in x ≡ y
device_same y x reads = λ i. record { gsrn = text_same reads.0 i; account = number_same reads.1 i; plant = plant_same y.plant x.plant reads.2 i; last_day = maybe_same y.last_day (option_map string_bytes x.last_day) reads.3 i; carry = number_same reads.4 i; carrier = maybe_same y.carrier (option_map string_bytes x.carrier) reads.5 i }

pub declaration_same : (y : Declaration) (x : DeclarationRow) → declaration_reads (declaration_columns y) x → declaration_in x ≡ y
declaration_same y x reads = λ i. record { id = number_same reads.0 i; device = text_same reads.1 i; first_day = text_same reads.2 i; last_day = text_same reads.3 i; gross = number_same reads.4 i; aux = number_same reads.5 i }

pub lot_same : (y : Lot) (x : LotRow) → lot_reads 0 (lot_columns y) x → lot_in x ≡ y
lot_same y x reads = λ i. record { id = number_same reads.0 i; origin = number_same reads.1 i; device = text_same reads.2 i; plant = plant_same y.plant x.plant reads.3 i; first_day = text_same reads.4 i; last_day = text_same reads.5 i; expires_on = maybe_same y.expires_on (option_map string_bytes x.expires_on) reads.6 i; issued_on = text_same reads.7 i; carrier = maybe_same y.carrier (option_map string_bytes x.carrier) reads.8 i }

pub piece_same : (y : PieceRow) (x : PieceRow) → piece_reads (piece_columns y) x → x ≡ y
piece_same y x reads = λ i. record { first = number_same reads.0 i; last = number_same reads.1 i; lot = number_same reads.2 i; kind = number_same reads.3 i; account = number_same reads.4 i; act = number_same reads.5 i }

pub peer_same : (y : PeerRow) (x : PeerRow) → peer_reads (peer_columns y) x → x ≡ y
peer_same y x reads = λ i. record { code = number_same reads i }

pub receipt_same : (y : Receipt) (x : ReceiptRow) → receipt_reads (receipt_columns y) x → receipt_in x ≡ y
receipt_same y x reads = λ i. record { caller = text_same reads.0 i; key = text_same reads.1 i; command = blob_same reads.2 i; kind = number_same reads.3 i; n1 = number_same reads.4 i; n2 = number_same reads.5 i; n3 = number_same reads.6 i }

pub cancellation_same : (y : Cancellation) (x : CancellationRow) → cancellation_reads (cancellation_columns y) x → cancellation_in x ≡ y
cancellation_same y x reads = λ i. record { number = number_same reads.0 i; account = number_same reads.1 i; first = number_same reads.2 i; last = number_same reads.3 i; beneficiary = text_same reads.4 i; use_first = text_same reads.5 i; use_last = text_same reads.6 i; day = text_same reads.7 i }

pub withdrawal_same : (y : Withdrawal) (x : WithdrawalRow) → withdrawal_reads (withdrawal_columns y) x → withdrawal_in x ≡ y
withdrawal_same y x reads = λ i. record { number = number_same reads.0 i; first = number_same reads.1 i; last = number_same reads.2 i; reason = text_same reads.3 i; day = text_same reads.4 i }

pub notice_out_same : (y : NoticeOut) (x : NoticeOutRow) → notice_out_reads (notice_out_columns y) x → notice_out_in x ≡ y
notice_out_same y x reads = λ i. record { number = number_same reads.0 i; account = number_same reads.1 i; body = octets_same reads.2 i }

pub notice_in_same : (y : NoticeIn) (x : NoticeInRow) → notice_in_reads (notice_in_columns y) x → notice_in_in x ≡ y
notice_in_same y x reads = λ i. record { sender = number_same reads.0 i; number = number_same reads.1 i; body = octets_same reads.2 i }

pub correction_same : (y : Correction) (x : CorrectionRow) → correction_reads (correction_columns y) x → correction_in x ≡ y
correction_same y x reads = λ i. record { id = number_same reads.0 i; device = text_same reads.1 i; first_day = text_same reads.2 i; less = number_same reads.3 i; withdrawal = number_same reads.4 i }

pub device_carrier_same : (y : DeviceCarrier) (x : DeviceCarrierRow) → device_carrier_reads (device_carrier_columns y) x → device_carrier_in x ≡ y
device_carrier_same y x reads = λ i. record { gsrn = text_same reads.0 i; carrier = text_same reads.1 i }

pub lot_carrier_same : (y : LotCarrier) (x : LotCarrierRow) → lot_carrier_reads (lot_carrier_columns y) x → lot_carrier_in x ≡ y
lot_carrier_same y x reads = λ i. record { lot = number_same reads.0 i; carrier = text_same reads.1 i }

pub joined_same : (a : PieceRow × Lot) (x : JoinedRow) → joined_reads (joined_columns a) x → joined_in x ≡ a
joined_same a x reads = λ i. (piece_same a.0 x.piece reads.0 i, lot_same a.1 x.lot reads.1 i)
