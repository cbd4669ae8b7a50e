-- A small row of each of our tables is stored.
use Rattle.std.proofs.Common.{◌≡◌, ℕ, List, not, true, Option, Some, None, refl, arith}
use Rattle.sqlite.specs.declared.types.Value.TheVariants.{Text}
use Rattle.sqlite_rules.specs.Edit.{IsOversized}
use Rattle.sqlite_typed.specs.Columns.{or_null}
use Rattle.goo_tables_rows.specs.Columns.{registry_schema, meta, holder, account, device, declaration, lot, piece, peer, receipt, cancellation, withdrawal, notice_out, notice_in, correction, device_carrier, lot_carrier}
use Rattle.goo_tables_rows.specs.Refused.{IsSmall}
use Rattle.goo_tables_rows.specs.Rows.{Kept, Meta, meta_row, Holder, holder_row, Account, account_row, Device, device_row, Declaration, declaration_row, Lot, lot_row, piece_row, peer_row, Receipt, receipt_row, Cancellation, cancellation_row, Withdrawal, withdrawal_row, NoticeOut, notice_out_row, NoticeIn, notice_in_row, Correction, correction_row, DeviceCarrier, device_carrier_row, LotCarrier, lot_carrier_row}
use Rattle.goo_tables_rows.specs.declared.piece.PieceRow.{PieceRow}
use Rattle.goo_tables_rows.specs.declared.peer.PeerRow.{PeerRow}
use Rattle.goo_tables_rows.proofs.Small.{is_stored, is_real}

pub meta_stored : (m : Meta) → IsSmall (meta_row m) → ¬ IsOversized registry_schema meta (meta_row m)
meta_stored m = is_stored meta (meta_row m) refl refl (omega arith, omega arith) tt

pub holder_stored : (k : Kept Holder) → IsSmall (holder_row k) → ¬ IsOversized registry_schema holder (holder_row k)
holder_stored k = is_stored holder (holder_row k) refl refl (omega arith, omega arith) (omega arith, tt)

pub account_stored : (a : Account) → IsSmall (account_row a) → ¬ IsOversized registry_schema account (account_row a)
account_stored a = is_stored account (account_row a) refl refl (omega arith, omega arith) tt

text_or_null : (o : Option (List ℕ)) → not (is_real (or_null Text o)) ≡ true
text_or_null None = refl
text_or_null (Some t) = refl

pub device_stored : (k : Kept Device) → IsSmall (device_row k) → ¬ IsOversized registry_schema device (device_row k)
device_stored k = is_stored device (device_row k) refl (rw (text_or_null k.1.last_day) refl) (omega arith, omega arith) (omega arith, tt)

pub declaration_stored : (d : Declaration) → IsSmall (declaration_row d) → ¬ IsOversized registry_schema declaration (declaration_row d)
declaration_stored d = is_stored declaration (declaration_row d) refl refl (omega arith, omega arith) (omega arith, tt)

pub lot_stored : (l : Lot) → IsSmall (lot_row l) → ¬ IsOversized registry_schema lot (lot_row l)
lot_stored l = is_stored lot (lot_row l) refl (rw (text_or_null l.expires_on) refl) (omega arith, omega arith) (omega arith, tt)

pub piece_stored : (p : PieceRow) → IsSmall (piece_row p) → ¬ IsOversized registry_schema piece (piece_row p)
piece_stored p = is_stored piece (piece_row p) refl refl (omega arith, omega arith) (omega arith, (omega arith, tt))

pub peer_stored : (k : Kept PeerRow) → IsSmall (peer_row k) → ¬ IsOversized registry_schema peer (peer_row k)
peer_stored k = is_stored peer (peer_row k) refl refl (omega arith, omega arith) (omega arith, tt)

pub receipt_stored : (k : Kept Receipt) → IsSmall (receipt_row k) → ¬ IsOversized registry_schema receipt (receipt_row k)
receipt_stored k = is_stored receipt (receipt_row k) refl refl (omega arith, omega arith) (omega arith, tt)

pub cancellation_stored : (c : Cancellation) → IsSmall (cancellation_row c) → ¬ IsOversized registry_schema cancellation (cancellation_row c)
cancellation_stored c = is_stored cancellation (cancellation_row c) refl refl (omega arith, omega arith) tt

pub withdrawal_stored : (w : Withdrawal) → IsSmall (withdrawal_row w) → ¬ IsOversized registry_schema withdrawal (withdrawal_row w)
withdrawal_stored w = is_stored withdrawal (withdrawal_row w) refl refl (omega arith, omega arith) tt

pub notice_out_stored : (n : NoticeOut) → IsSmall (notice_out_row n) → ¬ IsOversized registry_schema notice_out (notice_out_row n)
notice_out_stored n = is_stored notice_out (notice_out_row n) refl refl (omega arith, omega arith) tt

pub notice_in_stored : (k : Kept NoticeIn) → IsSmall (notice_in_row k) → ¬ IsOversized registry_schema notice_in (notice_in_row k)
notice_in_stored k = is_stored notice_in (notice_in_row k) refl refl (omega arith, omega arith) (omega arith, tt)

pub correction_stored : (c : Correction) → IsSmall (correction_row c) → ¬ IsOversized registry_schema correction (correction_row c)
correction_stored c = is_stored correction (correction_row c) refl refl (omega arith, omega arith) tt

pub device_carrier_stored : (k : Kept DeviceCarrier) → IsSmall (device_carrier_row k) → ¬ IsOversized registry_schema device_carrier (device_carrier_row k)
device_carrier_stored k = is_stored device_carrier (device_carrier_row k) refl refl (omega arith, omega arith) (omega arith, tt)

pub lot_carrier_stored : (c : LotCarrier) → IsSmall (lot_carrier_row c) → ¬ IsOversized registry_schema lot_carrier (lot_carrier_row c)
lot_carrier_stored c = is_stored lot_carrier (lot_carrier_row c) refl refl (omega arith, omega arith) tt
