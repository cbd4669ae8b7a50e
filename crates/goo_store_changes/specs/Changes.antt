-- Changes of the tables, one statement each; a device or a lot of another carrier than electricity takes two.
use Rattle.std.specs.Prelude.{◌≡◌, ◌<◌, ◌^◌, ◌&&◌, ℕ, pos, List, All, None, find, fold, take, get_or, length, string_bytes, ⊤}
use Rattle.std.specs.List.{filter}
use Rattle.std.specs.Ordering.{int_eq}
use Rattle.sqlite_typed.specs.Tests.{bytes_eq}
use Rattle.sqlite_keyed.specs.Keyed.{get_by}
use Rattle.goo_tables_rows.specs.Once.{IsOnce}
use Rattle.goo_tables_rows.specs.Refused.{IsSmall, CanBeKept, HasRoomFor}
use Rattle.goo_tables_rows.specs.Rows.{Tables, meta_row, holder_in, holder_row, account_in, account_row, device_in, device_row, declaration_in, declaration_row, lot_in, piece_row, peer_row, receipt_in, receipt_row, cancellation_in, cancellation_row, withdrawal_in, withdrawal_row, notice_out_in, notice_out_row, notice_in_in, notice_in_row, correction_in, correction_row, account_key, declaration_key, piece_key, cancellation_key, withdrawal_key, notice_out_key, correction_key}
use Rattle.goo_tables_accounts.specs.Changes.{with_holder, with_account, with_closed, with_device, IsNewDevice, HasRoomForDevice, with_progress, progressed, with_declaration, with_lot, IsNewLot, IsSmallLot, with_piece, without_piece, with_peer, with_receipt, with_cancellation, with_withdrawal, with_notice_out, with_notice_in, with_correction, at_day, with_counters, DeviceFits, DeclarationFits, LotFits, PieceFits, ReceiptFits, CancellationFits, WithdrawalFits, CorrectionFits, CountersFit}
use Rattle.goo_store_changes.specs.declared.table_change.TableChange.{TableChange}
use Rattle.goo_store_changes.specs.declared.table_change.TableChange.TheVariants.{AddHolder, AddAccount, CloseAccount, AddDevice, AddDeclaration, SetProgress, AddLot, DeletePiece, InsertPiece, AddPeer, AddReceipt, AddCancellation, AddWithdrawal, AddNoticeOut, AddNoticeIn, AddCorrection, SetToday, SetCounters}

-- the tables with the change
abbrev pub made : Tables → TableChange → Tables
made t (AddHolder row) = with_holder t (holder_in row)
made t (AddAccount row) = with_account t (account_in row)
made t (CloseAccount number) = with_closed t number
made t (AddDevice row) = with_device t (device_in row)
made t (AddDeclaration row) = with_declaration t (declaration_in row)
made t (SetProgress device last_day carry) = with_progress t (string_bytes device) (string_bytes last_day) carry
made t (AddLot row) = with_lot t (lot_in row)
made t (DeletePiece first) = without_piece t first
made t (InsertPiece row) = with_piece t row
made t (AddPeer row) = with_peer t row
made t (AddReceipt row) = with_receipt t (receipt_in row)
made t (AddCancellation row) = with_cancellation t (cancellation_in row)
made t (AddWithdrawal row) = with_withdrawal t (withdrawal_in row)
made t (AddNoticeOut row) = with_notice_out t (notice_out_in row)
made t (AddNoticeIn row) = with_notice_in t (notice_in_in row)
made t (AddCorrection row) = with_correction t (correction_in row)
made t (SetToday day) = at_day t (string_bytes day)
made t (SetCounters counters) = with_counters t counters

abbrev pub made_all : Tables → List TableChange → Tables
made_all t changes = fold made t changes

-- the columns can keep its numbers
abbrev pub ChangeFits : TableChange → Type 0
ChangeFits (AddDevice row) = DeviceFits row
ChangeFits (AddDeclaration row) = DeclarationFits row
ChangeFits (SetProgress device last_day carry) = carry < 2 ^ 63
ChangeFits (AddLot row) = LotFits row
ChangeFits (DeletePiece first) = first < 2 ^ 63
ChangeFits (InsertPiece row) = PieceFits row
ChangeFits (AddReceipt row) = ReceiptFits row
ChangeFits (AddCancellation row) = CancellationFits row
ChangeFits (AddWithdrawal row) = WithdrawalFits row
ChangeFits (AddCorrection row) = CorrectionFits row
ChangeFits (SetCounters counters) = CountersFit counters
ChangeFits _ = Unit {0}

-- A device's progress is set in one row at most. A device or a lot that is added is new, and so is the row of its carrier.
abbrev pub IsFor : Tables → TableChange → Type 0
IsFor t (SetProgress device last_day carry) = IsOnce (filter (λ k. bytes_eq k.1.gsrn (string_bytes device)) t.devices)
IsFor t (AddDevice row) = IsNewDevice t (device_in row).gsrn
IsFor t (AddLot row) = IsNewLot t row.id
IsFor t _ = Unit {0}

-- each change is one for the tables that those before it leave
abbrev pub AreFor : Tables → List TableChange → Type 0
AreFor t changes = (i : ℕ) (d : TableChange) → i < length changes → IsFor (made_all t (take i changes)) (get_or changes i d)

-- what the clause `refused` of its statement asks of the tables: none of them has a row under its key or with its unique values, and a row that is changed is the only one
abbrev pub IsFree : Tables → TableChange → Type 0
IsFree t (AddHolder row) = find (λ k. bytes_eq k.1.code (holder_in row).code) t.holders ≡ None
IsFree t (AddAccount row) = get_by account_key t.accounts (pos row.number) ≡ None
IsFree t (CloseAccount number) = ⊤
IsFree t (AddDevice row) = IsNewDevice t (device_in row).gsrn
IsFree t (AddDeclaration row) =
    (get_by declaration_key t.declarations (pos row.id) ≡ None)
    × (find (λ x. bytes_eq x.device (declaration_in row).device && bytes_eq x.first_day (declaration_in row).first_day) t.declarations ≡ None)
IsFree t (SetProgress device last_day carry) = IsOnce (filter (λ k. bytes_eq k.1.gsrn (string_bytes device)) t.devices)
IsFree t (AddLot row) =
    IsNewLot t row.id
    × (find (λ x. int_eq (pos x.origin) (pos row.origin) && (bytes_eq x.device (lot_in row).device && bytes_eq x.first_day (lot_in row).first_day)) t.lots ≡ None)
IsFree t (DeletePiece first) = ⊤
IsFree t (InsertPiece row) = get_by piece_key t.pieces (pos row.first) ≡ None
IsFree t (AddPeer row) = find (λ k. int_eq (pos k.1.code) (pos row.code)) t.peers ≡ None
IsFree t (AddReceipt row) = find (λ k. bytes_eq k.1.caller (receipt_in row).caller && bytes_eq k.1.key (receipt_in row).key) t.receipts ≡ None
IsFree t (AddCancellation row) = get_by cancellation_key t.cancellations (pos row.number) ≡ None
IsFree t (AddWithdrawal row) = get_by withdrawal_key t.withdrawals (pos row.number) ≡ None
IsFree t (AddNoticeOut row) = get_by notice_out_key t.notices_out (pos row.number) ≡ None
IsFree t (AddNoticeIn row) = find (λ k. int_eq (pos k.1.sender) (pos row.sender) && int_eq (pos k.1.number) (pos row.number)) t.notices_in ≡ None
IsFree t (AddCorrection row) = get_by correction_key t.corrections (pos row.id) ≡ None
IsFree t (SetToday day) = ⊤
IsFree t (SetCounters counters) = ⊤

-- each change is free in the tables that those before it leave
abbrev pub AreFree : Tables → List TableChange → Type 0
AreFree t changes = (i : ℕ) (d : TableChange) → i < length changes → IsFree (made_all t (take i changes)) (get_or changes i d)

-- there is room for the change: each row that it makes is small, and a rowid that its table chooses is below 2 ^ 63
abbrev pub HasRoom : Tables → TableChange → Type 0
HasRoom t (AddHolder row) = HasRoomFor holder_row t.holders (holder_in row)
HasRoom t (AddAccount row) = IsSmall (account_row (account_in row))
HasRoom t (CloseAccount number) = All (λ a. IsSmall (account_row (record a { closed = 1 }))) (filter (λ a. int_eq (account_key a) (pos number)) t.accounts)
HasRoom t (AddDevice row) = HasRoomForDevice t (device_in row)
HasRoom t (AddDeclaration row) = IsSmall (declaration_row (declaration_in row))
HasRoom t (SetProgress device last_day carry) =
    All (λ k. CanBeKept (device_row (progressed (string_bytes last_day) carry k))) (filter (λ k. bytes_eq k.1.gsrn (string_bytes device)) t.devices)
HasRoom t (AddLot row) = IsSmallLot (lot_in row)
HasRoom t (DeletePiece first) = ⊤
HasRoom t (InsertPiece row) = IsSmall (piece_row row)
HasRoom t (AddPeer row) = HasRoomFor peer_row t.peers row
HasRoom t (AddReceipt row) = HasRoomFor receipt_row t.receipts (receipt_in row)
HasRoom t (AddCancellation row) = IsSmall (cancellation_row (cancellation_in row))
HasRoom t (AddWithdrawal row) = IsSmall (withdrawal_row (withdrawal_in row))
HasRoom t (AddNoticeOut row) = IsSmall (notice_out_row (notice_out_in row))
HasRoom t (AddNoticeIn row) = HasRoomFor notice_in_row t.notices_in (notice_in_in row)
HasRoom t (AddCorrection row) = IsSmall (correction_row (correction_in row))
HasRoom t (SetToday day) = IsSmall (meta_row (at_day t (string_bytes day)).meta)
HasRoom t (SetCounters counters) = IsSmall (meta_row (with_counters t counters).meta)

-- there is room for each change in the tables that those before it leave
abbrev pub HaveRoom : Tables → List TableChange → Type 0
HaveRoom t changes = (i : ℕ) (d : TableChange) → i < length changes → HasRoom (made_all t (take i changes)) (get_or changes i d)
