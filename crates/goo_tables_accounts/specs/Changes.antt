-- What each statement makes of the tables, and which numbers it can keep.
use Rattle.std.specs.Prelude.{◌≡◌, [], pos, Bool, Option, Some, None, ℕ, List, find, ◌<◌, ◌^◌}
use Rattle.std.specs.Ordering.{int_eq}
use Rattle.sqlite_typed.specs.Tests.{bytes_eq}
use Rattle.sqlite_keyed.specs.Lists.{update_where, delete_where}
use Rattle.sqlite_keyed.specs.Keyed.{get_by, insert_by, next_key}
use Rattle.goo_tables_rows.specs.Refused.{IsSmall, HasRoomFor}
use Rattle.goo_tables_rows.specs.Rows.{Tables, Kept, kept_key, Meta, Holder, Account, Device, Declaration, Lot, Receipt, Cancellation, Withdrawal, NoticeOut, NoticeIn, Correction, DeviceCarrier, LotCarrier, lot_carrier_key, device_row, device_carrier_row, lot_row, lot_carrier_row, account_key, declaration_key, lot_key, piece_key, cancellation_key, withdrawal_key, notice_out_key, correction_key}
use Rattle.goo_tables_rows.specs.declared.meta.MetaRow.{MetaRow}
use Rattle.goo_tables_rows.specs.declared.device.DeviceRow.{DeviceRow}
use Rattle.goo_tables_rows.specs.declared.declaration.DeclarationRow.{DeclarationRow}
use Rattle.goo_tables_rows.specs.declared.lot.LotRow.{LotRow}
use Rattle.goo_tables_rows.specs.declared.piece.PieceRow.{PieceRow}
use Rattle.goo_tables_rows.specs.declared.peer.PeerRow.{PeerRow}
use Rattle.goo_tables_rows.specs.declared.receipt.ReceiptRow.{ReceiptRow}
use Rattle.goo_tables_rows.specs.declared.cancellation.CancellationRow.{CancellationRow}
use Rattle.goo_tables_rows.specs.declared.withdrawal.WithdrawalRow.{WithdrawalRow}
use Rattle.goo_tables_rows.specs.declared.correction.CorrectionRow.{CorrectionRow}
use Rattle.goo_tables_accounts.specs.declared.counters.CountersRow.{CountersRow}

-- a row under the next rowid
abbrev pub added : {X : Type 0} → List (Kept X) → X → List (Kept X)
added xs x = insert_by kept_key xs (next_key kept_key xs, x)

abbrev pub with_holder : Tables → Holder → Tables
with_holder t x = record t { holders = added t.holders x }

abbrev pub with_account : Tables → Account → Tables
with_account t x = record t { accounts = insert_by account_key t.accounts x }

-- the word for a device's carrier, if there is one, under the next rowid
abbrev pub with_device_word : List (Kept DeviceCarrier) → List ℕ → Option (List ℕ) → List (Kept DeviceCarrier)
with_device_word carriers gsrn None = carriers
with_device_word carriers gsrn (Some word) = added carriers (record { gsrn = gsrn; carrier = word })

-- a device, with the word for its carrier
abbrev pub with_device : Tables → Device → Tables
with_device t x = record t { devices = added t.devices x; device_carriers = with_device_word t.device_carriers x.gsrn x.carrier }

abbrev pub with_declaration : Tables → Declaration → Tables
with_declaration t x = record t { declarations = insert_by declaration_key t.declarations x }

-- the word for a lot's carrier, if there is one, under the lot's number
abbrev pub with_lot_word : List LotCarrier → ℕ → Option (List ℕ) → List LotCarrier
with_lot_word carriers id None = carriers
with_lot_word carriers id (Some word) = insert_by lot_carrier_key carriers (record { lot = id; carrier = word })

-- a lot, with the word for its carrier
abbrev pub with_lot : Tables → Lot → Tables
with_lot t x = record t { lots = insert_by lot_key t.lots x; lot_carriers = with_lot_word t.lot_carriers x.id x.carrier }

-- neither a device nor a carrier has this number
abbrev pub IsNewDevice : Tables → List ℕ → Type 0
IsNewDevice t gsrn = (find (λ k. bytes_eq k.1.gsrn gsrn) t.devices ≡ None) × (find (λ k. bytes_eq k.1.gsrn gsrn) t.device_carriers ≡ None)

-- a device's row and that of its carrier can be stored, under rowids that their tables have left
abbrev pub HasRoomForWord : List (Kept DeviceCarrier) → List ℕ → Option (List ℕ) → Type 0
HasRoomForWord carriers gsrn None = Unit {0}
HasRoomForWord carriers gsrn (Some word) = HasRoomFor device_carrier_row carriers (record { gsrn = gsrn; carrier = word })

abbrev pub HasRoomForDevice : Tables → Device → Type 0
HasRoomForDevice t x = HasRoomFor device_row t.devices x × HasRoomForWord t.device_carriers x.gsrn x.carrier

-- a lot's row and that of its carrier can be stored
abbrev pub IsSmallWord : ℕ → Option (List ℕ) → Type 0
IsSmallWord id None = Unit {0}
IsSmallWord id (Some word) = IsSmall (lot_carrier_row (record { lot = id; carrier = word }))

abbrev pub IsSmallLot : Lot → Type 0
IsSmallLot x = IsSmall (lot_row x) × IsSmallWord x.id x.carrier

-- neither a lot nor a carrier has this number
abbrev pub IsNewLot : Tables → ℕ → Type 0
IsNewLot t id = (get_by lot_key t.lots (pos id) ≡ None) × (get_by lot_carrier_key t.lot_carriers (pos id) ≡ None)

abbrev pub with_piece : Tables → PieceRow → Tables
with_piece t x = record t { pieces = insert_by piece_key t.pieces x }

abbrev pub with_peer : Tables → PeerRow → Tables
with_peer t x = record t { peers = added t.peers x }

abbrev pub with_receipt : Tables → Receipt → Tables
with_receipt t x = record t { receipts = added t.receipts x }

abbrev pub with_cancellation : Tables → Cancellation → Tables
with_cancellation t x = record t { cancellations = insert_by cancellation_key t.cancellations x }

abbrev pub with_withdrawal : Tables → Withdrawal → Tables
with_withdrawal t x = record t { withdrawals = insert_by withdrawal_key t.withdrawals x }

abbrev pub with_notice_out : Tables → NoticeOut → Tables
with_notice_out t x = record t { notices_out = insert_by notice_out_key t.notices_out x }

abbrev pub with_notice_in : Tables → NoticeIn → Tables
with_notice_in t x = record t { notices_in = added t.notices_in x }

abbrev pub with_correction : Tables → Correction → Tables
with_correction t x = record t { corrections = insert_by correction_key t.corrections x }

-- ---- meta

-- a registry that has just begun
abbrev pub begun : Meta → Tables
begun meta = record {
  meta = meta;
  holders = [];
  accounts = [];
  devices = [];
  declarations = [];
  lots = [];
  pieces = [];
  peers = [];
  receipts = [];
  cancellations = [];
  withdrawals = [];
  notices_out = [];
  notices_in = [];
  corrections = [];
  device_carriers = [];
  lot_carriers = [];
}

abbrev pub at_day : Tables → List ℕ → Tables
at_day t today = record t { meta = record t.meta { today = today } }

abbrev pub with_version : ℕ → Tables → Tables
with_version version t = record t { meta = record t.meta { version = version } }

abbrev pub with_counters : Tables → CountersRow → Tables
with_counters t c = record t {
  meta = record t.meta {
    next_serial = c.next_serial;
    next_account = c.next_account;
    next_cancellation = c.next_cancellation;
    next_withdrawal = c.next_withdrawal;
    next_notice = c.next_notice;
  };
}

-- ---- changes of a row

abbrev pub with_closed : Tables → ℕ → Tables
with_closed t number = record t { accounts = update_where (λ a. int_eq (account_key a) (pos number)) (λ a. record a { closed = 1 }) t.accounts }

abbrev pub progressed : List ℕ → ℕ → Kept Device → Kept Device
progressed last_day carry k = (k.0, record k.1 { last_day = Some last_day; carry = carry })

abbrev pub with_progress : Tables → List ℕ → List ℕ → ℕ → Tables
with_progress t gsrn last_day carry = record t { devices = update_where (λ k. bytes_eq k.1.gsrn gsrn) (progressed last_day carry) t.devices }

-- a piece begins as another one does
abbrev pub begins_as : PieceRow → PieceRow → Bool
begins_as x p = int_eq (piece_key p) (pos x.first)

-- the piece that begins as another one does is that one
abbrev pub with_piece_set : Tables → PieceRow → Tables
with_piece_set t x = record t { pieces = update_where (begins_as x) (λ p. record x { first = p.first }) t.pieces }

abbrev pub without_piece : Tables → ℕ → Tables
without_piece t first = record t { pieces = delete_where (λ p. int_eq (piece_key p) (pos first)) t.pieces }

-- ---- a column keeps numbers below 2 ^ 63

abbrev pub MetaFits : MetaRow → Type 0
MetaFits x = x.next_serial < 2 ^ 63

abbrev pub DeviceFits : DeviceRow → Type 0
DeviceFits x = (x.plant.capacity_w < 2 ^ 63) × (x.carry < 2 ^ 63)

abbrev pub DeclarationFits : DeclarationRow → Type 0
DeclarationFits x = (x.id < 2 ^ 63) × (x.gross < 2 ^ 63) × (x.aux < 2 ^ 63)

abbrev pub LotFits : LotRow → Type 0
LotFits x = (x.id < 2 ^ 63) × (x.plant.capacity_w < 2 ^ 63)

abbrev pub PieceFits : PieceRow → Type 0
PieceFits x = (x.first < 2 ^ 63) × (x.last < 2 ^ 63) × (x.lot < 2 ^ 63)

abbrev pub ReceiptFits : ReceiptRow → Type 0
ReceiptFits x = (x.n1 < 2 ^ 63) × (x.n2 < 2 ^ 63) × (x.n3 < 2 ^ 63)

abbrev pub CancellationFits : CancellationRow → Type 0
CancellationFits x = (x.first < 2 ^ 63) × (x.last < 2 ^ 63)

abbrev pub WithdrawalFits : WithdrawalRow → Type 0
WithdrawalFits x = (x.first < 2 ^ 63) × (x.last < 2 ^ 63)

abbrev pub CorrectionFits : CorrectionRow → Type 0
CorrectionFits x = (x.id < 2 ^ 63) × (x.less < 2 ^ 63)

abbrev pub CountersFit : CountersRow → Type 0
CountersFit c = c.next_serial < 2 ^ 63
