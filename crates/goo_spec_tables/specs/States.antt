-- The state that the tables stand for.
use Rattle.std.specs.Prelude.{ℕ, ◌==◌, List, map, Option}
use Rattle.std.specs.FinMap.{from_entries}
use Rattle.goo_types.specs.Notice.{NoticeContents}
use Rattle.goo_types.specs.declared.command.Command.{Command}
use Rattle.goo_types.specs.declared.lot_fields.LotFields.{LotFields}
use Rattle.goo_types.specs.declared.reply.Reply.{Reply}
use Rattle.goo_spec.specs.Lots.{key_of}
use Rattle.goo_spec.specs.State.{State, Account, Device, Sent, Cancellation, Withdrawal}
use Rattle.goo_ranges_rows.specs.Certificates.{certificates_of}
use Rattle.goo_tables_rows.specs.Rows as row
use Rattle.goo_tables_rows.specs.Rows.{Tables, Kept}
use Rattle.goo_tables_rows.specs.declared.peer.PeerRow.{PeerRow}
use Rattle.goo_spec_tables.specs.Texts.{day_of}
use Rattle.goo_spec_tables.specs.Places.{lot_of, rows_of}
use Rattle.goo_spec_tables.specs.Devices.{device_of, declaration_of}
use Rattle.goo_spec_tables.specs.Replies.{receipt_of}
use Rattle.goo_spec_tables.specs.Records.{cancellation_of, withdrawal_of, correction_of, sent_of, arrived_of}

-- ---- what each row makes known, under its key

abbrev pub known_lot : row.Lot → List ℕ × LotFields
known_lot l = (key_of (lot_of l), lot_of l)

abbrev pub known_holder : Kept row.Holder → List ℕ × List ℕ
known_holder k = (k.1.code, k.1.name)

abbrev pub account_of : row.Account → Account
account_of a = record { holder = a.holder; closed = a.closed == 1 }

abbrev pub known_account : row.Account → ℕ × Account
known_account a = (a.number, account_of a)

abbrev pub known_device : Kept row.Device → List ℕ × Device
known_device k = (k.1.gsrn, device_of k.1)

abbrev pub known_peer : Kept PeerRow → ℕ × Unit {0}
known_peer k = (k.1.code, tt)

abbrev pub known_receipt : Kept row.Receipt → (List ℕ × List ℕ) × (Option Command × Reply)
known_receipt k = ((k.1.caller, k.1.key), receipt_of k.1)

abbrev pub known_arrival : Kept row.NoticeIn → (ℕ × ℕ) × NoticeContents
known_arrival k = ((k.1.sender, k.1.number), arrived_of k.1)

abbrev pub known_sent : row.NoticeOut → ℕ × Sent
known_sent n = (n.number, sent_of n)

abbrev pub known_cancellation : row.Cancellation → ℕ × Cancellation
known_cancellation c = (c.number, cancellation_of c)

abbrev pub known_withdrawal : row.Withdrawal → ℕ × Withdrawal
known_withdrawal w = (w.number, withdrawal_of w)

-- ---- what the registry knows

unfoldable pub state_of : Tables → State
state_of t = record {
  own = t.meta.code;
  today = day_of t.meta.today;
  next_serial = t.meta.next_serial;
  next_account = t.meta.next_account;
  next_cancellation = t.meta.next_cancellation;
  next_withdrawal = t.meta.next_withdrawal;
  next_notice = t.meta.next_notice;
  at = certificates_of (rows_of t);
  lots = from_entries (map known_lot t.lots);
  holders = from_entries (map known_holder t.holders);
  accounts = from_entries (map known_account t.accounts);
  devices = from_entries (map known_device t.devices);
  declarations = map declaration_of t.declarations;
  corrections = map correction_of t.corrections;
  peers = from_entries (map known_peer t.peers);
  receipts = from_entries (map known_receipt t.receipts);
  arrived = from_entries (map known_arrival t.notices_in);
  sent = from_entries (map known_sent t.notices_out);
  cancellations = from_entries (map known_cancellation t.cancellations);
  withdrawals = from_entries (map known_withdrawal t.withdrawals);
}
