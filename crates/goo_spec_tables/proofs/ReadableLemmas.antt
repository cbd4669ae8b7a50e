-- Tables whose rows can be read, with one table changed.
use Rattle.std.proofs.Common.{◌≡◌, ◌∙◌, ap, List, true}
use Rattle.std.specs.List.{list_all}
use Rattle.goo_tables_rows.specs.Rows.{Tables, Kept, Meta, Holder, Account, Cancellation, Withdrawal, Correction, NoticeOut}
use Rattle.goo_tables_rows.specs.declared.peer.PeerRow.{PeerRow}
use Rattle.goo_spec_tables.specs.Kept.{AreReadable}
use Rattle.goo_spec_tables.specs.Readable.{is_meta, is_holder, is_account, is_peer, is_cancellation, is_withdrawal, is_correction, is_notice_out}

module _ (t : Tables) (it : AreReadable t) where
  pub with_holders : (xs : List (Kept Holder)) → list_all (is_holder) xs ≡ true → AreReadable (record t { holders = xs })
  with_holders xs all = record { version = it.version; meta = it.meta; holders = all; accounts = it.accounts; devices = it.devices; declarations = it.declarations; lots = it.lots; pieces = it.pieces; peers = it.peers; receipts = it.receipts; cancellations = it.cancellations; withdrawals = it.withdrawals; notices_out = it.notices_out; notices_in = it.notices_in; corrections = it.corrections; device_carriers = it.device_carriers; lot_carriers = it.lot_carriers }

  pub with_accounts : (xs : List Account) → list_all (is_account) xs ≡ true → AreReadable (record t { accounts = xs })
  with_accounts xs all = record { version = it.version; meta = it.meta; holders = it.holders; accounts = all; devices = it.devices; declarations = it.declarations; lots = it.lots; pieces = it.pieces; peers = it.peers; receipts = it.receipts; cancellations = it.cancellations; withdrawals = it.withdrawals; notices_out = it.notices_out; notices_in = it.notices_in; corrections = it.corrections; device_carriers = it.device_carriers; lot_carriers = it.lot_carriers }

  pub with_peers : (xs : List (Kept PeerRow)) → list_all (is_peer) xs ≡ true → AreReadable (record t { peers = xs })
  with_peers xs all = record { version = it.version; meta = it.meta; holders = it.holders; accounts = it.accounts; devices = it.devices; declarations = it.declarations; lots = it.lots; pieces = it.pieces; peers = all; receipts = it.receipts; cancellations = it.cancellations; withdrawals = it.withdrawals; notices_out = it.notices_out; notices_in = it.notices_in; corrections = it.corrections; device_carriers = it.device_carriers; lot_carriers = it.lot_carriers }

  pub with_cancellations : (xs : List Cancellation) → list_all (is_cancellation) xs ≡ true → AreReadable (record t { cancellations = xs })
  with_cancellations xs all = record { version = it.version; meta = it.meta; holders = it.holders; accounts = it.accounts; devices = it.devices; declarations = it.declarations; lots = it.lots; pieces = it.pieces; peers = it.peers; receipts = it.receipts; cancellations = all; withdrawals = it.withdrawals; notices_out = it.notices_out; notices_in = it.notices_in; corrections = it.corrections; device_carriers = it.device_carriers; lot_carriers = it.lot_carriers }

  pub with_withdrawals : (xs : List Withdrawal) → list_all (is_withdrawal) xs ≡ true → AreReadable (record t { withdrawals = xs })
  with_withdrawals xs all = record { version = it.version; meta = it.meta; holders = it.holders; accounts = it.accounts; devices = it.devices; declarations = it.declarations; lots = it.lots; pieces = it.pieces; peers = it.peers; receipts = it.receipts; cancellations = it.cancellations; withdrawals = all; notices_out = it.notices_out; notices_in = it.notices_in; corrections = it.corrections; device_carriers = it.device_carriers; lot_carriers = it.lot_carriers }

  pub with_corrections : (xs : List Correction) → list_all (is_correction) xs ≡ true → AreReadable (record t { corrections = xs })
  with_corrections xs all = record { version = it.version; meta = it.meta; holders = it.holders; accounts = it.accounts; devices = it.devices; declarations = it.declarations; lots = it.lots; pieces = it.pieces; peers = it.peers; receipts = it.receipts; cancellations = it.cancellations; withdrawals = it.withdrawals; notices_out = it.notices_out; notices_in = it.notices_in; corrections = all; device_carriers = it.device_carriers; lot_carriers = it.lot_carriers }

  pub with_notices_out : (xs : List NoticeOut) → list_all (is_notice_out t.meta.code) xs ≡ true → AreReadable (record t { notices_out = xs })
  with_notices_out xs all = record { version = it.version; meta = it.meta; holders = it.holders; accounts = it.accounts; devices = it.devices; declarations = it.declarations; lots = it.lots; pieces = it.pieces; peers = it.peers; receipts = it.receipts; cancellations = it.cancellations; withdrawals = it.withdrawals; notices_out = all; notices_in = it.notices_in; corrections = it.corrections; device_carriers = it.device_carriers; lot_carriers = it.lot_carriers }

  -- the row of the registry, of the same version and code
  pub with_meta : (m : Meta) → m.version ≡ t.meta.version → m.code ≡ t.meta.code → is_meta m ≡ true → AreReadable (record t { meta = m })
  with_meta m version code reads = record { version = version ∙ it.version; meta = reads; holders = it.holders; accounts = it.accounts; devices = it.devices; declarations = it.declarations; lots = it.lots; pieces = it.pieces; peers = it.peers; receipts = it.receipts; cancellations = it.cancellations; withdrawals = it.withdrawals; notices_out = ap (λ c. list_all (is_notice_out c) t.notices_out) code ∙ it.notices_out; notices_in = it.notices_in; corrections = it.corrections; device_carriers = it.device_carriers; lot_carriers = it.lot_carriers }
