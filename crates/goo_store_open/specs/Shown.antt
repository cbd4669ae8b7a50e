-- What the rows that were read tell of the database.
use Rattle.std.specs.Prelude.{◌≡◌, List, map}
use Rattle.sqlite.specs.Effect.{Database}
use Rattle.sqlite.specs.Order.{Row}
use Rattle.goo_tables_rows.specs.Rows.{Kept, kept_key, Receipt, Cancellation, holder_row, holder_in, account_row, account_key, account_in, device_row, device_in, declaration_row, declaration_key, declaration_in, lot_row, lot_key, lot_in, bare_device, bare_lot, piece_row, piece_key, peer_row, receipt_row, cancellation_row, cancellation_key, withdrawal_row, withdrawal_key, withdrawal_in, notice_out_row, notice_out_key, notice_out_in, notice_in_row, notice_in_in, correction_row, correction_key, correction_in, device_carrier_row, device_carrier_in, lot_carrier_row, lot_carrier_key, lot_carrier_in}
use Rattle.goo_tables_rows.specs.Stands.{Keeps}
use Rattle.goo_tables_rows.specs.Met.{KeepsSome}
use Rattle.goo_spec_tables.specs.Readable.{is_receipt}
use Rattle.goo_store_receipts.specs.Judged.{judged_cancellation}
use Rattle.goo_store_receipts.specs.declared.receipts.JudgedReceipt.{JudgedReceipt}
use Rattle.goo_store_receipts.specs.declared.cancellations.JudgedCancellation.{JudgedCancellation}
use Rattle.goo_store_open.specs.declared.rows.Members.{Members}
use Rattle.goo_store_open.specs.declared.rows.Production.{Production}
use Rattle.goo_store_open.specs.declared.reading.Issued.{Issued}
use Rattle.goo_store_open.specs.declared.reading.Common.{Common}
use Rattle.goo_store_open.specs.declared.reading.Later.{Later}
use Rattle.goo_store_open.specs.declared.rows.Acts.{Acts}
use Rattle.goo_store_open.specs.declared.rows.Notices.{Notices}
use Rattle.goo_store_open.specs.declared.rows.Carriers.{Carriers}
use Rattle.goo_store_open.specs.declared.rows.AllRows.{AllRows}

pub record ShowsMembers (db : Database) (x : Members) : Type 0 where
  pub holders : KeepsSome (db.trees 1) holder_row (map holder_in x.holders.items)
  pub accounts : Keeps (db.trees 3) account_row account_key (map account_in x.accounts.items)
  pub peers : KeepsSome (db.trees 11) peer_row x.peers.items

-- devices and lots without their carriers
pub record ShowsIssued (db : Database) (x : Issued) : Type 0 where
  pub devices : KeepsSome (db.trees 4) device_row (map device_in x.devices.items)
  pub bare_devices : map device_in x.devices.items ≡ map bare_device (map device_in x.devices.items)
  pub declarations : Keeps (db.trees 6) declaration_row declaration_key (map declaration_in x.declarations.items)
  pub lots : Keeps (db.trees 8) lot_row lot_key (map lot_in x.lots.items)
  pub bare_lots : map lot_in x.lots.items ≡ map bare_lot (map lot_in x.lots.items)
  pub pieces : Keeps (db.trees 10) piece_row piece_key x.pieces.items

-- the rows of the table are receipts, under some rowids that rise, of which these say whether they keep the rules
abbrev pub KeepsJudged : List Row → List JudgedReceipt → Type 0
KeepsJudged rows xs = (ks : List (Kept Receipt)) × Keeps rows receipt_row kept_key ks × (map (λ (x : JudgedReceipt). x.is_good) xs ≡ map is_receipt ks)

-- the rows of the table are cancellations, by their numbers, of which this is kept
abbrev pub KeepsJudgedCancellations : List Row → List JudgedCancellation → Type 0
KeepsJudgedCancellations rows xs = (cs : List Cancellation) × Keeps rows cancellation_row cancellation_key cs × (xs ≡ map judged_cancellation cs)

pub record ShowsActs (db : Database) (x : Acts) : Type 0 where
  pub receipts : KeepsJudged (db.trees 13) x.receipts.items
  pub cancellations : KeepsJudgedCancellations (db.trees 15) x.cancellations.items
  pub withdrawals : Keeps (db.trees 16) withdrawal_row withdrawal_key (map withdrawal_in x.withdrawals.items)

pub record ShowsNotices (db : Database) (x : Notices) : Type 0 where
  pub sent : Keeps (db.trees 17) notice_out_row notice_out_key (map notice_out_in x.sent.items)
  pub came : KeepsSome (db.trees 18) notice_in_row (map notice_in_in x.came.items)

-- of the tables that both versions have
pub record ShowsCommon (db : Database) (x : Common) : Type 0 where
  pub members : ShowsMembers db x.members
  pub issued : ShowsIssued db x.issued
  pub acts : ShowsActs db x.acts
  pub notices : ShowsNotices db x.notices

pub record ShowsCarriers (db : Database) (x : Carriers) : Type 0 where
  pub devices : KeepsSome (db.trees 23) device_carrier_row (map device_carrier_in x.devices.items)
  pub lots : Keeps (db.trees 25) lot_carrier_row lot_carrier_key (map lot_carrier_in x.lots.items)

-- of those that version 2 has beside them
pub record ShowsLater (db : Database) (x : Later) : Type 0 where
  pub corrections : Keeps (db.trees 22) correction_row correction_key (map correction_in x.corrections.items)
  pub carriers : ShowsCarriers db x.carriers

pub record ShowsProduction (db : Database) (x : Production) : Type 0 where
  pub devices : KeepsSome (db.trees 4) device_row (map device_in x.devices.items)
  pub bare_devices : map device_in x.devices.items ≡ map bare_device (map device_in x.devices.items)
  pub declarations : Keeps (db.trees 6) declaration_row declaration_key (map declaration_in x.declarations.items)
  pub corrections : Keeps (db.trees 22) correction_row correction_key (map correction_in x.corrections.items)
  pub lots : Keeps (db.trees 8) lot_row lot_key (map lot_in x.lots.items)
  pub bare_lots : map lot_in x.lots.items ≡ map bare_lot (map lot_in x.lots.items)
  pub pieces : Keeps (db.trees 10) piece_row piece_key x.pieces.items

-- the rows of all tables, of the two kinds together
abbrev pub rows_of_both : Common → Later → AllRows
rows_of_both x later = record {
  members = x.members;
  production = record { devices = x.issued.devices; declarations = x.issued.declarations; corrections = later.corrections; lots = x.issued.lots; pieces = x.issued.pieces };
  acts = x.acts;
  notices = x.notices;
  carriers = later.carriers;
}

-- the rows of each table are those read
pub record ShowsAll (db : Database) (x : AllRows) : Type 0 where
  pub members : ShowsMembers db x.members
  pub production : ShowsProduction db x.production
  pub acts : ShowsActs db x.acts
  pub notices : ShowsNotices db x.notices
  pub carriers : ShowsCarriers db x.carriers
