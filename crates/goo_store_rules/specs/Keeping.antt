-- The rules over all that was read.
use Rattle.std.specs.Prelude.{◌&&◌, Bool, None, pos, string_bytes, map}
use Rattle.std.specs.List.{list_all}
use Rattle.goo_tables_rows.specs.Rows.{meta_in, holder_in, account_in, device_in, declaration_in, correction_in, lot_in, withdrawal_in, notice_out_in, notice_in_in, device_carrier_in, lot_carrier_in}
use Rattle.goo_spec_tables.specs.Readable.{is_meta, is_holder, is_account, is_device, is_declaration, is_lot, is_piece, is_peer, is_withdrawal, is_correction, is_notice_out, is_notice_in, is_device_carrier, is_lot_carrier}
use Rattle.goo_types.specs.Number.{code_of}
use Rattle.goo_store_rules.specs.WellKept.{is_no_issuer, is_another, covers_aux, account_given, cancellation_given, withdrawal_given, notice_given, is_issued, are_apart, has_holder, has_account, has_device, has_lot, has_cancellation, has_withdrawal, has_sent, has_lot_of, has_over, has_closed, act_in, is_timely, has_declaration, is_declared, is_withdrawn}
use Rattle.goo_store_open.specs.declared.finding.Found.{Found}

-- each value is one that its reader or its limit accepts, the notices' texts aside
abbrev pub has_good_values : Found → Bool
has_good_values x =
    is_meta (meta_in x.meta)
    && (list_all (λ row. is_holder (pos 0, holder_in row)) x.rows.members.holders.items
    && (list_all (λ row. is_account (account_in row)) x.rows.members.accounts.items
    && (list_all (λ row. is_peer (pos 0, row)) x.rows.members.peers.items
    && (list_all (λ row. is_device (pos 0, device_in row)) x.rows.production.devices.items
    && (list_all (λ row. is_declaration (declaration_in row)) x.rows.production.declarations.items
    && (list_all (λ row. is_lot (lot_in row)) x.rows.production.lots.items
    && (list_all is_piece x.rows.production.pieces.items
    && (list_all (λ row. row.is_good) x.rows.acts.receipts.items
    && (list_all (λ row. row.is_good) x.rows.acts.cancellations.items
    && list_all (λ row. is_withdrawal (withdrawal_in row)) x.rows.acts.withdrawals.items)))))))))

-- the same of corrections and carriers
abbrev pub has_good_corrections : Found → Bool
has_good_corrections x =
    list_all (λ row. is_correction (correction_in row)) x.rows.production.corrections.items
    && (list_all (λ row. is_device_carrier (pos 0, device_carrier_in row)) x.rows.carriers.devices.items && list_all (λ row. is_lot_carrier (lot_carrier_in row)) x.rows.carriers.lots.items)

-- numbers given are below the next ones, pieces apart, and nobody is where he can't be
abbrev pub has_its_numbers : Found → Bool
has_its_numbers x =
    list_all (λ row. is_no_issuer (holder_in row)) x.rows.members.holders.items
    && (list_all (is_another x.meta.code) x.rows.members.peers.items
    && (list_all (λ row. covers_aux (declaration_in row)) x.rows.production.declarations.items
    && (are_apart None x.rows.production.pieces.items
    && (list_all (is_issued x.meta.code x.meta.next_serial) x.rows.production.pieces.items
    && (list_all (λ row. account_given x.meta.next_account (account_in row)) x.rows.members.accounts.items
    && (list_all (cancellation_given x.meta.next_cancellation) x.rows.acts.cancellations.items
    && (list_all (λ row. withdrawal_given x.meta.next_withdrawal (withdrawal_in row)) x.rows.acts.withdrawals.items
    && list_all (λ row. notice_given x.meta.next_notice (notice_out_in row)) x.rows.notices.sent.items)))))))

-- each holder, device and account that rows name is there
abbrev pub has_its_names : Found → Bool
has_its_names x =
    let accounts = map account_in x.rows.members.accounts.items in
    list_all (λ row. has_holder (map holder_in x.rows.members.holders.items) (string_bytes row.holder)) x.rows.members.accounts.items
    && (list_all (λ row. has_device (map device_in x.rows.production.devices.items) (string_bytes row.device)) x.rows.production.declarations.items
    && ((list_all (λ row. has_account accounts row.account) x.rows.production.devices.items && list_all (λ row. has_account accounts row.account) x.rows.production.pieces.items)
    && (list_all (λ row. has_account accounts row.account) x.rows.acts.cancellations.items && list_all (λ row. has_account accounts row.account) x.rows.notices.sent.items)))

-- each act and lot that pieces name is there, and their places are in time
abbrev pub has_its_places : Found → Bool
has_its_places x =
    let lots = map lot_in x.rows.production.lots.items in
    list_all (act_in (has_cancellation x.rows.acts.cancellations.items) (has_withdrawal (map withdrawal_in x.rows.acts.withdrawals.items)) (has_sent (map notice_out_in x.rows.notices.sent.items))) x.rows.production.pieces.items
    && (list_all (λ row. has_lot_of (code_of row.first) lots row.lot) x.rows.production.pieces.items
    && list_all (is_timely (has_over (string_bytes x.meta.today) lots) (has_closed (map account_in x.rows.members.accounts.items))) x.rows.production.pieces.items)

-- notices are kept under their senders and numbers, as their texts
abbrev pub has_its_notices : Found → Bool
has_its_notices x =
    list_all (λ row. is_notice_out x.meta.code (notice_out_in row)) x.rows.notices.sent.items
    && list_all (λ row. is_notice_in (pos 0, notice_in_in row)) x.rows.notices.came.items

-- each own lot and each correction has its declaration, and the withdrawals that corrections name are there
abbrev pub has_its_declarations : Found → Bool
has_its_declarations x =
    let declared = has_declaration (map declaration_in x.rows.production.declarations.items) in
    (list_all (λ row. is_declared declared x.meta.code (lot_in row)) x.rows.production.lots.items
    && list_all (λ row. declared (string_bytes row.device) (string_bytes row.first_day)) x.rows.production.corrections.items)
    && list_all (λ row. is_withdrawn (has_withdrawal (map withdrawal_in x.rows.acts.withdrawals.items)) row.withdrawal) x.rows.production.corrections.items

-- the device and the lot of each carrier is there
abbrev pub has_its_carriers : Found → Bool
has_its_carriers x =
    list_all (λ row. has_device (map device_in x.rows.production.devices.items) (string_bytes row.gsrn)) x.rows.carriers.devices.items
    && list_all (λ row. has_lot (map lot_in x.rows.production.lots.items) row.lot) x.rows.carriers.lots.items
