-- The rules on single values, judged over what was read, are those of the tables.
use Rattle.std.proofs.Common.{◌≡◌, Bool, true, ◌&&◌, List, map, pos, refl, sym, ap, ◌∙◌}
use Rattle.std.specs.List.{list_all}
use Rattle.std.proofs.lemmas.Bool.{and_parts, and_from}
use Rattle.std.proofs.lemmas.List.Folds.{list_all-map}
use Rattle.goo_tables_rows.specs.Rows.{Tables, Kept, Device, Lot, Cancellation, AreCarriedDevices, AreCarriedLots, bare_device, bare_lot, holder_in, account_in, device_in, declaration_in, correction_in, device_carrier_in, lot_carrier_in, lot_in, withdrawal_in, notice_out_in, notice_in_in}
use Rattle.goo_tables_rows.specs.declared.device.DeviceRow.{DeviceRow}
use Rattle.goo_tables_rows.specs.declared.lot.LotRow.{LotRow}
use Rattle.goo_store_receipts.specs.Judged.{judged_cancellation}
use Rattle.goo_store_receipts.specs.declared.receipts.JudgedReceipt.{JudgedReceipt}
use Rattle.goo_store_receipts.specs.declared.cancellations.JudgedCancellation.{JudgedCancellation}
use Rattle.goo_store_open.specs.Found.{AreOf, values}
use Rattle.goo_store_open.specs.declared.finding.Found.{Found}
use Rattle.goo_spec_tables.specs.Kept.{AreReadableIn}
use Rattle.goo_spec_tables.specs.Readable.{is_meta, is_holder, is_account, is_device, is_declaration, is_lot, is_piece, is_peer, is_receipt, is_cancellation, is_withdrawal, is_correction, is_notice_out, is_notice_in, is_device_carrier, is_lot_carrier}
use Rattle.goo_store_rules.specs.Keeping.{has_good_values, has_good_corrections, has_its_notices}
use Rattle.goo_store_rules.proofs.Bare.{devices_accepted, devices_accepted_bare, lots_accepted, lots_accepted_bare}

-- a rule over rows that were read, as one over the rows that are kept
pub rows_same : {X Y : Type 0} (p : Y → Bool) (f : X → Y) (items : List X) (xs : List Y) → map f items ≡ xs → list_all (λ row. p (f row)) items ≡ list_all p xs
rows_same p f items xs is = sym (list_all-map p f items) ∙ ap (list_all p) is

-- the same where they are kept under rowids of their own
pub kept_same : {X Y : Type 0} (p : Y → Bool) (f : X → Y) (items : List X) (ks : List (Kept Y)) → map f items ≡ values ks → list_all (λ row. p (f row)) items ≡ list_all (λ k. p k.1) ks
kept_same p f items ks is = rows_same p f items (values ks) is ∙ list_all-map p (λ k. k.1) ks

-- the same where devices and lots were read without their carriers
pub devices_same : (p : Device → Bool) (items : List DeviceRow) (ks : List (Kept Device)) → map device_in items ≡ map bare_device (values ks) → list_all (λ row. p (device_in row)) items ≡ list_all (λ k. p (bare_device k.1)) ks
devices_same p items ks is = rows_same p device_in items (map bare_device (values ks)) is ∙ list_all-map p bare_device (values ks) ∙ list_all-map (λ d. p (bare_device d)) (λ k. k.1) ks

pub lots_same : (p : Lot → Bool) (items : List LotRow) (ls : List Lot) → map lot_in items ≡ map bare_lot ls → list_all (λ row. p (lot_in row)) items ≡ list_all (λ l. p (bare_lot l)) ls
lots_same p items ls is = rows_same p lot_in items (map bare_lot ls) is ∙ list_all-map p bare_lot ls

-- the same of cancellations, which were judged as they were read
pub judged_same : (p : JudgedCancellation → Bool) (items : List JudgedCancellation) (cs : List Cancellation) → items ≡ map judged_cancellation cs → list_all p items ≡ list_all (λ c. p (judged_cancellation c)) cs
judged_same p items cs is = ap (list_all p) is ∙ list_all-map p judged_cancellation cs

module _ (t : Tables) (x : Found) (are : AreOf t x) where
  -- each of the rules on values, and all of them
  good_values : has_good_values x
      ≡ (is_meta t.meta && (list_all is_holder t.holders && (list_all is_account t.accounts && (list_all is_peer t.peers && (list_all (λ k. is_device (k.0, bare_device k.1)) t.devices && (list_all is_declaration t.declarations
      && (list_all (λ l. is_lot (bare_lot l)) t.lots && (list_all is_piece t.pieces && (list_all is_receipt t.receipts && (list_all is_cancellation t.cancellations && list_all is_withdrawal t.withdrawals))))))))))
  good_values =
      let holders = kept_same (λ h. is_holder (pos 0, h)) holder_in x.rows.members.holders.items t.holders are.holders in
      let accounts = rows_same is_account account_in x.rows.members.accounts.items t.accounts are.accounts in
      let peers : list_all (λ row. is_peer (pos 0, row)) x.rows.members.peers.items ≡ list_all is_peer t.peers = ap (list_all (λ p. is_peer (pos 0, p))) are.peers ∙ list_all-map (λ p. is_peer (pos 0, p)) (λ k. k.1) t.peers in
      let devices = devices_same (λ d. is_device (pos 0, d)) x.rows.production.devices.items t.devices are.devices in
      let declarations = rows_same is_declaration declaration_in x.rows.production.declarations.items t.declarations are.declarations in
      let lots = lots_same is_lot x.rows.production.lots.items t.lots are.lots in
      let receipts : list_all (λ row. row.is_good) x.rows.acts.receipts.items ≡ list_all is_receipt t.receipts = rows_same (λ (good : Bool). good) (λ (row : JudgedReceipt). row.is_good) x.rows.acts.receipts.items (map is_receipt t.receipts) are.receipts ∙ list_all-map (λ (good : Bool). good) is_receipt t.receipts in
      let cancellations = judged_same (λ row. row.is_good) x.rows.acts.cancellations.items t.cancellations are.cancellations in
      let withdrawals = rows_same is_withdrawal withdrawal_in x.rows.acts.withdrawals.items t.withdrawals are.withdrawals in
      λ i. is_meta (are.meta i) && (holders i && (accounts i && (peers i && (devices i && (declarations i && (lots i && (list_all is_piece (are.pieces i) && (receipts i && (cancellations i && withdrawals i)))))))))

  good_corrections : has_good_corrections x ≡ (list_all is_correction t.corrections && (list_all is_device_carrier t.device_carriers && list_all is_lot_carrier t.lot_carriers))
  good_corrections =
      let corrections = rows_same is_correction correction_in x.rows.production.corrections.items t.corrections are.corrections in
      let devices = kept_same (λ c. is_device_carrier (pos 0, c)) device_carrier_in x.rows.carriers.devices.items t.device_carriers are.device_carriers in
      let lots = rows_same is_lot_carrier lot_carrier_in x.rows.carriers.lots.items t.lot_carriers are.lot_carriers in
      λ i. corrections i && (devices i && lots i)

  notices : has_its_notices x ≡ (list_all (is_notice_out t.meta.code) t.notices_out && list_all is_notice_in t.notices_in)
  notices =
      let sent = rows_same (is_notice_out x.meta.code) notice_out_in x.rows.notices.sent.items t.notices_out are.notices_out ∙ (λ i. list_all (is_notice_out (are.meta i).code) t.notices_out) in
      let came = kept_same (λ n. is_notice_in (pos 0, n)) notice_in_in x.rows.notices.came.items t.notices_in are.notices_in in
      λ i. sent i && came i

  -- what the rules on values say of the tables, whose devices and lots have the carriers that are kept for them
  pub readable : AreCarriedDevices t.device_carriers t.devices → AreCarriedLots t.lot_carriers t.lots → has_good_values x ≡ true → has_good_corrections x ≡ true → has_its_notices x ≡ true → AreReadableIn t.meta.version t
  readable carried_devices carried_lots good corrected told =
      let a = and_parts _ _ (sym good_values ∙ good) in
      let b = and_parts _ _ a.1 in
      let c = and_parts _ _ b.1 in
      let d = and_parts _ _ c.1 in
      let e = and_parts _ _ d.1 in
      let f = and_parts _ _ e.1 in
      let g = and_parts _ _ f.1 in
      let h = and_parts _ _ g.1 in
      let j = and_parts _ _ h.1 in
      let k = and_parts _ _ j.1 in
      let n = and_parts _ _ (sym notices ∙ told) in
      let o = and_parts _ _ (sym good_corrections ∙ corrected) in
      let p = and_parts _ _ o.1 in
      record {
        version = refl;
        meta = a.0;
        holders = b.0;
        accounts = c.0;
        peers = d.0;
        devices = devices_accepted t.device_carriers t.devices carried_devices p.0 e.0;
        declarations = f.0;
        lots = lots_accepted t.lot_carriers t.lots carried_lots p.1 g.0;
        pieces = h.0;
        receipts = j.0;
        cancellations = k.0;
        withdrawals = k.1;
        notices_out = n.0;
        notices_in = n.1;
        corrections = o.0;
        device_carriers = p.0;
        lot_carriers = p.1;
      }

  pub values_good : AreReadableIn t.meta.version t → has_good_values x ≡ true
  values_good it =
      good_values
      ∙ and_from _ _ it.meta (and_from _ _ it.holders (and_from _ _ it.accounts (and_from _ _ it.peers (and_from _ _ (devices_accepted_bare t.devices it.devices) (and_from _ _ it.declarations
      (and_from _ _ (lots_accepted_bare t.lots it.lots) (and_from _ _ it.pieces (and_from _ _ it.receipts (and_from _ _ it.cancellations it.withdrawals)))))))))

  pub corrections_good : AreReadableIn t.meta.version t → has_good_corrections x ≡ true
  corrections_good it = good_corrections ∙ and_from _ _ it.corrections (and_from _ _ it.device_carriers it.lot_carriers)

  pub notices_good : AreReadableIn t.meta.version t → has_its_notices x ≡ true
  notices_good it = notices ∙ and_from _ _ it.notices_out it.notices_in
