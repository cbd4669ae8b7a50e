-- The tables that a database holds are those that its trees say.
use Rattle.std.proofs.Common.{◌≡◌, ℕ, List, [], ◌∷◌, map, Option, Some, None, refl, sym, ap, ap₂, subst, ◌∙◌}
use Rattle.sqlite.specs.Effect.{Database}
use Rattle.goo_tables_rows.specs.Rows.{Tables, tables_of, first_row, meta_at, Device, Lot, Kept, holder_at, holder_row, account_at, account_row, device_at, device_row, declaration_at, declaration_row, lot_at, lot_row, piece_at, piece_row, peer_at, peer_row, receipt_at, receipt_row, cancellation_at, cancellation_row, withdrawal_at, withdrawal_row, notice_out_at, notice_out_row, notice_in_at, notice_in_row, correction_row, correction_at, device_carrier_row, device_carrier_at, lot_carrier_row, lot_carrier_at, DeviceCarrier, LotCarrier, carried_device, carried_lot, AreCarriedDevices, AreCarriedLots, bare_device, bare_lot}
use Rattle.goo_tables_rows.specs.Stands.{Stands}

map_back : {X Y : Type 0} (f : X → Y) (g : Y → X) → ((x : X) → g (f x) ≡ x) → (xs : List X) → map g (map f xs) ≡ xs
map_back f g back [] = refl
map_back f g back (x ∷ xs) = λ i. back x i ∷ map_back f g back xs i

decoded_device : (k : Kept Device) → device_at (device_row k) ≡ (k.0, bare_device k.1)
decoded_device k = go k.1.last_day refl
  where
    go : (o : Option (List ℕ)) → k.1.last_day ≡ o → device_at (device_row k) ≡ (k.0, bare_device k.1)
    go None is = rw is
    go (Some day) is = rw is

decoded_lot : (l : Lot) → lot_at (lot_row l) ≡ bare_lot l
decoded_lot l = go l.expires_on refl
  where
    go : (o : Option (List ℕ)) → l.expires_on ≡ o → lot_at (lot_row l) ≡ bare_lot l
    go None is = rw is
    go (Some day) is = rw is

-- the rows as they are read, with what is kept for them
devices_back : (carriers : List (Kept DeviceCarrier)) (ks : List (Kept Device)) → AreCarriedDevices carriers ks → map (carried_device carriers) (map device_at (map device_row ks)) ≡ ks
devices_back carriers [] all = refl
devices_back carriers (k ∷ ks) all =
    λ i. (ap (carried_device carriers) (decoded_device k) ∙ (λ j. (k.0, record k.1 { carrier = sym all.0 j }))) i ∷ devices_back carriers ks all.1 i

lots_back : (carriers : List LotCarrier) (ls : List Lot) → AreCarriedLots carriers ls → map (carried_lot carriers) (map lot_at (map lot_row ls)) ≡ ls
lots_back carriers [] all = refl
lots_back carriers (l ∷ ls) all =
    λ i. (ap (carried_lot carriers) (decoded_lot l) ∙ (λ j. record l { carrier = sym all.0 j })) i ∷ lots_back carriers ls all.1 i

pub decoded : (db : Database) (t : Tables) → Stands db t → tables_of db.trees ≡ t
unfolding tables_of
decoded db t it =
    let meta = subst (λ rows. meta_at (first_row rows) ≡ t.meta) (sym it.meta) refl in
    let holders = ap (map holder_at) it.holders.are ∙ map_back holder_row holder_at (λ _. refl) t.holders in
    let accounts = ap (map account_at) it.accounts.are ∙ map_back account_row account_at (λ _. refl) t.accounts in
    let declarations = ap (map declaration_at) it.declarations.are ∙ map_back declaration_row declaration_at (λ _. refl) t.declarations in
    let pieces = ap (map piece_at) it.pieces.are ∙ map_back piece_row piece_at (λ _. refl) t.pieces in
    let peers = ap (map peer_at) it.peers.are ∙ map_back peer_row peer_at (λ _. refl) t.peers in
    let receipts = ap (map receipt_at) it.receipts.are ∙ map_back receipt_row receipt_at (λ _. refl) t.receipts in
    let cancellations = ap (map cancellation_at) it.cancellations.are ∙ map_back cancellation_row cancellation_at (λ _. refl) t.cancellations in
    let withdrawals = ap (map withdrawal_at) it.withdrawals.are ∙ map_back withdrawal_row withdrawal_at (λ _. refl) t.withdrawals in
    let notices_out = ap (map notice_out_at) it.notices_out.are ∙ map_back notice_out_row notice_out_at (λ _. refl) t.notices_out in
    let notices_in = ap (map notice_in_at) it.notices_in.are ∙ map_back notice_in_row notice_in_at (λ _. refl) t.notices_in in
    let corrections = ap (map correction_at) it.corrections.are ∙ map_back correction_row correction_at (λ _. refl) t.corrections in
    let device_carriers = ap (map device_carrier_at) it.device_carriers.are ∙ map_back device_carrier_row device_carrier_at (λ _. refl) t.device_carriers in
    let lot_carriers = ap (map lot_carrier_at) it.lot_carriers.are ∙ map_back lot_carrier_row lot_carrier_at (λ _. refl) t.lot_carriers in
    let devices = ap₂ (λ cs ks. map (carried_device cs) (map device_at ks)) device_carriers it.devices.are ∙ devices_back t.device_carriers t.devices it.devices_carried in
    let lots = ap₂ (λ cs ls. map (carried_lot cs) (map lot_at ls)) lot_carriers it.lots.are ∙ lots_back t.lot_carriers t.lots it.lots_carried in
    λ i. record { meta = meta i; holders = holders i; accounts = accounts i; devices = devices i; declarations = declarations i; lots = lots i; pieces = pieces i; peers = peers i; receipts = receipts i; cancellations = cancellations i; withdrawals = withdrawals i; notices_out = notices_out i; notices_in = notices_in i; corrections = corrections i; device_carriers = device_carriers i; lot_carriers = lot_carriers i }
