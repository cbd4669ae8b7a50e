-- Devices and lots get the carriers that two tables keep for them: the rows of their own tables stay, and without carriers they are what was read.
use Rattle.std.proofs.Common.{◌≡◌, List, [], ◌∷◌, map, All, inl, refl, sym, ap, ◌∙◌}
use Rattle.std.proofs.lemmas.List.Elements.{All-nil, All-cons, All-head, All-tail}
use Rattle.sqlite.specs.Order.{Row}
use Rattle.sqlite_keyed.proofs.ListLemmas.{all-map, ascending-map, map-map}
use Rattle.goo_tables_rows.specs.Readable.{device_readable, lot_readable}
use Rattle.goo_tables_rows.specs.Rows.{Kept, kept_key, Device, DeviceCarrier, Lot, LotCarrier, device_columns, device_row, lot_columns, lot_row, lot_key, carried_device, carried_lot, AreCarriedDevices, AreCarriedLots, bare_device, bare_lot}
use Rattle.goo_tables_rows.specs.Stands.{Keeps}

module _ (carriers : List (Kept DeviceCarrier)) where
  pub devices_kept : (rows : List Row) (ks : List (Kept Device)) → Keeps rows device_row kept_key ks → Keeps rows device_row kept_key (map (carried_device carriers) ks)
  devices_kept rows ks it = record { are = it.are ∙ sym (map-map device_row (carried_device carriers) ks); rise = ascending-map _ (carried_device carriers) ks it.rise }

  pub devices_carried : (ks : List (Kept Device)) → AreCarriedDevices carriers (map (carried_device carriers) ks)
  devices_carried ks = all-map _ (carried_device carriers) (λ _. refl) ks

  -- without its carrier a device is as it was
  pub devices_bare : (ks : List (Kept Device)) (ds : List Device) → map (λ (k : Kept Device). k.1) ks ≡ ds → ds ≡ map bare_device ds → ds ≡ map bare_device (map (λ (k : Kept Device). k.1) (map (carried_device carriers) ks))
  devices_bare ks ds read bare =
      bare ∙ ap (map bare_device) (sym read) ∙ map-map bare_device (λ (k : Kept Device). k.1) ks
      ∙ sym (ap (map bare_device) (map-map (λ (k : Kept Device). k.1) (carried_device carriers) ks) ∙ map-map bare_device (λ (k : Kept Device). (carried_device carriers k).1) ks)

module _ (carriers : List LotCarrier) where
  pub lots_kept : (rows : List Row) (ls : List Lot) → Keeps rows lot_row lot_key ls → Keeps rows lot_row lot_key (map (carried_lot carriers) ls)
  lots_kept rows ls it = record { are = it.are ∙ sym (map-map lot_row (carried_lot carriers) ls); rise = ascending-map _ (carried_lot carriers) ls it.rise }

  pub lots_carried : (ls : List Lot) → AreCarriedLots carriers (map (carried_lot carriers) ls)
  lots_carried ls = all-map _ (carried_lot carriers) (λ _. refl) ls

  pub lots_bare : (ls : List Lot) → ls ≡ map bare_lot ls → ls ≡ map bare_lot (map (carried_lot carriers) ls)
  lots_bare ls bare = bare ∙ sym (map-map bare_lot (carried_lot carriers) ls)

-- a row that can be read with its carrier can be read without
pub devices_read : (ks : List (Kept Device)) → All device_readable (map (λ (k : Kept Device). device_columns k.1) ks) → All device_readable (map (λ (k : Kept Device). device_columns (bare_device k.1)) ks)
devices_read [] all = All-nil device_readable
devices_read (k ∷ ks) all =
    let here = All-head device_readable (device_columns k.1) (map (λ (k : Kept Device). device_columns k.1) ks) all in
    All-cons device_readable (device_columns (bare_device k.1)) (map (λ (k : Kept Device). device_columns (bare_device k.1)) ks) (here.0, here.1, here.2, here.3, here.4, here.5, inl refl)
    (devices_read ks (All-tail device_readable (device_columns k.1) (map (λ (k : Kept Device). device_columns k.1) ks) all))

pub lots_read : (ls : List Lot) → All (lot_readable 0) (map lot_columns ls) → All (lot_readable 0) (map (λ (l : Lot). lot_columns (bare_lot l)) ls)
lots_read [] all = All-nil (lot_readable 0)
lots_read (l ∷ ls) all =
    let here = All-head (lot_readable 0) (lot_columns l) (map lot_columns ls) all in
    All-cons (lot_readable 0) (lot_columns (bare_lot l)) (map (λ (l : Lot). lot_columns (bare_lot l)) ls) (here.0, here.1, here.2, here.3, here.4, here.5, here.6, here.7, here.8, inl refl)
    (lots_read ls (All-tail (lot_readable 0) (lot_columns l) (map lot_columns ls) all))
