-- Devices and lots without their carriers: none of the rules but those on values looks at a carrier.
use Rattle.std.proofs.Common.{◌≡◌, ◌&&◌, ℕ, ℤ, pos, Bool, true, false, cond, int_eq, List, [], ◌∷◌, map, find, Option, Some, None, option_map, refl, sym, ap, ◌∙◌}
use Rattle.std.specs.Prelude.{sum_by, nat_le}
use Rattle.std.specs.List.{list_all}
use Rattle.std.proofs.lemmas.Bool.{and_parts, and_from}
use Rattle.sqlite_keyed.specs.Keyed.{get_by}
use Rattle.sqlite_keyed.proofs.ListLemmas.{all_from_test, all_weaker, test_from_all, all_both}
use Rattle.sqlite_typed.specs.Tests.{bytes_eq}
use Rattle.goo_types.specs.Carrier.{carrier_reading}
use Rattle.goo_types.specs.Day.{day_reading}
use Rattle.goo_types.specs.Gsrn.{gsrn_reading}
use Rattle.goo_types.specs.Lot.{IsLot}
use Rattle.goo_spec.specs.State.{Correction}
use Rattle.goo_tables_rows.specs.Beside.{beside}
use Rattle.goo_tables_rows.specs.Rows.{Kept, Device, DeviceCarrier, Lot, LotCarrier, lot_key, AreCarriedDevices, AreCarriedLots, bare_device, bare_lot}
use Rattle.goo_tables_rows.specs.declared.piece.PieceRow.{PieceRow}
use Rattle.goo_spec_tables.specs.Places.{lot_of, piece_of}
use Rattle.goo_spec_tables.specs.Readable.{reads, is_act, is_code, is_plant, is_maybe_day, is_other, is_maybe_other, is_device, is_device_carrier, is_lot, is_lot_carrier}
use Rattle.goo_spec_tables.proofs.Known.{find-values}
use Rattle.goo_store_rules.specs.Production.{standing_in, standing_of, standing_by}
use Rattle.goo_store_rules.proofs.IssueLemmas.{standing_rows}

-- ---- values: what is accepted of a row is what is accepted of it without its carrier, and its carrier

sixth_apart : (a b c d e f : Bool) → a && (b && (c && (d && (e && f)))) ≡ (a && (b && (c && (d && (e && true))))) && f
sixth_apart false b c d e f = refl
sixth_apart true false c d e f = refl
sixth_apart true true false d e f = refl
sixth_apart true true true false e f = refl
sixth_apart true true true true false f = refl
sixth_apart true true true true true f = refl

seventh_apart : (a b c d e f g : Bool) → a && (b && (c && (d && (e && (f && g))))) ≡ (a && (b && (c && (d && (e && (f && true)))))) && g
seventh_apart false b c d e f g = refl
seventh_apart true b c d e f g = sixth_apart b c d e f g

device_parts : (k : Kept Device) → is_device k ≡ is_device (k.0, bare_device k.1) && is_maybe_other k.1.carrier
device_parts k = sixth_apart (reads (gsrn_reading k.1.gsrn)) (is_act k.1.account) (is_plant k.1.plant) (is_maybe_day k.1.last_day) (nat_le k.1.carry 999999) (is_maybe_other k.1.carrier)

lot_parts : (l : Lot) → is_lot l ≡ is_lot (bare_lot l) && is_maybe_other l.carrier
lot_parts l = seventh_apart (is_code l.origin) (reads (gsrn_reading l.device)) (is_plant l.plant) (reads (day_reading l.first_day)) (reads (day_reading l.last_day)) (reads (day_reading l.issued_on)) (is_maybe_other l.carrier)

-- a word among those that are kept is one for another carrier, and so is a missing one
found_other : {X : Type 0} (word : X → List ℕ) (good test : X → Bool) → ((x : X) → good x ≡ true → is_other (carrier_reading (word x)) ≡ true) → (xs : List X) → list_all good xs ≡ true → is_maybe_other (option_map word (find test xs)) ≡ true
found_other word good test so [] all = refl
found_other {X} word good test so (x ∷ xs) all =
    let parts = and_parts (good x) (list_all good xs) all in
    go (test x) (so x parts.0) (found_other word good test so xs parts.1)
  where
    go : (b : Bool) → is_other (carrier_reading (word x)) ≡ true → is_maybe_other (option_map word (find test xs)) ≡ true → is_maybe_other (option_map word (cond b (Some x) (find test xs))) ≡ true
    go true here rest = here
    go false here rest = rest

module _ (carriers : List (Kept DeviceCarrier)) (devices : List (Kept Device)) where
  -- devices that are accepted without their carriers are accepted, where the carriers that are kept are
  pub devices_accepted : AreCarriedDevices carriers devices → list_all is_device_carrier carriers ≡ true → list_all (λ k. is_device (k.0, bare_device k.1)) devices ≡ true → list_all is_device devices ≡ true
  devices_accepted carried words bare =
      test_from_all is_device devices (all_both _ _ (λ k. is_device k ≡ true) (λ k is good. device_parts k ∙ and_from _ _ good (ap is_maybe_other is
      ∙ found_other (λ (c : Kept DeviceCarrier). c.1.carrier) is_device_carrier (λ c. bytes_eq c.1.gsrn k.1.gsrn) (λ c ok. (and_parts (reads (gsrn_reading c.1.gsrn)) (is_other (carrier_reading c.1.carrier)) ok).1) carriers words))
      devices carried (all_from_test (λ k. is_device (k.0, bare_device k.1)) devices bare))

-- and the other way round
pub devices_accepted_bare : (devices : List (Kept Device)) → list_all is_device devices ≡ true → list_all (λ k. is_device (k.0, bare_device k.1)) devices ≡ true
devices_accepted_bare devices all = test_from_all _ devices (all_weaker _ _ (λ k good. (and_parts _ _ (sym (device_parts k) ∙ good)).0) devices (all_from_test is_device devices all))

pub lots_accepted : (carriers : List LotCarrier) (lots : List Lot) → AreCarriedLots carriers lots → list_all is_lot_carrier carriers ≡ true → list_all (λ l. is_lot (bare_lot l)) lots ≡ true → list_all is_lot lots ≡ true
lots_accepted carriers lots carried words bare =
    test_from_all is_lot lots (all_both _ _ (λ l. is_lot l ≡ true) (λ l is good. lot_parts l ∙ and_from _ _ good (ap is_maybe_other is ∙ found_other (λ (c : LotCarrier). c.carrier) is_lot_carrier _ (λ c ok. ok) carriers words))
    lots carried (all_from_test (λ l. is_lot (bare_lot l)) lots bare))

pub lots_accepted_bare : (lots : List Lot) → list_all is_lot lots ≡ true → list_all (λ l. is_lot (bare_lot l)) lots ≡ true
lots_accepted_bare lots all = test_from_all _ lots (all_weaker _ _ (λ l good. (and_parts _ _ (sym (lot_parts l) ∙ good)).0) lots (all_from_test is_lot lots all))

pub lot_accepted_bare : (l : Lot) → is_lot l ≡ true → is_lot (bare_lot l) ≡ true
lot_accepted_bare l good = (and_parts _ _ (sym (lot_parts l) ∙ good)).0

-- ---- rules that see no carrier

pub lot_carried : (l : Lot) → IsLot (lot_of (bare_lot l)) → IsLot (lot_of l)
lot_carried l it = record { commissioned = it.commissioned; rising = it.rising; issued = it.issued; month = it.month }

pub lot_bared : (l : Lot) → IsLot (lot_of l) → IsLot (lot_of (bare_lot l))
lot_bared l it = record { commissioned = it.commissioned; rising = it.rising; issued = it.issued; month = it.month }

-- the row of a lot under a number
bare_found : (lots : List Lot) (id : ℤ) → get_by lot_key (map bare_lot lots) id ≡ option_map bare_lot (get_by lot_key lots id)
bare_found lots id = find-values bare_lot (λ l. int_eq (lot_key l) id) (λ l. int_eq (lot_key l) id) (λ _. refl) lots

module _ (own : ℕ) (lots : List Lot) (cs : List Correction) (device : List ℕ) where
  one_stands : (p : PieceRow) → standing_by own (map bare_lot lots) cs device p ≡ standing_by own lots cs device p
  one_stands p = ap (standing_of own device cs p) (bare_found lots (pos p.lot)) ∙ go (get_by lot_key lots (pos p.lot))
    where
      go : (o : Option Lot) → standing_of own device cs p (option_map bare_lot o) ≡ standing_of own device cs p o
      go None = refl
      go (Some l) = refl

  -- how many of a device's certificates stand
  pub bare_standing : (ps : List PieceRow) → sum_by (standing_in own device cs) (map piece_of (beside (map bare_lot lots) ps)) ≡ sum_by (standing_in own device cs) (map piece_of (beside lots ps))
  bare_standing ps = sym (standing_rows own (map bare_lot lots) cs device ps) ∙ (λ i. sum_by (λ p. one_stands p i) ps) ∙ standing_rows own lots cs device ps
