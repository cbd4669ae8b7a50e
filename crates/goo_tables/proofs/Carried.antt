-- Devices and lots keep their carriers where a row of either is added.
use Rattle.std.proofs.Common.{◌≡◌, ℕ, ℤ, pos, Bool, true, false, cond, List, [], ◌∷◌, find, Some, None, option_map, is_some, refl, sym, ap, ◌∙◌, Less, Equal, Greater, Ordering, int_cmp, int_eq, arith, true≢false}
use Rattle.std.specs.List.{AllByRecursion}
use Rattle.std.specs.Ordering.{match_ordering, is_eq}
use Rattle.std.proofs.lemmas.Int.{ints}
use Rattle.std.proofs.lemmas.Cmp.{nat_list_cmp_total}
use Rattle.sqlite_typed.specs.Tests.{bytes_eq, bytes_cmp}
use Rattle.sqlite_typed.proofs.TestLemmas.{turn_eq, bytes_eq_refl}
use Rattle.sqlite_keyed.specs.Keyed.{get_by, has_key, insert_by, next_key, IsKeyedBy}
use Rattle.sqlite_keyed.proofs.KeyedLemmas.{all-insert_by, next_key_is_free}
use Rattle.sqlite_keyed.proofs.ListLemmas.{all_both}
use Rattle.goo_tables_rows.specs.Rows.{Kept, kept_key, Device, DeviceCarrier, Lot, lot_key, LotCarrier, lot_carrier_key, carrier_of_device, carrier_of_lot, AreCarriedDevices, AreCarriedLots}
use Rattle.goo_tables_accounts.specs.Changes.{added}
use Rattle.goo_tables_accounts.proofs.Failing.{none_pass}

-- ---- a row more under a key of its own

module _ {A : Type 0} (key : A → ℤ) (test : A → Bool) (x : A) where
  -- a test that it doesn't pass finds what it found
  find_past : test x ≡ false → (xs : List A) → has_key key xs (key x) ≡ false → find test (insert_by key xs x) ≡ find test xs
  find_past fails [] free = ap (λ b. cond b (Some x) None) fails
  find_past fails (y ∷ ys) free = go (int_eq (key y) (key x)) refl free (find_past fails ys)
    where
      go : (b : Bool) → int_eq (key y) (key x) ≡ b → is_some (cond b (Some y) (get_by key ys (key x))) ≡ false → (has_key key ys (key x) ≡ false → find test (insert_by key ys x) ≡ find test ys)
          → find test (insert_by key (y ∷ ys) x) ≡ find test (y ∷ ys)
      go true is none more = absurd (true≢false none)
      go false is none more = at (int_cmp (key y) (key x)) is (more none)
        where
          at : (o : Ordering) → is_eq o ≡ false → find test (insert_by key ys x) ≡ find test ys → find test (match_ordering o (y ∷ insert_by key ys x) (x ∷ ys) (x ∷ y ∷ ys)) ≡ find test (y ∷ ys)
          at Less apart more = ap (cond (test y) (Some y)) more
          at Equal apart more = absurd (true≢false apart)
          at Greater apart more = ap (λ b. cond b (Some x) (find test (y ∷ ys))) fails

  -- a test that it alone passes finds it
  find_put : test x ≡ true → (xs : List A) → AllByRecursion (λ y. test y ≡ false) xs → find test (insert_by key xs x) ≡ Some x
  find_put passes [] none = ap (λ b. cond b (Some x) None) passes
  find_put passes (y ∷ ys) none = at (int_cmp (key y) (key x)) (find_put passes ys none.1)
    where
      at : (o : Ordering) → find test (insert_by key ys x) ≡ Some x → find test (match_ordering o (y ∷ insert_by key ys x) (x ∷ ys) (x ∷ y ∷ ys)) ≡ Some x
      at Less more = ap (λ b. cond b (Some y) (find test (insert_by key ys x))) none.0 ∙ more
      at Equal more = ap (λ b. cond b (Some x) (find test ys)) passes
      at Greater more = ap (λ b. cond b (Some x) (find test (y ∷ ys))) passes

-- ---- devices

turned : (a b : List ℕ) → bytes_eq a b ≡ false → bytes_eq b a ≡ false
turned a b apart = sym (turn_eq bytes_cmp nat_list_cmp_total a b) ∙ apart

-- the row of a carrier of which no device has the number
pub devices_keep : (cs : List (Kept DeviceCarrier)) (x : DeviceCarrier) (devices : List (Kept Device)) → IsKeyedBy kept_key cs → find (λ (k : Kept Device). bytes_eq k.1.gsrn x.gsrn) devices ≡ None → AreCarriedDevices cs devices
    → AreCarriedDevices (added cs x) devices
devices_keep cs x devices keyed none carried =
    all_both (λ (k : Kept Device). bytes_eq k.1.gsrn x.gsrn ≡ false) (λ k. k.1.carrier ≡ carrier_of_device cs k.1.gsrn) (λ k. k.1.carrier ≡ carrier_of_device (added cs x) k.1.gsrn)
    (λ k apart is. is ∙ ap (option_map (λ (c : Kept DeviceCarrier). c.1.carrier)) (sym (find_past kept_key (λ (c : Kept DeviceCarrier). bytes_eq c.1.gsrn k.1.gsrn) (next_key kept_key cs, x) (turned k.1.gsrn x.gsrn apart) cs (next_key_is_free kept_key cs keyed))))
    devices (none_pass _ devices none) carried

pub device_has : (cs : List (Kept DeviceCarrier)) (x : DeviceCarrier) → find (λ (c : Kept DeviceCarrier). bytes_eq c.1.gsrn x.gsrn) cs ≡ None → carrier_of_device (added cs x) x.gsrn ≡ Some x.carrier
device_has cs x none =
    ap (option_map (λ (c : Kept DeviceCarrier). c.1.carrier)) (find_put kept_key (λ (c : Kept DeviceCarrier). bytes_eq c.1.gsrn x.gsrn) (next_key kept_key cs, x) (bytes_eq_refl x.gsrn) cs (none_pass _ cs none))

pub device_added : (cs : List (Kept DeviceCarrier)) (devices : List (Kept Device)) (x : Device) → x.carrier ≡ carrier_of_device cs x.gsrn → AreCarriedDevices cs devices → AreCarriedDevices cs (added devices x)
device_added cs devices x is carried = all-insert_by kept_key (λ (k : Kept Device). k.1.carrier ≡ carrier_of_device cs k.1.gsrn) devices (next_key kept_key devices, x) is carried

-- ---- lots

apart_back : (a b : ℤ) → int_eq a b ≡ false → int_eq b a ≡ false
apart_back a b apart = grind (arith, ints)

itself : (a : ℤ) → int_eq a a ≡ true
itself a = grind (arith, ints)

-- the row of a carrier of which no lot has the number
pub lots_keep : (cs : List LotCarrier) (x : LotCarrier) (lots : List Lot) → get_by lot_carrier_key cs (pos x.lot) ≡ None → get_by lot_key lots (pos x.lot) ≡ None → AreCarriedLots cs lots → AreCarriedLots (insert_by lot_carrier_key cs x) lots
lots_keep cs x lots free none carried =
    all_both (λ (l : Lot). int_eq (lot_key l) (pos x.lot) ≡ false) (λ l. l.carrier ≡ carrier_of_lot cs l.id) (λ l. l.carrier ≡ carrier_of_lot (insert_by lot_carrier_key cs x) l.id)
    (λ l apart is. is ∙ ap (option_map (λ (c : LotCarrier). c.carrier)) (sym (find_past lot_carrier_key (λ (c : LotCarrier). int_eq (lot_carrier_key c) (pos l.id)) x (apart_back (pos l.id) (pos x.lot) apart) cs (ap is_some free))))
    lots (none_pass _ lots none) carried

pub lot_has : (cs : List LotCarrier) (x : LotCarrier) → get_by lot_carrier_key cs (pos x.lot) ≡ None → carrier_of_lot (insert_by lot_carrier_key cs x) x.lot ≡ Some x.carrier
lot_has cs x none =
    ap (option_map (λ (c : LotCarrier). c.carrier)) (find_put lot_carrier_key (λ (c : LotCarrier). int_eq (lot_carrier_key c) (pos x.lot)) x (itself (pos x.lot)) cs (none_pass _ cs none))

pub lot_added : (cs : List LotCarrier) (lots : List Lot) (x : Lot) → x.carrier ≡ carrier_of_lot cs x.id → AreCarriedLots cs lots → AreCarriedLots cs (insert_by lot_key lots x)
lot_added cs lots x is carried = all-insert_by lot_key (λ (l : Lot). l.carrier ≡ carrier_of_lot cs l.id) lots x is carried
