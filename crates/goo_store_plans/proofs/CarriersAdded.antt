-- Carriers that are kept beside the devices and lots that are there, and one more of them.
use Rattle.std.proofs.Common.{◌≡◌, ℕ, ℤ, pos, ◌&&◌, List, [], ◌∷◌, Bool, true, false, cond, find, is_some, Option, Some, None, refl, ap, sym, ◌∙◌, true≢false}
use Rattle.std.specs.Prelude.{◌||◌, nat_le}
use Rattle.std.specs.List.{list_all, list_any}
use Rattle.std.specs.Ordering.{int_eq, int_cmp, is_eq, match_ordering}
use Rattle.std.specs.declared.cmp.Ordering.{Ordering}
use Rattle.std.specs.declared.cmp.Ordering.TheVariants.{Less, Equal, Greater}
use Rattle.std.proofs.lemmas.Bool.{or_left, or_right}
use Rattle.std.proofs.lemmas.Cmp.{int_eq_equiv}
use Rattle.sqlite_keyed.specs.Keyed.{IsKeyedBy, next_key, get_by, has_key, insert_by}
use Rattle.sqlite_keyed.proofs.KeyedLemmas.{same_int, has_key-insert_by, next_key_is_free}
use Rattle.sqlite_keyed.proofs.RuleLemmas.{first_of_both, second_of_both}
use Rattle.sqlite_keyed.proofs.SliceLemmas.{any_is_found}
use Rattle.sqlite_typed.specs.Tests.{bytes_eq}
use Rattle.goo_types.specs.Gsrn.{gsrn_reading}
use Rattle.goo_tables_rows.specs.Rows.{Kept, kept_key, Device, DeviceCarrier, Lot, lot_key, LotCarrier, lot_carrier_key}
use Rattle.goo_tables_accounts.specs.Changes.{added, with_device_word, with_lot_word}
use Rattle.goo_spec_tables.specs.Readable.{reads, is_act, is_plant, is_maybe_day, is_maybe_other, is_device, is_device_carrier, is_lot_carrier}
use Rattle.goo_spec_tables.proofs.Inserted.{here_too, all_inserted}
use Rattle.goo_spec_tables.proofs.Known.{text_same, text_itself}

-- ---- rows that pass a test

or_turned : (a b c : Bool) → (a || (b || c)) ≡ (b || (a || c))
or_turned true true c = refl
or_turned true false c = refl
or_turned false b c = refl

-- where one row is put in, it passes, or one that was there
any_put : {A : Type 0} (key : A → ℤ) (test : A → Bool) (x : A) (xs : List A) → has_key key xs (key x) ≡ false → list_any test (insert_by key xs x) ≡ (test x || list_any test xs)
any_put key test x [] fresh = refl
any_put key test x (y ∷ ys) fresh =
    let parts = here_too (int_eq (key y) (key x)) y (find (λ a. int_eq (key a) (key x)) ys) fresh in
    go (int_cmp (key y) (key x)) parts.0 (any_put key test x ys parts.1)
  where
    go : (r : Ordering) → is_eq r ≡ false → list_any test (insert_by key ys x) ≡ (test x || list_any test ys)
        → list_any test (match_ordering r (y ∷ insert_by key ys x) (x ∷ ys) (x ∷ y ∷ ys)) ≡ (test x || list_any test (y ∷ ys))
    go Less not_eq rest = ap (λ b. test y || b) rest ∙ or_turned (test y) (test x) (list_any test ys)
    go Equal not_eq rest = absurd (true≢false not_eq)
    go Greater not_eq rest = refl

none_any : {X : Type 0} (p : X → Bool) (xs : List X) → find p xs ≡ None → list_any p xs ≡ false
none_any p xs none = any_is_found p xs ∙ ap is_some none

-- a weaker test is passed too
all_weaker : {X : Type 0} (p q : X → Bool) → ((x : X) → p x ≡ true → q x ≡ true) → (xs : List X) → list_all p xs ≡ true → list_all q xs ≡ true
all_weaker p q so [] all = refl
all_weaker p q so (x ∷ xs) all = λ i. so x (first_of_both (p x) (list_all p xs) all) i && all_weaker p q so xs (second_of_both (p x) (list_all p xs) all) i

-- ---- the carriers of devices

-- the device of each carrier is there
abbrev pub HaveDevices : List (Kept Device) → List (Kept DeviceCarrier) → Type 0
HaveDevices devices cs = list_all (λ c. list_any (λ d. bytes_eq d.1.gsrn c.1.gsrn) devices) cs ≡ true

-- a device that isn't there has no carrier
pub no_device_word : (devices : List (Kept Device)) (cs : List (Kept DeviceCarrier)) (gsrn : List ℕ) → HaveDevices devices cs → find (λ k. bytes_eq k.1.gsrn gsrn) devices ≡ None
    → find (λ k. bytes_eq k.1.gsrn gsrn) cs ≡ None
no_device_word devices [] gsrn there none = refl
no_device_word devices (c ∷ cs) gsrn there none =
    go (bytes_eq c.1.gsrn gsrn) refl (no_device_word devices cs gsrn (second_of_both (list_any (λ d. bytes_eq d.1.gsrn c.1.gsrn) devices) _ there) none)
  where
    go : (b : Bool) → bytes_eq c.1.gsrn gsrn ≡ b → find (λ k. bytes_eq k.1.gsrn gsrn) cs ≡ None → cond b (Some c) (find (λ k. bytes_eq k.1.gsrn gsrn) cs) ≡ None
    go true is rest =
        let here = first_of_both (list_any (λ d. bytes_eq d.1.gsrn c.1.gsrn) devices) _ there in
        let same = ap (λ g. list_any (λ (d : Kept Device). bytes_eq d.1.gsrn g) devices) (text_same c.1.gsrn gsrn is) in
        absurd (true≢false (sym here ∙ same ∙ none_any (λ d. bytes_eq d.1.gsrn gsrn) devices none))
    go false is rest = rest

-- the carrier that a row states
pub device_carrier_of : (k : Kept Device) → is_device k ≡ true → is_maybe_other k.1.carrier ≡ true
device_carrier_of k read =
    let account = second_of_both (reads (gsrn_reading k.1.gsrn)) _ read in
    let plant = second_of_both (is_act k.1.account) _ account in
    let day = second_of_both (is_plant k.1.plant) _ plant in
    let carry = second_of_both (is_maybe_day k.1.last_day) _ day in
    second_of_both (nat_le k.1.carry 999999) _ carry

module _ (devices : List (Kept Device)) (cs : List (Kept DeviceCarrier)) (d : Device) where
  -- the carrier of a device that can be read
  pub device_words_read : (k : ℤ) → is_device (k, d) ≡ true → list_all is_device_carrier cs ≡ true → list_all is_device_carrier (with_device_word cs d.gsrn d.carrier) ≡ true
  device_words_read k read all = go d.carrier (first_of_both (reads (gsrn_reading d.gsrn)) _ read) (device_carrier_of (k, d) read)
    where
      go : (o : Option (List ℕ)) → reads (gsrn_reading d.gsrn) ≡ true → is_maybe_other o ≡ true → list_all is_device_carrier (with_device_word cs d.gsrn o) ≡ true
      go None named other = all
      go (Some word) named other =
          let placed : Kept DeviceCarrier = (next_key kept_key cs, record { gsrn = d.gsrn; carrier = word }) in
          all_inserted kept_key is_device_carrier placed (λ i. named i && other i) cs all

  -- and it stands beside that device
  pub device_words_there : IsKeyedBy kept_key devices → HaveDevices devices cs → HaveDevices (added devices d) (with_device_word cs d.gsrn d.carrier)
  device_words_there rise there = go d.carrier
    where
      placed : Kept Device
      placed = (next_key kept_key devices, d)

      one_more : (gsrn : List ℕ) → list_any (λ e. bytes_eq e.1.gsrn gsrn) (added devices d) ≡ (bytes_eq d.gsrn gsrn || list_any (λ e. bytes_eq e.1.gsrn gsrn) devices)
      one_more gsrn = any_put kept_key (λ e. bytes_eq e.1.gsrn gsrn) placed devices (next_key_is_free kept_key devices rise)

      still : HaveDevices (added devices d) cs
      still =
          all_weaker (λ c. list_any (λ e. bytes_eq e.1.gsrn c.1.gsrn) devices) (λ c. list_any (λ e. bytes_eq e.1.gsrn c.1.gsrn) (added devices d))
          (λ c is. one_more c.1.gsrn ∙ or_right (bytes_eq d.gsrn c.1.gsrn) _ is) cs there

      here : list_any (λ e. bytes_eq e.1.gsrn d.gsrn) (added devices d) ≡ true
      here = one_more d.gsrn ∙ or_left (bytes_eq d.gsrn d.gsrn) _ (text_itself d.gsrn d.gsrn refl)

      go : (o : Option (List ℕ)) → HaveDevices (added devices d) (with_device_word cs d.gsrn o)
      go None = still
      go (Some word) =
          let more : Kept DeviceCarrier = (next_key kept_key cs, record { gsrn = d.gsrn; carrier = word }) in
          all_inserted kept_key (λ c. list_any (λ e. bytes_eq e.1.gsrn c.1.gsrn) (added devices d)) more here cs still

-- ---- the carriers of lots

-- the lot of each carrier is there
abbrev pub HaveLots : List Lot → List LotCarrier → Type 0
HaveLots lots cs = list_all (λ c. has_key lot_key lots (pos c.lot)) cs ≡ true

-- a lot that isn't there has no carrier
pub no_lot_word : (lots : List Lot) (cs : List LotCarrier) (id : ℕ) → HaveLots lots cs → has_key lot_key lots (pos id) ≡ false → get_by lot_carrier_key cs (pos id) ≡ None
no_lot_word lots [] id there fresh = refl
no_lot_word lots (c ∷ cs) id there fresh = go (int_eq (pos c.lot) (pos id)) refl (no_lot_word lots cs id (second_of_both (has_key lot_key lots (pos c.lot)) _ there) fresh)
  where
    go : (b : Bool) → int_eq (pos c.lot) (pos id) ≡ b → get_by lot_carrier_key cs (pos id) ≡ None → cond b (Some c) (get_by lot_carrier_key cs (pos id)) ≡ None
    go true is rest = absurd (true≢false (sym (first_of_both (has_key lot_key lots (pos c.lot)) _ there) ∙ ap (has_key lot_key lots) (same_int (pos c.lot) (pos id) is) ∙ fresh))
    go false is rest = rest

-- the carrier of a lot that can be read
pub lot_words_read : (cs : List LotCarrier) (id : ℕ) (o : Option (List ℕ)) → is_maybe_other o ≡ true → list_all is_lot_carrier cs ≡ true → list_all is_lot_carrier (with_lot_word cs id o) ≡ true
lot_words_read cs id None other all = all
lot_words_read cs id (Some word) other all = let more : LotCarrier = record { lot = id; carrier = word } in all_inserted lot_carrier_key is_lot_carrier more other cs all

-- and it stands beside that lot
pub lot_words_there : (lots : List Lot) (cs : List LotCarrier) (x : Lot) → has_key lot_key lots (lot_key x) ≡ false → HaveLots lots cs → HaveLots (insert_by lot_key lots x) (with_lot_word cs x.id x.carrier)
lot_words_there lots cs x fresh there = go x.carrier
  where
    still : HaveLots (insert_by lot_key lots x) cs
    still =
        all_weaker (λ c. has_key lot_key lots (pos c.lot)) (λ c. has_key lot_key (insert_by lot_key lots x) (pos c.lot))
        (λ c is. has_key-insert_by lot_key lots x (pos c.lot) is) cs there

    here : has_key lot_key (insert_by lot_key lots x) (lot_key x) ≡ true
    here =
        sym (any_is_found (λ l. int_eq (lot_key l) (lot_key x)) (insert_by lot_key lots x))
        ∙ any_put lot_key (λ l. int_eq (lot_key l) (lot_key x)) x lots fresh
        ∙ or_left (int_eq (lot_key x) (lot_key x)) _ (int_eq_equiv.refl (lot_key x))

    go : (o : Option (List ℕ)) → HaveLots (insert_by lot_key lots x) (with_lot_word cs x.id o)
    go None = still
    go (Some word) =
        let more : LotCarrier = record { lot = x.id; carrier = word } in
        all_inserted lot_carrier_key (λ c. has_key lot_key (insert_by lot_key lots x) (pos c.lot)) more here cs still
