-- What registering a device changes in the tables.
use Rattle.std.proofs.Common.{◌≡◌, ◌⊎◌, inl, inr, ℕ, ℤ, pos, ◌≤◌, List, [], ◌∷◌, Bool, true, false, cond, map, find, length, Option, Some, None, option_map, refl, ap, sym, subst, ◌∙◌, arith, true≢false}
use Rattle.std.specs.FinMap.{get, insert, from_entries, IsAntisymmetric, slice_cmp-IsAntisymmetric, nat_cmp-IsAntisymmetric}
use Rattle.std.specs.Cmp.Lexicographic.{nat_list_cmp_total}
use Rattle.std.specs.List.{filter}
use Rattle.std.specs.Ordering.{int_eq, int_cmp, is_eq, match_ordering}
use Rattle.std.specs.declared.cmp.Ordering.{Ordering}
use Rattle.std.specs.declared.cmp.Ordering.TheVariants.{Less, Equal, Greater}
use Rattle.sqlite_keyed.specs.Keyed.{IsKeyedBy, next_key, insert_by, has_key}
use Rattle.sqlite_keyed.proofs.KeyedLemmas.{next_key_is_free}
use Rattle.sqlite_typed.specs.Tests.{bytes_eq}
use Rattle.goo_types.specs.declared.command.RegisterDevice.{RegisterDevice}
use Rattle.goo_spec.specs.RegisterDevice.{device_of, with_device}
use Rattle.goo_spec.specs.State.{text_cmp}
use Rattle.goo_core_shelf.specs.Shelf.{progress_of}
use Rattle.goo_ranges_rows.specs.Certificates.{beside}
use Rattle.goo_tables_rows.specs.Rows.{Tables, Kept, kept_key}
use Rattle.goo_tables_rows.specs.Rows as row
use Rattle.goo_tables_accounts.specs.Changes as change
use Rattle.goo_tables_accounts.specs.Changes.{added}
use Rattle.goo_store_plans.specs.Acted.{IsActed}
use Rattle.goo_spec_tables.specs.Devices.{device_row, progress_in}
use Rattle.goo_spec_tables.specs.Kept.{AreKept}
use Rattle.goo_spec_tables.specs.Readable.{is_device}
use Rattle.goo_spec_tables.specs.States.{state_of, known_device}
use Rattle.goo_store_plans.proofs.CarriersAdded.{device_words_read, device_words_there}
use Rattle.goo_store_plans.proofs.CommandsActed.{progress_same}
use Rattle.goo_spec_tables.proofs.Inserted.{here_too, swapped, all_inserted, map_inserted}
use Rattle.goo_spec_tables.proofs.Known.{get-known, text_test, text_same}

module _ {A : Type 0} (key : A → ℤ) (test : A → Bool) (x : A) where
  none_further : (y : A) (ys : List A) → find test (y ∷ ys) ≡ None → (test y ≡ false) × (find test ys ≡ None)
  none_further y ys none = go (test y) none
    where
      go : (b : Bool) → cond b (Some y) (find test ys) ≡ None → (b ≡ false) × (find test ys ≡ None)
      go true is = absurd cc
      go false is = (refl, is)

  either : (P : Option A → Type 0) (b : Bool) (rest : Option A) → P (cond b (Some x) rest) → P (Some x) ⊎ P rest
  either P true rest is = inl is
  either P false rest is = inr is

  -- a row more is found by a test that no other row passes
  pub find_put : (xs : List A) → has_key key xs (key x) ≡ false → (test x ≡ true → find test xs ≡ None) → find test (insert_by key xs x) ≡ cond (test x) (Some x) (find test xs)
  find_put [] fresh none = refl
  find_put (y ∷ ys) fresh none =
      let parts = here_too (int_eq (key y) (key x)) y (find (λ a. int_eq (key a) (key x)) ys) fresh in
      go (int_cmp (key y) (key x)) parts.0 (find_put ys parts.1 (λ is. (none_further y ys (none is)).1))
    where
      go : (r : Ordering) → is_eq r ≡ false → find test (insert_by key ys x) ≡ cond (test x) (Some x) (find test ys)
          → find test (match_ordering r (y ∷ insert_by key ys x) (x ∷ ys) (x ∷ y ∷ ys)) ≡ cond (test x) (Some x) (find test (y ∷ ys))
      go Less not_eq rest =
          ap (cond (test y) (Some y)) rest
          ∙ swapped (test y) (test x) (Some y) (Some x) (find test ys) (λ one two. true≢false (sym one ∙ (none_further y ys (none two)).0))
      go Equal not_eq rest = absurd (true≢false not_eq)
      go Greater not_eq rest = refl

  -- any test finds the row more, or what it found
  pub find_either : (P : Option A → Type 0) (xs : List A) → has_key key xs (key x) ≡ false → P (find test (insert_by key xs x)) → P (Some x) ⊎ P (find test xs)
  find_either P [] fresh is = either P (test x) None is
  find_either P (y ∷ ys) fresh is =
      let parts = here_too (int_eq (key y) (key x)) y (find (λ a. int_eq (key a) (key x)) ys) fresh in
      go (int_cmp (key y) (key x)) parts.0 (find_either P ys parts.1) is
    where
      go : (r : Ordering) → is_eq r ≡ false → (P (find test (insert_by key ys x)) → P (Some x) ⊎ P (find test ys)) → P (find test (match_ordering r (y ∷ insert_by key ys x) (x ∷ ys) (x ∷ y ∷ ys))) → P (Some x) ⊎ P (find test (y ∷ ys))
      go Less not_eq rest is = later (test y) rest is
        where
          later : (b : Bool) → (P (find test (insert_by key ys x)) → P (Some x) ⊎ P (find test ys)) → P (cond b (Some y) (find test (insert_by key ys x))) → P (Some x) ⊎ P (cond b (Some y) (find test ys))
          later true rest is = inr is
          later false rest is = rest is
      go Equal not_eq rest is = absurd (true≢false not_eq)
      go Greater not_eq rest is = either P (test x) (find test (y ∷ ys)) is

  -- and it is one row more that passes
  pub count_put : (xs : List A) → has_key key xs (key x) ≡ false → length (filter test (insert_by key xs x)) ≡ length (filter test (x ∷ xs))
  count_put [] fresh = refl
  count_put (y ∷ ys) fresh =
      let parts = here_too (int_eq (key y) (key x)) y (find (λ a. int_eq (key a) (key x)) ys) fresh in
      go (int_cmp (key y) (key x)) parts.0 (test x) (test y) (count_put ys parts.1)
    where
      go : (r : Ordering) → is_eq r ≡ false → (b c : Bool) → length (filter test (insert_by key ys x)) ≡ length (cond (test x) (x ∷ filter test ys) (filter test ys))
          → length (filter test (match_ordering r (y ∷ insert_by key ys x) (x ∷ ys) (x ∷ y ∷ ys))) ≡ length (filter test (x ∷ y ∷ ys))
      go Less not_eq b c rest = turned (test x) (test y) rest
        where
          turned : (p q : Bool) → length (filter test (insert_by key ys x)) ≡ length (cond p (x ∷ filter test ys) (filter test ys))
              → length (cond q (y ∷ filter test (insert_by key ys x)) (filter test (insert_by key ys x))) ≡ length (cond p (x ∷ cond q (y ∷ filter test ys) (filter test ys)) (cond q (y ∷ filter test ys) (filter test ys)))
          turned true true h = omega (arith, h)
          turned true false h = h
          turned false true h = omega (arith, h)
          turned false false h = h
      go Equal not_eq b c rest = absurd (true≢false not_eq)
      go Greater not_eq b c rest = refl

  none_counted : (xs : List A) → find test xs ≡ None → length (filter test xs) ≡ 0
  none_counted [] none = refl
  none_counted (y ∷ ys) none = let parts = none_further y ys none in ap (λ b. length (cond b (y ∷ filter test ys) (filter test ys))) parts.0 ∙ none_counted ys parts.1

texts_apart : IsAntisymmetric text_cmp
texts_apart = slice_cmp-IsAntisymmetric nat_cmp-IsAntisymmetric

module _ (t : Tables) (kept : AreKept t) (x : RegisterDevice) (d : row.Device) (states : (k : ℤ) → known_device (k, d) ≡ (x.device, device_of x)) (begins : progress_in (Some d) ≡ progress_in None)
    (reads : (k : ℤ) → is_device (k, d) ≡ true) (rise : IsKeyedBy kept_key t.devices) (none : get (from_entries {R = text_cmp} (map known_device t.devices)) x.device ≡ None) where
  abbrev placed : Kept row.Device
  placed = (next_key kept_key t.devices, d)

  abbrev is_of : List ℕ → Kept row.Device → Bool
  is_of gsrn k = bytes_eq k.1.gsrn gsrn

  named : d.gsrn ≡ x.device
  named = ap (λ e. e.0) (states (pos 0))

  fresh : has_key kept_key t.devices (next_key kept_key t.devices) ≡ false
  fresh = next_key_is_free kept_key t.devices rise

  not_found : {X : Type 0} (f : Kept row.Device → X) (o : Option (Kept row.Device)) → option_map f o ≡ None → o ≡ None
  not_found f None is = refl
  not_found f (Some k) is = absurd cc

  -- no row has the device's number yet
  others : (gsrn : List ℕ) → is_of gsrn placed ≡ true → find (is_of gsrn) t.devices ≡ None
  others gsrn is =
      let same : x.device ≡ gsrn = sym named ∙ text_same d.gsrn gsrn is in
      subst (λ g. find (is_of g) t.devices ≡ None) same
      (not_found (λ k. (known_device k).1) (find (is_of x.device) t.devices) (sym (get-known nat_list_cmp_total known_device x.device (is_of x.device) (λ k. text_test k.1.gsrn x.device) t.devices) ∙ none))

  found : (gsrn : List ℕ) → find (is_of gsrn) (added t.devices d) ≡ cond (is_of gsrn placed) (Some placed) (find (is_of gsrn) t.devices)
  found gsrn = find_put kept_key (is_of gsrn) placed t.devices fresh (others gsrn)

  once : (gsrn : List ℕ) → length (filter (is_of gsrn) (added t.devices d)) ≤ 1
  once gsrn = go (is_of gsrn placed) refl
    where
      go : (b : Bool) → is_of gsrn placed ≡ b → length (filter (is_of gsrn) (added t.devices d)) ≤ 1
      go true is =
          let put = count_put kept_key (is_of gsrn) placed t.devices fresh in
          let here = ap (λ b. length (cond b (placed ∷ filter (is_of gsrn) t.devices) (filter (is_of gsrn) t.devices))) is in
          omega (arith, put, here, none_counted kept_key (is_of gsrn) placed t.devices (others gsrn is))
      go false is =
          let put = count_put kept_key (is_of gsrn) placed t.devices fresh in
          let here = ap (λ b. length (cond b (placed ∷ filter (is_of gsrn) t.devices) (filter (is_of gsrn) t.devices))) is in
          omega (arith, put, here, kept.devices gsrn)

  progress_kept : (gsrn : List ℕ) → progress_in (device_row (added t.devices d) gsrn) ≡ progress_of (state_of t) gsrn
  progress_kept gsrn = ap (λ o. progress_in (option_map (λ k. k.1) o)) (found gsrn) ∙ go (is_of gsrn placed) refl
    where
      go : (b : Bool) → is_of gsrn placed ≡ b → progress_in (option_map (λ k. k.1) (cond b (Some placed) (find (is_of gsrn) t.devices))) ≡ progress_of (state_of t) gsrn
      go true is = begins ∙ sym (ap (λ o. progress_in (option_map (λ k. k.1) o)) (others gsrn is)) ∙ kept.progress gsrn
      go false is = kept.progress gsrn

  -- a device more, which has declared nothing
  pub registering_acted : IsActed t (change.with_device t d) (with_device (state_of t) x)
  unfolding state_of with_device
  registering_acted =
      let put = map_inserted nat_list_cmp_total kept_key known_device placed texts_apart t.devices fresh (ap (λ e. get (from_entries {R = text_cmp} (map known_device t.devices)) e.0) (states (next_key kept_key t.devices)) ∙ none)
      ∙ ap (λ e. insert (from_entries {R = text_cmp} (map known_device t.devices)) e.0 e.1) (states (next_key kept_key t.devices)) in record {
        pieces = refl;
        receipts = refl;
        state = λ at i. record (beside at (state_of t)) { devices = put i };
        readable = record {
          version = kept.readable.version;
          meta = kept.readable.meta;
          holders = kept.readable.holders;
          accounts = kept.readable.accounts;
          devices = all_inserted kept_key is_device placed (reads (next_key kept_key t.devices)) t.devices kept.readable.devices;
          declarations = kept.readable.declarations;
          lots = kept.readable.lots;
          pieces = kept.readable.pieces;
          peers = kept.readable.peers;
          receipts = kept.readable.receipts;
          cancellations = kept.readable.cancellations;
          withdrawals = kept.readable.withdrawals;
          notices_out = kept.readable.notices_out;
          notices_in = kept.readable.notices_in;
          corrections = kept.readable.corrections;
          device_carriers = device_words_read t.devices t.device_carriers d (pos 0) (reads (pos 0)) kept.readable.device_carriers;
          lot_carriers = kept.readable.lot_carriers;
        };
        have = kept.lots_there;
        rows = refl;
        lots = kept.lots;
        devices = once;
        progress = λ gsrn. progress_kept gsrn ∙ progress_same (state_of t) (with_device (state_of t) x) refl refl gsrn;
        carried_devices = device_words_there t.devices t.device_carriers d rise kept.carried_devices_there;
        carried_lots = kept.carried_lots_there;
      }
