-- That each row of a table is known under its key, so that no two rows have one.
use Rattle.std.proofs.Common.{◌≡◌, ℕ, pos, Bool, true, ◌&&◌, List, find, filter, Some, Ok, Err, Result, nat_cmp, int_eq, refl, sym, ap, subst, ◌∙◌, true≢false}
use Rattle.std.specs.List.{AllByRecursion, list_all}
use Rattle.std.specs.Ordering.{eq_by_cmp}
use Rattle.std.specs.Result.{result_unwrap_or}
use Rattle.std.specs.Cmp.{eq_by_cmp_equiv, nat_cmp_total}
use Rattle.std.specs.Cmp.Lexicographic.{nat_list_cmp_total}
use Rattle.std.specs.FinMap.{get}
use Rattle.std.proofs.lemmas.Bool.{and_parts, and_from}
use Rattle.std.proofs.lemmas.Cmp.{int_eq_equiv}
use Rattle.sqlite.specs.Effect.{IsDatabase}
use Rattle.sqlite_keyed.proofs.KeyedLemmas.{same_int}
use Rattle.sqlite_keyed.proofs.ListLemmas.{all_weaker, all_both, all_from_test}
use Rattle.goo_types.specs.Day.{CalendarDay, day_reading}
use Rattle.goo_types.specs.Gsrn.{gsrn_reading}
use Rattle.goo_types.specs.Texts.{day_text}
use Rattle.goo_types.specs.declared.day.DayFault.{DayFault}
use Rattle.goo_types.proofs.DayLemmas.{only_day_text}
use Rattle.goo_spec.specs.Lots.{key_of}
use Rattle.goo_spec.specs.State.{text_cmp}
use Rattle.goo_tables_rows.specs.Rows.{Tables, Kept, Account, Device, Cancellation, NoticeOut, Lot, lot_key}
use Rattle.goo_tables_rows.specs.Once.{IsOnce}
use Rattle.goo_tables_rows.specs.Stands.{Stands, Keeps}
use Rattle.goo_tables_rows.proofs.Unique.{one_device}
use Rattle.goo_tables_rows.proofs.UniqueLots.{one_lot}
use Rattle.goo_spec_tables.specs.Devices.{device_of}
use Rattle.goo_spec_tables.specs.Texts.{day_of, no_day}
use Rattle.goo_spec_tables.specs.Places.{lot_of}
use Rattle.goo_spec_tables.specs.Renewed.{HaveOwnFields}
use Rattle.goo_spec_tables.specs.Readable.{reads, is_lot, is_code, is_plant}
use Rattle.goo_spec_tables.specs.Records.{cancellation_of, sent_of}
use Rattle.goo_spec_tables.specs.States.{state_of, account_of}
use Rattle.goo_spec_tables.proofs.Known.{text_test, text_itself, number_test, lot_test}
use Rattle.goo_spec_tables.proofs.Expiring.{stated_day}
use Rattle.goo_store_rules.specs.Rules.{HaveOwnKeys}
use Rattle.goo_store_rules.proofs.EachRow.{each_found, each_keyed, found_both}
use Rattle.goo_store_rules.proofs.RowsKnown.{all_known}

-- a text that reads as a day is the text of that day
pub text_of_day : (text : List ℕ) → reads (day_reading text) ≡ true → text ≡ day_text (day_of text)
text_of_day text so = go (day_reading text) refl so
  where
    go : (r : Result CalendarDay DayFault) → day_reading text ≡ r → reads r ≡ true → text ≡ day_text (day_of text)
    go (Ok d) is so = only_day_text text d is ∙ sym (ap (λ r. day_text (result_unwrap_or r no_day)) is)
    go (Err e) is so = absurd (true≢false (sym so))

-- texts that read as one day are one text
pub one_day : (a b : List ℕ) → reads (day_reading a) ≡ true → reads (day_reading b) ≡ true → day_of a ≡ day_of b → a ≡ b
one_day a b is other same = text_of_day a is ∙ ap day_text same ∙ sym (text_of_day b other)

pub first_day_reads : (l : Lot) → is_lot l ≡ true → reads (day_reading l.first_day) ≡ true
first_day_reads l is =
    let device = and_parts (is_code l.origin) _ is in
    let plant = and_parts (reads (gsrn_reading l.device)) _ device.1 in
    let days = and_parts (is_plant l.plant) _ plant.1 in
    (and_parts (reads (day_reading l.first_day)) _ days.1).0

-- a lot of this origin, device and first day, as the table's index and its look-up have it
abbrev pub is_of_period : ℕ → List ℕ → List ℕ → Lot → Bool
is_of_period origin device first_day l = int_eq (pos l.origin) (pos origin) && (eq_by_cmp text_cmp l.device device && eq_by_cmp text_cmp l.first_day first_day)

-- no two lots have one origin, device and first day
abbrev pub AreOfOwnPeriods : List Lot → Type 0
AreOfOwnPeriods lots = (origin : ℕ) (device first_day : List ℕ) → IsOnce (filter (is_of_period origin device first_day) lots)

-- the tables' indexes see to it
pub own_keys : (db : _) (t : Tables) → IsDatabase db → Stands db t → HaveOwnKeys t
own_keys db t sound stands = record { devices = λ gsrn. one_device db t gsrn sound stands; lots = λ origin device first_day. one_lot db t origin device first_day sound stands }

-- two lots of one period have one key, and the other way round
periods_are_keys : (a b : Lot) → is_lot a ≡ true → eq_by_cmp text_cmp (key_of (lot_of a)) (key_of (lot_of b)) ≡ is_of_period a.origin a.device a.first_day b
periods_are_keys a b is =
    sym (lot_test b.origin b.device b.first_day a.origin a.device (day_of a.first_day) (stated_day a.first_day (day_reading a.first_day) refl (first_day_reads a is)))
    ∙ (λ i. is_of_period a.origin a.device (sym (text_of_day a.first_day (first_day_reads a is)) i) b)

-- each row is known under its key
pub record AreKnownRows (t : Tables) : Type 0 where
  pub accounts : AllByRecursion (λ (a : Account). get (state_of t).accounts a.number ≡ Some (account_of a)) t.accounts
  pub devices : AllByRecursion (λ (k : Kept Device). get (state_of t).devices k.1.gsrn ≡ Some (device_of k.1)) t.devices
  pub lots : AllByRecursion (λ (l : Lot). get (state_of t).lots (key_of (lot_of l)) ≡ Some (lot_of l)) t.lots
  pub lot_numbers : AllByRecursion (λ (l : Lot). find (λ m. int_eq (lot_key m) (lot_key l)) t.lots ≡ Some l) t.lots
  pub cancellations : AllByRecursion (λ (c : Cancellation). get (state_of t).cancellations c.number ≡ Some (cancellation_of c)) t.cancellations
  pub sent : AllByRecursion (λ (n : NoticeOut). get (state_of t).sent n.number ≡ Some (sent_of n)) t.notices_out

module _ {A : Type 0} (number : A → ℕ) where
  numbered : {to_row : _} {rows : _} (xs : List A) → Keeps rows to_row (λ a. pos (number a)) xs → AllByRecursion (λ a. find (λ b. eq_by_cmp nat_cmp (number a) (number b)) xs ≡ Some a) xs
  numbered xs keeps = all_weaker _ _ (λ a is. (λ i. find (λ b. sym (number_test (number b) (number a)) i) xs) ∙ is) xs (each_keyed (λ a. pos (number a)) xs keeps)

module _ (db : _) (t : Tables) (keys : HaveOwnKeys t) (it : Stands db t) where
  found_devices : AllByRecursion (λ (k : Kept Device). find (λ j. eq_by_cmp text_cmp k.1.gsrn j.1.gsrn) t.devices ≡ Some k) t.devices
  found_devices =
      each_found (λ (j k : Kept Device). eq_by_cmp text_cmp j.1.gsrn k.1.gsrn) (λ k. (eq_by_cmp_equiv nat_list_cmp_total).refl k.1.gsrn) t.devices
      (λ k. subst IsOnce (λ i. filter (λ (j : Kept Device). text_test j.1.gsrn k.1.gsrn i) t.devices) (keys.devices k.1.gsrn))

  pub found_lots : list_all is_lot t.lots ≡ true → AreOfOwnPeriods t.lots → AllByRecursion (λ l. find (λ m. eq_by_cmp text_cmp (key_of (lot_of l)) (key_of (lot_of m))) t.lots ≡ Some l) t.lots
  found_lots good own =
      all_both _ (λ l. find (is_of_period l.origin l.device l.first_day) t.lots ≡ Some l) _ (λ l is found. (λ i. find (λ m. periods_are_keys l m is i) t.lots) ∙ found) t.lots (all_from_test is_lot t.lots good)
      (each_found (λ l. is_of_period l.origin l.device l.first_day) itself t.lots (λ l. own l.origin l.device l.first_day))
    where
      itself : (l : Lot) → is_of_period l.origin l.device l.first_day l ≡ true
      itself l = and_from _ _ (int_eq_equiv.refl (pos l.origin)) (and_from _ _ (text_itself l.device l.device refl) (text_itself l.first_day l.first_day refl))

  -- the unique keys of the tables
  pub rows_are_known : list_all is_lot t.lots ≡ true → AreOfOwnPeriods t.lots → AreKnownRows t
  unfolding state_of
  rows_are_known good own = record {
    accounts = all_known nat_cmp_total (λ (a : Account). a.number) account_of t.accounts (numbered (λ (a : Account). a.number) t.accounts it.accounts);
    devices = all_known nat_list_cmp_total (λ (k : Kept Device). k.1.gsrn) (λ k. device_of k.1) t.devices found_devices;
    lots = all_known nat_list_cmp_total (λ (l : Lot). key_of (lot_of l)) lot_of t.lots (found_lots good own);
    lot_numbers = each_keyed lot_key t.lots it.lots;
    cancellations = all_known nat_cmp_total (λ (c : Cancellation). c.number) cancellation_of t.cancellations (numbered (λ (c : Cancellation). c.number) t.cancellations it.cancellations);
    sent = all_known nat_cmp_total (λ (n : NoticeOut). n.number) sent_of t.notices_out (numbered (λ (n : NoticeOut). n.number) t.notices_out it.notices_out);
  }

  -- two lots that agree in all fields are one
  pub own_fields : list_all is_lot t.lots ≡ true → AreOfOwnPeriods t.lots → HaveOwnFields t.lots
  own_fields good own i j k l mine theirs same =
      let all = found_lots good own in
      let a = found_both (λ m. int_eq (lot_key m) i) (λ n. find (λ m. eq_by_cmp text_cmp (key_of (lot_of n)) (key_of (lot_of m))) t.lots ≡ Some n) t.lots k mine all in
      let b = found_both (λ m. int_eq (lot_key m) j) (λ n. find (λ m. eq_by_cmp text_cmp (key_of (lot_of n)) (key_of (lot_of m))) t.lots ≡ Some n) t.lots l theirs all in
      let both : Some k ≡ Some l = sym a.1 ∙ ap (λ f. find (λ m. eq_by_cmp text_cmp (key_of f) (key_of (lot_of m))) t.lots) same ∙ b.1 in
      let one : k ≡ l = cc in
      sym (same_int (lot_key k) i a.0) ∙ ap lot_key one ∙ same_int (lot_key l) j b.0
