-- What declaring production changes in the tables.
use Rattle.std.proofs.Common.{◌≡◌, ℕ, ◌+◌, ◌≤◌, ◌==◌, ◌&&◌, nat_le, List, [], ◌∷◌, ◌++◌, Bool, true, false, cond, map, find, Option, Some, None, option_map, refl, ap, sym, subst, ◌∙◌, arith, true≢false, drop}
use Rattle.std.specs.Prelude.{slice_index}
use Rattle.std.specs.Str as str
use Rattle.std.specs.FinMap.{get, insert, from_entries}
use Rattle.std.specs.Cmp.Lexicographic.{nat_list_cmp_total, texts_ties}
use Rattle.std.specs.List.{list_any}
use Rattle.std.proofs.lemmas.Bool.{le-leb}
use Rattle.std.proofs.lemmas.List.{map-append}
use Rattle.sqlite_keyed.specs.Keyed.{IsKeyedBy, next_key, insert_by, has_key}
use Rattle.sqlite_keyed.proofs.SliceLemmas.{insert_next}
use Rattle.sqlite_typed.specs.Tests.{bytes_eq}
use Rattle.goo_types.specs.Day.{day_reading}
use Rattle.goo_types.specs.declared.command.Declare.{Declare}
use Rattle.goo_types.specs.declared.lot_fields.LotFields.{LotFields}
use Rattle.goo_spec.specs.Declare.{with_declaration, earned, declared_by, last_end, begins_too_early, device_checks, declare_refusal, with_lot, issued_for, with_issue}
use Rattle.goo_spec.specs.Declare as declaring
use Rattle.goo_spec.specs.Energy.{carry}
use Rattle.goo_spec.specs.Lots.{key_of, same_day}
use Rattle.goo_spec.specs.Sound.{declares}
use Rattle.goo_spec.specs.State.{State, Device, text_cmp}
use Rattle.goo_spec.proofs.Allowed.{not_refused, serials_left}
use Rattle.goo_spec.proofs.Checking.{none_fail, passes}
use Rattle.goo_spec.proofs.Rising.{list_any-filter, none_begins}
use Rattle.goo_core_shelf.specs.Shelf.{progress_of}
use Rattle.goo_ranges_rows.specs.Certificates.{beside}
use Rattle.goo_tables_rows.specs.Rows.{Tables, Kept, Lot, LotCarrier, lot_key, declaration_key}
use Rattle.goo_tables_rows.specs.Rows as row
use Rattle.goo_tables_accounts.specs.Changes as change
use Rattle.goo_store_plans.specs.Acted.{IsActed}
use Rattle.goo_spec_tables.specs.Devices.{declaration_of, device_row, progress_in}
use Rattle.goo_spec_tables.specs.Kept.{AreKept, IsKeptLot}
use Rattle.goo_spec_tables.specs.Places.{lot_of}
use Rattle.goo_spec_tables.specs.Readable.{is_declaration, is_lot, reads}
use Rattle.goo_spec_tables.specs.States.{state_of, known_device, known_lot}
use Rattle.goo_spec_tables.specs.Texts.{day_of}
use Rattle.goo_store_plans.proofs.ActsActed.{numbers}
use Rattle.goo_store_plans.proofs.CommandsActed.{progress_same, texts_apart}
use Rattle.goo_spec_tables.proofs.Inserted.{all_inserted, map_inserted}
use Rattle.goo_spec_tables.proofs.Known.{get-known, text_test, text_same}
use Rattle.goo_store_plans.proofs.FreeChanges.{no_declaration}
use Rattle.goo_store_plans.proofs.LotsAdded.{AreLotsOf, lots_before, lot_more}
use Rattle.goo_store_plans.proofs.Numbering.{counters_read}
use Rattle.goo_store_plans.proofs.ProgressSet.{is_of, find_passes, moved, all_moved, all_known, found_moved, count_moved, read_moved, carried_moved, told_here, told_there, progress_here, progress_there}

module _ (t : Tables) (kept : AreKept t) (caller : List ℕ) (x : Declare) (device : Device) (known : get (state_of t).devices x.device ≡ Some device) (accepted : declare_refusal (state_of t) caller x ≡ None) where
  abbrev s : State
  s = state_of t

  late : begins_too_early (last_end None (declared_by x.device s.declarations)) x.first_day ≡ false
  late = passes _ _ (none_fail (device_checks s x device) (not_refused s caller x accepted device known)).1.1.1.1.0

  abbrev lot : LotFields
  lot = declaring.lot_of s x device

  -- no declaration of the device has this first day
  none_declared : list_any (λ y. str.bytes_eq y.device x.device && same_day y.first_day x.first_day) s.declarations ≡ false
  none_declared =
      list_any-filter (λ y. str.bytes_eq y.device x.device) (λ y. same_day y.first_day x.first_day) s.declarations
      ∙ none_begins None (declared_by x.device s.declarations) x.first_day (kept.sound.declarations.rising x.device) late

  -- so it has no row
  pub none_in_row : (d : row.Declaration) → declaration_of d ≡ x → find (λ y. bytes_eq y.device d.device && bytes_eq y.first_day d.first_day) t.declarations ≡ None
  unfolding state_of
  none_in_row d states = no_declaration x d states t.declarations none_declared

  -- and a lot of this key would have been declared
  undeclared : (l : LotFields) → key_of l ≡ key_of lot → list_any (declares l) s.declarations ≡ false
  undeclared l same =
      let of : l.device ≡ x.device = ap (drop 4) same in
      let day : l.first_day ≡ x.first_day = λ i. record { year = slice_index (same i) 1; month = slice_index (same i) 2; day = slice_index (same i) 3 } in
      (λ i. list_any (λ y. str.bytes_eq y.device (of i) && same_day y.first_day (day i)) s.declarations)
      ∙ none_declared

  pub new_key : get s.lots (key_of lot) ≡ None
  new_key = go (get s.lots (key_of lot)) refl
    where
      go : (o : Option LotFields) → get s.lots (key_of lot) ≡ o → o ≡ None
      go None is = refl
      go (Some l) is =
          let same : key_of l ≡ key_of lot = kept.sound.lots.keyed (key_of lot) l is in
          let own : l.origin ≡ s.own = ap (λ k. slice_index k 0) same in
          absurd (true≢false (sym (kept.sound.lots.declared (key_of lot) l is own) ∙ undeclared l same))

  module _ (d : row.Declaration) (states : declaration_of d ≡ x) (read : is_declaration d ≡ true) (numbered : declaration_key d ≡ next_key declaration_key t.declarations) (rise : IsKeyedBy declaration_key t.declarations)
      (last_day : List ℕ) (ends : day_of last_day ≡ x.last_day) (ends_read : reads (day_reading last_day) ≡ true) (left : ℕ) (is_left : left ≡ carry (with_declaration s x) x.device) where
    abbrev devices : List (Kept row.Device)
    devices = all_moved x.device last_day left t.devices

    abbrev m : row.Meta
    m = t.meta

    -- the tables, whatever becomes of the lots and their carriers
    abbrev with_lots : List Lot → List LotCarrier → Tables
    with_lots lots carriers = record t {
      declarations = insert_by declaration_key t.declarations d;
      devices = devices;
      lots = lots;
      lot_carriers = carriers;
      meta = record m { next_serial = m.next_serial + earned s x };
    }

    left_most : nat_le left 999999 ≡ true
    unfolding carry
    left_most = le-leb left 999999 (omega (arith, is_left))

    declarations_after : map declaration_of (insert_by declaration_key t.declarations d) ≡ map declaration_of t.declarations ++ x ∷ []
    declarations_after =
        ap (map declaration_of) (insert_next declaration_key t.declarations d rise numbered)
        ∙ map-append declaration_of t.declarations (d ∷ [])
        ∙ ap (λ y. map declaration_of t.declarations ++ y ∷ []) states

    there : (k : Kept row.Device) × (find (is_of x.device) t.devices ≡ Some k)
    unfolding state_of
    there = go (find (is_of x.device) t.devices) refl (sym (get-known nat_list_cmp_total known_device x.device (is_of x.device) (λ k. text_test k.1.gsrn x.device) t.devices) ∙ known)
      where
        go : (o : Option (Kept row.Device)) → find (is_of x.device) t.devices ≡ o → option_map (λ k. (known_device k).1) o ≡ Some device → (k : Kept row.Device) × (find (is_of x.device) t.devices ≡ Some k)
        go None is has = absurd cc
        go (Some k) is has = (k, is)

    progress_after : (q : List ℕ) → progress_in (device_row devices q) ≡ progress_of (with_declaration s x) q
    progress_after q = ap (λ o. progress_in (option_map (λ k. k.1) o)) (found_moved x.device last_day left q t.devices) ∙ go (bytes_eq x.device q) refl
      where
        go : (b : Bool) → bytes_eq x.device q ≡ b → progress_in (option_map (λ k. k.1) (option_map (moved x.device last_day left) (find (is_of q) t.devices))) ≡ progress_of (with_declaration s x) q
        go true is =
            subst (λ g. progress_in (option_map (λ k. k.1) (option_map (moved x.device last_day left) (find (is_of g) t.devices))) ≡ progress_of (with_declaration s x) g) (text_same x.device q is)
            (ap (λ o. progress_in (option_map (λ k. k.1) (option_map (moved x.device last_day left) o))) there.1
            ∙ told_here x.device last_day left there.0 (find_passes (is_of x.device) t.devices there.0 there.1)
            ∙ (λ i. record { last_day = Some (ends i); carry = is_left i })
            ∙ sym (progress_here s x))
        go false is =
            ap (λ o. progress_in (option_map (λ k. k.1) o)) (told_there x.device last_day left q is (find (is_of q) t.devices) (find_passes (is_of q) t.devices))
            ∙ kept.progress q ∙ sym (progress_there s x q (texts_ties x.device q ∙ is))

    acted : (lots : List Lot) (carriers : List LotCarrier) → AreLotsOf t lots carriers → from_entries {R = text_cmp} (map known_lot lots) ≡ with_lot (earned s x) lot s.lots → IsActed t (with_lots lots carriers) (with_issue s x)
    unfolding state_of with_issue with_declaration
    acted lots carriers of states_lots = record {
      pieces = refl;
      receipts = refl;
      state = λ at. (λ i. record (beside at s) {
        next_serial = m.next_serial + earned s x;
        lots = states_lots i;
        devices = from_entries {R = text_cmp} (all_known x.device last_day left t.devices i);
        declarations = declarations_after i;
      }) ∙ ap (λ o. beside at (issued_for s x o)) (sym known);
      readable = record {
        version = kept.readable.version;
        meta = counters_read m kept.readable.meta (m.next_serial + earned s x) m.next_account m.next_cancellation m.next_withdrawal m.next_notice
            (omega (arith, kept.sound.limits.serial.0), omega (arith, serials_left s caller x accepted)) kept.sound.limits.account kept.sound.limits.cancellation kept.sound.limits.withdrawal kept.sound.limits.notice;
        holders = kept.readable.holders;
        accounts = kept.readable.accounts;
        devices = read_moved x.device last_day left ends_read left_most t.devices kept.readable.devices;
        declarations = all_inserted declaration_key is_declaration d read t.declarations kept.readable.declarations;
        lots = of.read;
        pieces = kept.readable.pieces;
        peers = kept.readable.peers;
        receipts = kept.readable.receipts;
        cancellations = kept.readable.cancellations;
        withdrawals = kept.readable.withdrawals;
        notices_out = kept.readable.notices_out;
        notices_in = kept.readable.notices_in;
        corrections = kept.readable.corrections;
        device_carriers = kept.readable.device_carriers;
        lot_carriers = of.carriers_read;
      };
      have = of.have;
      rows = of.rows;
      lots = of.lots_kept;
      devices = λ q. subst (λ n. n ≤ 1) (sym (count_moved x.device last_day left q t.devices)) (kept.devices q);
      progress = λ q. progress_after q ∙ progress_same (with_declaration s x) (with_issue s x) (ap (λ o. (issued_for s x o).declarations) (sym known)) (ap (λ o. (issued_for s x o).corrections) (sym known)) q;
      carried_devices = carried_moved x.device last_day left t.device_carriers t.devices kept.carried_devices_there;
      carried_lots = of.carried;
    }

    abbrev declared : Tables
    declared = change.with_progress (change.with_declaration t d) x.device last_day left

    -- a declaration that makes no certificate due
    pub declaring_acted : (earned s x == 0) ≡ true
        → IsActed t (change.with_counters declared (numbers (m.next_serial + earned s x) m.next_account m.next_cancellation m.next_withdrawal m.next_notice)) (with_issue s x)
    unfolding state_of
    declaring_acted none = acted t.lots t.lot_carriers (lots_before t kept) (sym (ap (λ b. cond b s.lots (insert s.lots (key_of lot) lot)) none))

    -- a declaration with the lot of its certificates
    pub issuing_acted : (earned s x == 0) ≡ false → (l : Lot) → lot_of l ≡ lot → has_key lot_key t.lots (lot_key l) ≡ false → is_lot l ≡ true → IsKeptLot l
        → IsActed t (change.with_counters (change.with_lot declared l) (numbers (m.next_serial + earned s x) m.next_account m.next_cancellation m.next_withdrawal m.next_notice)) (with_issue s x)
    unfolding state_of
    issuing_acted some l is fresh reads_lot keeps =
        acted (insert_by lot_key t.lots l) (change.with_lot_word t.lot_carriers l.id l.carrier) (lot_more t.lots l fresh t t.lot_carriers (lots_before t kept) reads_lot keeps)
        (map_inserted nat_list_cmp_total lot_key known_lot l texts_apart t.lots fresh (ap (λ k. get s.lots (key_of k)) is ∙ new_key)
        ∙ ap (λ k. insert s.lots (key_of k) k) is
        ∙ sym (ap (λ b. cond b s.lots (insert s.lots (key_of lot) lot)) some))
