-- What lowering a declaration changes in the tables, once the certificates in excess are taken out.
use Rattle.std.proofs.Common.{◌≡◌, ℕ, ◌≤◌, nat_le, List, [], ◌∷◌, ◌++◌, Bool, true, false, map, find, Option, Some, None, option_map, refl, ap, sym, subst, ◌∙◌, arith}
use Rattle.std.specs.FinMap.{from_entries}
use Rattle.std.specs.Cmp.Lexicographic.{texts_ties}
use Rattle.std.proofs.lemmas.Bool.{le-leb}
use Rattle.std.proofs.lemmas.List.{map-append}
use Rattle.sqlite_keyed.specs.Keyed.{IsKeyedBy, next_key, insert_by}
use Rattle.sqlite_keyed.proofs.SliceLemmas.{insert_next}
use Rattle.sqlite_typed.specs.Tests.{bytes_eq}
use Rattle.goo_types.specs.Day.{CalendarDay, day_reading}
use Rattle.goo_spec.specs.Energy.{carry}
use Rattle.goo_spec.specs.State.{State, Correction, text_cmp}
use Rattle.goo_spec.proofs.Correcting.{with_more}
use Rattle.goo_core_shelf.specs.Shelf.{progress_of}
use Rattle.goo_ranges_rows.specs.Certificates.{beside}
use Rattle.goo_tables_rows.specs.Rows.{Tables, Kept, correction_key}
use Rattle.goo_tables_rows.specs.Rows as row
use Rattle.goo_tables_accounts.specs.Changes as change
use Rattle.goo_store_plans.specs.Acted.{IsActed}
use Rattle.goo_spec_tables.specs.Devices.{device_row, progress_in}
use Rattle.goo_spec_tables.specs.Readable.{is_correction, reads}
use Rattle.goo_spec_tables.specs.Records.{correction_of}
use Rattle.goo_spec_tables.specs.States.{state_of}
use Rattle.goo_spec_tables.specs.Texts.{day_of}
use Rattle.goo_spec_tables.proofs.Inserted.{all_inserted}
use Rattle.goo_spec_tables.proofs.Known.{text_same}
use Rattle.goo_store_plans.proofs.Lowered.{progress_apart}
use Rattle.goo_store_plans.proofs.ProgressSet.{is_of, find_passes, moved, all_moved, all_known, found_moved, count_moved, read_moved, carried_moved, told_here, told_there}

-- from the tables `t` it came to the tables `u`, which stand for the state `s` beside the certificates
module _ (t u : Tables) (s : State) (so_far : IsActed t u s)
    (c : row.Correction) (made : Correction) (states : correction_of c ≡ made) (read : is_correction c ≡ true) (numbered : correction_key c ≡ next_key correction_key u.corrections) (rise : IsKeyedBy correction_key u.corrections)
    (day : CalendarDay) (ended : (progress_in (device_row u.devices made.device)).last_day ≡ Some day) (last_day : List ℕ) (ends : day_of last_day ≡ day) (ends_read : reads (day_reading last_day) ≡ true)
    (left : ℕ) (is_left : left ≡ carry (with_more s made) made.device) where
  abbrev devices : List (Kept row.Device)
  devices = all_moved made.device last_day left u.devices

  left_most : nat_le left 999999 ≡ true
  unfolding carry
  left_most = le-leb left 999999 (omega (arith, is_left))

  corrections_after : map correction_of (insert_by correction_key u.corrections c) ≡ map correction_of u.corrections ++ made ∷ []
  corrections_after =
      ap (map correction_of) (insert_next correction_key u.corrections c rise numbered)
      ∙ map-append correction_of u.corrections (c ∷ [])
      ∙ ap (λ k. map correction_of u.corrections ++ k ∷ []) states

  there : (k : Kept row.Device) × (find (is_of made.device) u.devices ≡ Some k)
  there = go (find (is_of made.device) u.devices) refl ended
    where
      go : (o : Option (Kept row.Device)) → find (is_of made.device) u.devices ≡ o → (progress_in (option_map (λ k. k.1) o)).last_day ≡ Some day → (k : Kept row.Device) × (find (is_of made.device) u.devices ≡ Some k)
      go None is has = absurd cc
      go (Some k) is has = (k, is)

  -- the last day that the row tells stays
  ends_there : (progress_of s made.device).last_day ≡ Some day
  ends_there = sym (ap (λ (p : Rattle.goo_core_shelf.specs.declared.found.Progress.Progress). p.last_day) (so_far.progress made.device)) ∙ ended

  progress_after : (q : List ℕ) → progress_in (device_row devices q) ≡ progress_of (with_more s made) q
  progress_after q = ap (λ o. progress_in (option_map (λ k. k.1) o)) (found_moved made.device last_day left q u.devices) ∙ go (bytes_eq made.device q) refl
    where
      go : (b : Bool) → bytes_eq made.device q ≡ b → progress_in (option_map (λ k. k.1) (option_map (moved made.device last_day left) (find (is_of q) u.devices))) ≡ progress_of (with_more s made) q
      go true is =
          subst (λ g. progress_in (option_map (λ k. k.1) (option_map (moved made.device last_day left) (find (is_of g) u.devices))) ≡ progress_of (with_more s made) g) (text_same made.device q is)
          (ap (λ o. progress_in (option_map (λ k. k.1) (option_map (moved made.device last_day left) o))) there.1
          ∙ told_here made.device last_day left there.0 (find_passes (is_of made.device) u.devices there.0 there.1)
          ∙ (λ i. record { last_day = (ap (λ d. Some d) ends ∙ sym ends_there) i; carry = is_left i }))
      go false is =
          ap (λ o. progress_in (option_map (λ k. k.1) o)) (told_there made.device last_day left q is (find (is_of q) u.devices) (find_passes (is_of q) u.devices))
          ∙ so_far.progress q ∙ sym (progress_apart s made q (texts_ties made.device q ∙ is))

  pub correcting_acted : IsActed t (change.with_progress (change.with_correction u c) made.device last_day left) (with_more s made)
  unfolding state_of
  correcting_acted = record {
    pieces = so_far.pieces;
    receipts = so_far.receipts;
    state = λ at.
        (λ i. record (beside at (state_of u)) { devices = from_entries {R = text_cmp} (all_known made.device last_day left u.devices i); corrections = corrections_after i })
        ∙ ap (λ (k : State). with_more k made) (so_far.state at);
    readable = record {
      version = so_far.readable.version;
      meta = so_far.readable.meta;
      holders = so_far.readable.holders;
      accounts = so_far.readable.accounts;
      devices = read_moved made.device last_day left ends_read left_most u.devices so_far.readable.devices;
      declarations = so_far.readable.declarations;
      lots = so_far.readable.lots;
      pieces = so_far.readable.pieces;
      peers = so_far.readable.peers;
      receipts = so_far.readable.receipts;
      cancellations = so_far.readable.cancellations;
      withdrawals = so_far.readable.withdrawals;
      notices_out = so_far.readable.notices_out;
      notices_in = so_far.readable.notices_in;
      corrections = all_inserted correction_key is_correction c read u.corrections so_far.readable.corrections;
      device_carriers = so_far.readable.device_carriers;
      lot_carriers = so_far.readable.lot_carriers;
    };
    have = so_far.have;
    rows = so_far.rows;
    lots = so_far.lots;
    devices = λ q. subst (λ n. n ≤ 1) (sym (count_moved made.device last_day left q u.devices)) (so_far.devices q);
    progress = progress_after;
    carried_devices = carried_moved made.device last_day left u.device_carriers u.devices so_far.carried_devices;
    carried_lots = so_far.carried_lots;
  }
