-- The rules on single rows and on names, judged over what was read, and the fields of the tables' rules that they are.
use Rattle.std.proofs.Common.{◌≡◌, ◌≤◌, ℕ, ℤ, true, nat_le, List, find, filter, length, int_eq, All, Some, sym, subst, inl, inr, arith}
use Rattle.std.proofs.lemmas.Bool.{and_parts, leb-true}
use Rattle.std.specs.Ordering.{eq_by_cmp}
use Rattle.goo_types.specs.Day.{day_reading}
use Rattle.goo_spec.specs.Sound.{AreWithinLimits}
use Rattle.goo_spec.specs.State.{text_cmp}
use Rattle.goo_tables_rows.specs.Rows.{Tables, Kept, Device, Lot, lot_key, lot_in, AreCarriedDevices, AreCarriedLots}
use Rattle.goo_tables_rows.specs.Once.{IsOnce}
use Rattle.goo_store_open.specs.Found.{AreOf}
use Rattle.goo_store_open.specs.declared.finding.Found.{Found}
use Rattle.goo_spec_tables.specs.Kept.{AreReadableIn, IsKeptLot}
use Rattle.goo_spec_tables.specs.Readable.{is_meta, is_between, is_code, is_next, reads}
use Rattle.goo_spec_tables.specs.States.{state_of}
use Rattle.goo_store_rules.specs.Keeping.{has_good_values, has_good_corrections, has_its_notices}
use Rattle.goo_store_rules.specs.Lots.{IsGoodLot}
use Rattle.goo_store_rules.specs.Rules.{HaveOwnKeys}
use Rattle.goo_store_rules.proofs.KeptValues.{readable, values_good, corrections_good, notices_good}
use Rattle.goo_store_rules.proofs.KeptLots.{lots_kept, lots_good}
use Rattle.goo_store_rules.proofs.KeptKeys.{AreKnownRows}
use Rattle.goo_store_rules.proofs.ByName.{IsSoundByName, KeepsNames, sound_by_name, names_kept}

between : (low high n : ℕ) → is_between low high n ≡ true → (low ≤ n) × (n ≤ high)
between low high n is = let parts = and_parts (nat_le low n) (nat_le n high) is in (leb-true low n parts.0, leb-true n high parts.1)

-- values that are accepted are within the limits of the state
pub within_limits : (t : Tables) → is_meta t.meta ≡ true
    → AreWithinLimits (state_of t).own (state_of t).next_serial (state_of t).next_account (state_of t).next_cancellation (state_of t).next_withdrawal (state_of t).next_notice
unfolding state_of
within_limits t is =
    let code = and_parts (is_code t.meta.code) _ is in
    let today = and_parts (reads (day_reading t.meta.today)) _ code.1 in
    let serial = and_parts (is_between 1 1000000000000 t.meta.next_serial) _ today.1 in
    let account = and_parts (is_next t.meta.next_account) _ serial.1 in
    let cancellation = and_parts (is_next t.meta.next_cancellation) _ account.1 in
    let withdrawal = and_parts (is_next t.meta.next_withdrawal) _ cancellation.1 in
    record {
      code = between 1 99 t.meta.code code.0;
      serial = between 1 1000000000000 t.meta.next_serial serial.0;
      account = between 1 1000000000 t.meta.next_account account.0;
      cancellation = between 1 1000000000 t.meta.next_cancellation cancellation.0;
      withdrawal = between 1 1000000000 t.meta.next_withdrawal withdrawal.0;
      notice = between 1 1000000000 t.meta.next_notice withdrawal.1;
    }

-- no two devices have one number, by the index of the table
pub devices_once : (t : Tables) → HaveOwnKeys t → (gsrn : List ℕ) → length (filter (λ (k : Kept Device). eq_by_cmp text_cmp k.1.gsrn gsrn) t.devices) ≤ 1
devices_once t keys gsrn = short (filter (λ (k : Kept Device). eq_by_cmp text_cmp k.1.gsrn gsrn) t.devices) (keys.devices gsrn)
  where
    short : (ks : List (Kept Device)) → IsOnce ks → length ks ≤ 1
    short ks (inl none) = subst (λ l. length l ≤ 1) (sym none) (omega arith)
    short ks (inr one) = subst (λ l. length l ≤ 1) (sym one.1) (omega arith)

-- what these rules say of the tables
pub record AreKeptByName (t : Tables) : Type 0 where
  pub readable : AreReadableIn t.meta.version t
  pub lots : (id : ℤ) (l : Lot) → find (λ m. int_eq (lot_key m) id) t.lots ≡ Some l → IsKeptLot l
  pub devices : (gsrn : List ℕ) → length (filter (λ (k : Kept Device). eq_by_cmp text_cmp k.1.gsrn gsrn) t.devices) ≤ 1
  pub limits : AreWithinLimits (state_of t).own (state_of t).next_serial (state_of t).next_account (state_of t).next_cancellation (state_of t).next_withdrawal (state_of t).next_notice
  pub sound : IsSoundByName t

-- these rules
pub record KeepsByName (x : Found) : Type 0 where
  pub values : has_good_values x ≡ true
  pub corrections : has_good_corrections x ≡ true
  pub notices : has_its_notices x ≡ true
  pub lots : All (λ row. IsGoodLot (lot_in row)) x.rows.production.lots.items
  pub names : KeepsNames x

-- over tables with their own keys
module _ (t : Tables) (x : Found) (keys : HaveOwnKeys t) (are : AreOf t x) (carried_devices : AreCarriedDevices t.device_carriers t.devices) (carried_lots : AreCarriedLots t.lot_carriers t.lots) where
  pub kept_by_name : KeepsByName x → AreKeptByName t
  kept_by_name keeps =
      let read = readable t x are carried_devices carried_lots keeps.values keeps.corrections keeps.notices in
      record {
        readable = read;
        lots = lots_kept t x are keeps.lots;
        devices = devices_once t keys;
        limits = within_limits t read.meta;
        sound = sound_by_name t read x are keeps.names;
      }

-- and back, where no two rows have one key
pub keeps_by_name : (t : Tables) (x : Found) → AreOf t x → AreKnownRows t → AreKeptByName t → KeepsByName x
keeps_by_name t x are rows kept = record {
  values = values_good t x are kept.readable;
  corrections = corrections_good t x are kept.readable;
  notices = notices_good t x are kept.readable;
  lots = lots_good t x are kept.readable.lots rows.lot_numbers kept.lots;
  names = names_kept t kept.readable x are rows kept.sound;
}
