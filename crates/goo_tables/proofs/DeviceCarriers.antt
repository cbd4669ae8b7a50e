-- What the statements on `device_carrier` do and show.
use Rattle.std.proofs.Common.{◌≡◌, List, [], ◌∷◌, map, find, codes, ℕ, None, true, ◌&&◌, Result, OnOk, IsTrue, refl, ap, ◌∙◌}
use Rattle.std.specs.List.{AllZip}
use Rattle.sqlite_tied.specs.Compute.{everything}
use Rattle.sqlite.specs.declared.types.Value.TheVariants.{Null}
use Rattle.sqlite.specs.declared.error.Error.{Error}
use Rattle.sqlite.specs.Order.{Row}
use Rattle.sqlite.specs.Term.{Term, lit, col}
use Rattle.sqlite.specs.Query.{Query, IsAnswer}
use Rattle.sqlite.specs.Program.{overlay}
use Rattle.sqlite.specs.Listing.{understood}
use Rattle.sqlite.specs.State.{State, IsLive, Executes, ExecutesInside}
use Rattle.sqlite_typed.proofs.TestLemmas.{then_value}
use Rattle.goo_tables_rows.specs.Columns.{registry_schema, device_carrier}
use Rattle.goo_tables_rows.specs.Rows.{Tables, Kept, kept_key, DeviceCarrier, device_carrier_in, device_carrier_columns, device_carrier_row}
use Rattle.goo_tables_rows.specs.declared.device_carrier.DeviceCarrierRow.{DeviceCarrierRow}
use Rattle.goo_tables_rows.specs.Reads.{device_carrier_reads}
use Rattle.goo_tables_rows.specs.Stands.{Stands}
use Rattle.goo_tables_rows.proofs.Same.{device_carrier_same}
use Rattle.goo_tables_rows.proofs.Typed.{cast_null}
use Rattle.goo_tables_rows.proofs.Alone.{device_carriers_stand}
use Rattle.goo_tables_rows.proofs.Living.{KeepsLive, keeps_live}
use Rattle.goo_tables_rows.proofs.Stored.{device_carrier_stored}
use Rattle.goo_tables_rows.proofs.Distinct.{same_text, one_apart}
use Rattle.goo_tables_rows.specs.Refused.{IsTooBigOrFull, HasRoomFor}
use Rattle.sqlite_typed.specs.Tests.{bytes_eq}
use Rattle.sqlite_keyed.specs.Keyed.{next_key}
use Rattle.sqlite_keyed.proofs.KeyedLemmas.{next_key_is_free}
use Rattle.goo_tables_accounts.specs.Changes.{IsNewDevice}
use Rattle.goo_tables_accounts.proofs.Adding.{Adds, adds_kept}
use Rattle.goo_tables_accounts.proofs.Failing.{FailsOnly, distinct_kept_fails, next_row}
use Rattle.goo_tables.specs.Carriers.{with_device_carrier}
use Rattle.goo_tables.proofs.Carried.{devices_keep}
use Rattle.goo_tables.proofs.Twice.{stays_ours}
use Rattle.goo_tables_accounts.proofs.Queries.{in_order}
use Rattle.goo_tables_rows.specs.Met.{HasOurTables, KeepsSome}
use Rattle.goo_tables_rows.proofs.Meeting.{type_rules, shape_rules, no_text}
use Rattle.std.specs.Prelude.{⊤}
use Rattle.goo_tables_accounts.proofs.AnyTable.{TableOf, shown, shows_each, IsKept, meets_kept}
use Rattle.goo_tables_accounts.proofs.Asking.{Asks, Tells, Says}
use Rattle.goo_tables_accounts.proofs.Values.{whole_is}

-- ---- device_carrier: the table

abbrev pub device_carriers : TableOf DeviceCarrierRow (Kept DeviceCarrier) DeviceCarrier
device_carriers = record {
  table = device_carrier;
  row = device_carrier_row;
  key = kept_key;
  keyed = λ _. refl;
  plain = λ _. refl;
  columns = col 1 1 ∷ col 1 2 ∷ [];
  show = λ k. device_carrier_columns k.1;
  shows = λ _ _. refl;
  reads = device_carrier_reads;
  value = device_carrier_in;
  of = λ k. k.1;
  same = λ k. device_carrier_same k.1;
}

-- ---- device_carrier: a row is added

abbrev pub insert_text : List ℕ
insert_text = codes "INSERT INTO device_carrier (gsrn, carrier) VALUES (?1, ?2)"

abbrev insert_terms : List Term
insert_terms = lit Null ∷ col 0 0 ∷ col 0 1 ∷ []

insert_adds : Adds insert_text 14 insert_terms 3 2
unfolding understood everything
insert_adds = record { is = refl; plain = (refl, refl); whole = refl }

pub insert_live : KeepsLive insert_text
insert_live = keeps_live insert_text _ insert_adds.is insert_adds.plain refl

pub insert_stays : (params : Row) (old new : State) → old.now.schema ≡ registry_schema → (r : Result ℕ Error) → ExecutesInside 0 insert_text params old new r → OnOk r (IsTrue new.in_transaction × (new.now.schema ≡ registry_schema))
insert_stays = stays_ours insert_adds refl (λ _ _. refl)

pub inserts_row : (old new : State) (t : Tables) (x : DeviceCarrier) → IsNewDevice t x.gsrn → (r : Result ℕ Error) → Stands old.now t → Executes insert_text (device_carrier_columns x) old new r → OnOk r (Stands new.now (with_device_carrier t x))
inserts_row old new t x unmet r it =
    adds_kept insert_adds refl (λ _ _. refl) (device_carrier_columns x) old new device_carrier_columns t.device_carriers x it.device_carriers it.schema (simp (cast_null) refl) (with_device_carrier t x)
    (λ schema others is. device_carriers_stand old.now new.now t it schema others _ is (devices_keep t.device_carriers x t.devices it.device_carriers.rise unmet.0 it.devices_carried)) r

pub inserting_fails : (old new : State) (t : Tables) (x : DeviceCarrier) → Stands old.now t → IsLive old → old.step_limit ≡ None → find (λ (k : Kept DeviceCarrier). bytes_eq k.1.gsrn x.gsrn) t.device_carriers ≡ None
    → FailsOnly (λ e. IsTooBigOrFull e × (HasRoomFor device_carrier_row t.device_carriers x → ⊥)) insert_text (device_carrier_columns x) old new
inserting_fails old new t x it live unlimited unmet =
    distinct_kept_fails insert_adds refl (λ _ _. refl) (device_carrier_columns x) refl refl old new it.schema unlimited live (1 ∷ []) (λ _ _. refl) device_carrier_row kept_key (λ _. refl) t.device_carriers it.device_carriers
    (λ (k : Kept DeviceCarrier). bytes_eq k.1.gsrn x.gsrn) unmet
    (next_key kept_key t.device_carriers, x) (simp (cast_null) refl ∙ next_row device_carrier_columns (old.now.trees 23) t.device_carriers x it.device_carriers.are) (λ z h. ap (λ a. a && true) (same_text z.1.gsrn x.gsrn) ∙ one_apart _ h)
    (record { typed = refl; present = refl; checked = refl; keyed = refl }) (next_key_is_free kept_key t.device_carriers it.device_carriers.rise) (device_carrier_stored (next_key kept_key t.device_carriers, x))

-- ---- device_carrier: the whole table

abbrev pub all_text : List ℕ
all_text = codes "SELECT gsrn, carrier FROM device_carrier ORDER BY rowid"

abbrev pub all_query : Query
all_query = in_order 23 [] device_carriers.columns

pub all_asks : Asks all_text all_query (λ (_ : ⊤). [])
unfolding understood everything
all_asks = record { names = _; is = refl; plain = (refl, refl); unlisted = refl; suits = λ _. refl }

pub shown_all : (old : State) (t : Tables) → Stands old.now t → (rows : List Row) → IsAnswer all_query (overlay old.now.trees []) [] rows → rows ≡ map (λ (k : (Kept DeviceCarrier)). device_carrier_columns k.1) t.device_carriers
shown_all old t it = shown device_carriers old it.device_carriers

pub shows_all : (old : State) → Says old all_query [] (λ (xs : List DeviceCarrierRow) rows. AllZip device_carrier_reads rows xs) (λ t xs. map device_carrier_in xs ≡ map (λ (k : (Kept DeviceCarrier)). k.1) t.device_carriers)
shows_all old t it xs rows answer read = shows_each device_carriers old it.device_carriers xs rows answer read

-- ---- device_carrier: the whole table, met as it is

device_carrier_is : IsKept device_carriers
device_carrier_is k x fits reads =
    whole_is device_carrier 1 refl k fits (λ none. no_text (none ∙ reads.1)) ∙ then_value refl (then_value reads.0 (then_value reads.1 refl))

pub meets_all : (old : State) → HasOurTables old.now → Tells old all_query [] (λ (xs : List DeviceCarrierRow) rows. AllZip device_carrier_reads rows xs) (λ xs. KeepsSome (old.now.trees 23) device_carrier_row (map device_carrier_in xs))
meets_all old it = meets_kept device_carriers old (shape_rules old.now it).1.1.1.1.1.1.1.1.1.1.1.1.1.1.0 (type_rules old.now it).1.1.1.1.1.1.1.1.1.1.1.1.1.1.0 device_carrier_is
