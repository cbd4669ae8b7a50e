-- What the statements on `lot_carrier` do and show.
use Rattle.std.proofs.Common.{◌≡◌, ◌<◌, ◌^◌, pos, List, [], ◌∷◌, map, codes, ℕ, None, Result, OnOk, IsTrue, refl, ◌∙◌, map-id}
use Rattle.std.proofs.lemmas.Bool.{lt-ltb}
use Rattle.std.specs.List.{AllZip}
use Rattle.sqlite_tied.specs.Compute.{everything}
use Rattle.sqlite.specs.declared.types.Value.TheVariants.{Null}
use Rattle.sqlite.specs.declared.error.Error.{Error}
use Rattle.sqlite.specs.Order.{Row}
use Rattle.sqlite.specs.Term.{Term, lit, col}
use Rattle.sqlite.specs.Query.{Query, IsAnswer}
use Rattle.sqlite.specs.Program.{overlay}
use Rattle.sqlite.specs.Listing.{understood}
use Rattle.sqlite.specs.State.{State, IsLive, Executes, ExecutesInside}
use Rattle.sqlite_typed.proofs.TestLemmas.{then_value}
use Rattle.goo_tables_rows.specs.Columns.{registry_schema, lot_carrier}
use Rattle.goo_tables_rows.specs.Rows.{Tables, LotCarrier, lot_carrier_in, lot_carrier_columns, lot_carrier_row, lot_carrier_key}
use Rattle.goo_tables_rows.specs.declared.lot_carrier.LotCarrierRow.{LotCarrierRow}
use Rattle.goo_tables_rows.specs.Reads.{lot_carrier_reads}
use Rattle.goo_tables_rows.specs.Stands.{Stands, Keeps}
use Rattle.goo_tables_rows.proofs.Same.{lot_carrier_same}
use Rattle.goo_tables_rows.proofs.Typed.{cast_int, cast_null}
use Rattle.goo_tables_rows.proofs.Alone.{lot_carriers_stand}
use Rattle.goo_tables_rows.proofs.Living.{KeepsLive, keeps_live}
use Rattle.goo_tables_rows.proofs.Stored.{lot_carrier_stored}
use Rattle.goo_tables_rows.specs.Refused.{IsTooBig, IsSmall}
use Rattle.sqlite_keyed.specs.Keyed.{get_by}
use Rattle.sqlite_keyed.proofs.ListLemmas.{all_of}
use Rattle.goo_tables_accounts.specs.Changes.{IsNewLot}
use Rattle.goo_tables_accounts.proofs.Adding.{Adds, adds_row}
use Rattle.goo_tables_accounts.proofs.Failing.{FailsOnly, adding_fails, not_there}
use Rattle.goo_tables.specs.Carriers.{with_lot_carrier}
use Rattle.goo_tables.proofs.Carried.{lots_keep}
use Rattle.goo_tables.proofs.Twice.{stays_ours}
use Rattle.goo_tables_accounts.proofs.Queries.{in_order}
use Rattle.goo_tables_rows.specs.Met.{HasOurTables}
use Rattle.goo_tables_rows.proofs.Meeting.{type_rules, shape_rules, no_text, int_same}
use Rattle.std.specs.Prelude.{⊤}
use Rattle.goo_tables_accounts.proofs.AnyTable.{TableOf, shown, shows_each, IsListed, meets_listed}
use Rattle.goo_tables_accounts.proofs.Asking.{Asks, Tells, Says}
use Rattle.goo_tables_accounts.proofs.Values.{whole_is, null_at_key}

-- ---- lot_carrier: the table

abbrev pub lot_carriers : TableOf LotCarrierRow LotCarrier LotCarrier
lot_carriers = record {
  table = lot_carrier;
  row = lot_carrier_row;
  key = lot_carrier_key;
  keyed = λ _. refl;
  plain = λ _. refl;
  columns = col 1 0 ∷ col 1 2 ∷ [];
  show = lot_carrier_columns;
  shows = λ _ _. refl;
  reads = lot_carrier_reads;
  value = lot_carrier_in;
  of = λ x. x;
  same = lot_carrier_same;
}

-- ---- lot_carrier: a row is added

abbrev pub insert_text : List ℕ
insert_text = codes "INSERT INTO lot_carrier (lot, carrier) VALUES (?1, ?2)"

abbrev insert_terms : List Term
insert_terms = col 0 0 ∷ lit Null ∷ col 0 1 ∷ []

insert_adds : Adds insert_text 15 insert_terms 3 2
unfolding understood everything
insert_adds = record { is = refl; plain = (refl, refl); whole = refl }

pub insert_live : KeepsLive insert_text
insert_live = keeps_live insert_text _ insert_adds.is insert_adds.plain refl

pub insert_stays : (params : Row) (old new : State) → old.now.schema ≡ registry_schema → (r : Result ℕ Error) → ExecutesInside 0 insert_text params old new r → OnOk r (IsTrue new.in_transaction × (new.now.schema ≡ registry_schema))
insert_stays = stays_ours insert_adds refl (λ _ _. refl)

pub inserts_row : (old new : State) (t : Tables) (x : LotCarrier) → IsNewLot t x.lot → (r : Result ℕ Error) → Stands old.now t → Executes insert_text (lot_carrier_columns x) old new r → OnOk r (Stands new.now (with_lot_carrier t x))
inserts_row old new t x unmet r it =
    adds_row insert_adds refl (λ _ _. refl) (lot_carrier_columns x) old new lot_carrier_row lot_carrier_key (λ _. refl) t.lot_carriers x it.lot_carriers it.schema (simp (cast_null, cast_int) refl) (with_lot_carrier t x)
    (λ schema others is. lot_carriers_stand old.now new.now t it schema others _ is (lots_keep t.lot_carriers x t.lots unmet.1 unmet.0 it.lots_carried)) r

pub inserting_fails : (old new : State) (t : Tables) (x : LotCarrier) → x.lot < 2 ^ 63 → Stands old.now t → IsLive old → old.step_limit ≡ None → get_by lot_carrier_key t.lot_carriers (pos x.lot) ≡ None
    → FailsOnly (λ e. IsTooBig e × (IsSmall (lot_carrier_row x) → ⊥)) insert_text (lot_carrier_columns x) old new
inserting_fails old new t x small it live unlimited free =
    adding_fails insert_adds refl (λ _ _. refl) (lot_carrier_columns x) refl refl old new it.schema unlimited live (lot_carrier_row x) (simp (cast_null, cast_int) refl)
    (λ _. record { typed = refl; present = refl; checked = refl; free = not_there lot_carrier_row lot_carrier_key (λ _. refl) (old.now.trees 25) t.lot_carriers x it.lot_carriers.are free; unique = all_of _ (λ _. refl) _; keyed = refl })
    (lot_carrier_stored x) (lt-ltb _ _ small)

-- ---- lot_carrier: the whole table

abbrev pub all_text : List ℕ
all_text = codes "SELECT lot, carrier FROM lot_carrier ORDER BY lot"

abbrev pub all_query : Query
all_query = in_order 25 [] lot_carriers.columns

pub all_asks : Asks all_text all_query (λ (_ : ⊤). [])
unfolding understood everything
all_asks = record { names = _; is = refl; plain = (refl, refl); unlisted = refl; suits = λ _. refl }

pub shown_all : (old : State) (t : Tables) → Stands old.now t → (rows : List Row) → IsAnswer all_query (overlay old.now.trees []) [] rows → rows ≡ map (λ (x : LotCarrier). lot_carrier_columns x) t.lot_carriers
shown_all old t it = shown lot_carriers old it.lot_carriers

pub shows_all : (old : State) → Says old all_query [] (λ (xs : List LotCarrierRow) rows. AllZip lot_carrier_reads rows xs) (λ t xs. map lot_carrier_in xs ≡ t.lot_carriers)
shows_all old t it xs rows answer read = shows_each lot_carriers old it.lot_carriers xs rows answer read ∙ map-id _

-- ---- lot_carrier: the whole table, met as it is

lot_carrier_is : IsListed lot_carriers
lot_carrier_is k x fits reads =
    (whole_is lot_carrier 1 refl k fits (λ none. no_text (none ∙ reads.1)) ∙ then_value reads.0 (then_value (null_at_key lot_carrier.columns k.1 fits) (then_value reads.1 refl)), int_same reads.0)

pub meets_all : (old : State) → HasOurTables old.now → Tells old all_query [] (λ (xs : List LotCarrierRow) rows. AllZip lot_carrier_reads rows xs) (λ xs. Keeps (old.now.trees 25) lot_carrier_row lot_carrier_key (map lot_carrier_in xs))
meets_all old it = meets_listed lot_carriers old (shape_rules old.now it).1.1.1.1.1.1.1.1.1.1.1.1.1.1.1.0 (type_rules old.now it).1.1.1.1.1.1.1.1.1.1.1.1.1.1.1.0 lot_carrier_is
