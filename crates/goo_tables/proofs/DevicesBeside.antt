-- What a look-up of a device shows: the device beside the first row of its carrier.
use Rattle.std.proofs.Common.{◌≡◌, ◌<ℤ◌, ℕ, pos, Bool, true, false, cond, List, [], ◌∷◌, ◌++◌, All, map, filter, flat_map, find, take, slice_get, Option, Some, None, option_map, refl, sym, ap, subst, ◌∙◌, Less}
use Rattle.std.specs.List.{AllByRecursion, list_all}
use Rattle.std.proofs.lemmas.Cmp.{tied_itself, int_cmp_total}
use Rattle.std.proofs.lemmas.List.Elements.{filter-append, All-take}
use Rattle.sqlite.specs.declared.types.Value.TheVariants.{Int, Text}
use Rattle.sqlite.specs.Collation.TheVariants.{Binary}
use Rattle.sqlite.specs.Order.{Row}
use Rattle.sqlite.specs.Program.{overlay}
use Rattle.sqlite.specs.Query.{Query, IsAnswer, output_cmp, output}
use Rattle.sqlite.specs.State.{State}
use Rattle.sqlite.specs.Term.{Term, lit, col, op2, holds, eval_all}
use Rattle.sqlite.specs.Tree.{Trees, IsAscending}
use Rattle.sqlite_sql.specs.Term.{Env}
use Rattle.sqlite_sql.specs.Query.{inner, left, end}
use Rattle.sqlite_sql.specs.declared.ops.BinaryOp.TheVariants.{Compare}
use Rattle.sqlite_sql.specs.declared.ops.CompareOp.TheVariants.{Eq}
use Rattle.sqlite_typed.specs.Tests.{bytes_eq}
use Rattle.sqlite_typed.proofs.TestLemmas.{at_texts, last_term, last_key, then_key}
use Rattle.sqlite_value.proofs.OrderLemmas.{value_cmp-Int}
use Rattle.sqlite_keyed.specs.Keyed.{IsKeyedBy}
use Rattle.sqlite_keyed.proofs.KeyedLemmas.{Less-from_lt}
use Rattle.sqlite_keyed.proofs.ListLemmas.{map-map, map-flat_map, flat_map_same_on, filter-map, filter_all, filter_none, all_of, all_weaker, all-append, all_map, ascending-filter, ascending-map, ascending-append, slice_get-filter, IsPermutation-same}
use Rattle.goo_tables_rows.specs.Asked.{FirstZip}
use Rattle.goo_tables_rows.specs.Readable.{device_readable}
use Rattle.goo_tables_rows.specs.Reads.{device_reads}
use Rattle.goo_tables_rows.specs.Rows.{Tables, Kept, kept_key, Device, device_in, device_columns, device_row, DeviceCarrier, device_carrier_row, carrier_of_device}
use Rattle.goo_tables_rows.specs.Stands.{Stands}
use Rattle.goo_tables_rows.specs.declared.device.DeviceRow.{DeviceRow}
use Rattle.goo_tables_rows.proofs.Joining.{first_left}
use Rattle.goo_tables_rows.proofs.Read.{first_read}
use Rattle.goo_tables_rows.proofs.Same.{device_same}
use Rattle.goo_tables_accounts.proofs.AnyTable.{readable_left}
use Rattle.goo_tables_accounts.proofs.Covering.{Covers, or_empty, or_none, covers_table, covers_left, answer_covered}
use Rattle.goo_tables_accounts.proofs.Queries.{rising}

-- ---- each row beside those of another table that belong to it, or beside none

const_filter : {A : Type 0} (b : Bool) (xs : List A) → filter (λ _. b) xs ≡ cond b xs []
const_filter true xs = filter_all (λ _. true) xs (all_of _ (λ _. refl) xs)
const_filter false xs = filter_none (λ _. false) xs (all_of _ (λ _. refl) xs)

module _ {K C : Type 0} (cs : List C) (belongs : K → C → Bool) where
  abbrev own : K → List (K × Option C)
  own k = map (λ o. (k, o)) (or_none (filter (belongs k) cs))

  abbrev all_own : List K → List (K × Option C)
  all_own ks = flat_map own ks

  -- the first that passes, beside the first row that belongs to it
  first_own : {R : Type 0} (show : K × Option C → R) (shown : K → R) (p : K → Bool) (ks : List K) → AllByRecursion (λ k. show (k, find (belongs k) cs) ≡ shown k) ks
      → take 1 (map show (filter (λ a. p a.0) (all_own ks))) ≡ take 1 (map shown (filter p ks))
  first_own show shown p [] all = refl
  first_own {R} show shown p (k ∷ ks) all =
      ap (λ l. take 1 (map show l)) (filter-append (λ a. p a.0) (own k) (all_own ks) ∙ ap (λ l. l ++ filter (λ a. p a.0) (all_own ks)) (filter-map (λ a. p a.0) (λ o. (k, o)) (or_none (filter (belongs k) cs)) ∙ ap (map (λ o. (k, o))) (const_filter (p k) (or_none (filter (belongs k) cs)))))
      ∙ go (p k) (first_own show shown p ks all.1)
    where
      head : (ys : List C) (rest : List (K × Option C)) → take 1 (map show (map (λ o. (k, o)) (or_none ys) ++ rest)) ≡ show (k, slice_get ys 0) ∷ []
      head [] rest = refl
      head (y ∷ ys) rest = refl

      go : (b : Bool) → take 1 (map show (filter (λ a. p a.0) (all_own ks))) ≡ take 1 (map shown (filter p ks))
          → take 1 (map show (map (λ o. (k, o)) (cond b (or_none (filter (belongs k) cs)) []) ++ filter (λ a. p a.0) (all_own ks))) ≡ take 1 (map shown (cond b (k ∷ filter p ks) (filter p ks)))
      go false more = more
      go true more = head (filter (belongs k) cs) _ ∙ ap (λ o. show (k, o) ∷ []) (slice_get-filter (belongs k) cs) ∙ ap (λ r. r ∷ []) all.0

-- ---- the query

abbrev terms : List Term
terms = col 1 1 ∷ col 1 2 ∷ col 1 3 ∷ col 1 4 ∷ col 1 5 ∷ col 1 6 ∷ col 1 7 ∷ col 1 8 ∷ col 1 9 ∷ col 1 10 ∷ col 1 11 ∷ col 2 2 ∷ []

abbrev on_gsrn : List Term
on_gsrn = op2 (Compare Eq Binary) (col 2 1) (col 1 1) ∷ []

-- the first device with a number, and the first carrier of that number
abbrev pub device_query : Query
device_query = record {
  from = inner 4 (left 23 on_gsrn end);
  filter = op2 (Compare Eq Binary) (col 1 1) (col 0 0) ∷ [];
  group = None;
  project = terms;
  distinct = false;
  collations = [];
  order = (col 1 0, rising) ∷ (col 2 0, rising) ∷ [];
  limit = lit (Int (pos 1));
  offset = lit (Int (pos 0));
}

abbrev Beside : Type 0
Beside = Kept Device × Option (Kept DeviceCarrier)

abbrev belongs : Kept Device → Kept DeviceCarrier → Bool
belongs k c = bytes_eq c.1.gsrn k.1.gsrn

abbrev shows_beside : Beside → Row
shows_beside a = device_columns (record a.0.1 { carrier = option_map (λ c. c.1.carrier) a.1 })

module _ (gsrn : List ℕ) (old : State) (t : Tables) (it : Stands old.now t) where
  abbrev db : Trees
  db = overlay old.now.trees []

  abbrev params : Row
  params = Text gsrn ∷ []

  abbrev has : Kept Device → Bool
  has k = bytes_eq k.1.gsrn gsrn

  abbrev env : Beside → Env
  env a = params ∷ device_row a.0 ∷ or_empty device_carrier_row a.1 ∷ []

  abbrev all : List Beside
  all = all_own t.device_carriers belongs t.devices

  of_device : (k : Kept Device) → Covers db (left 23 on_gsrn end) (params ∷ device_row k ∷ []) (map (λ o. env (k, o)) (or_none (filter (belongs k) t.device_carriers)))
  of_device k =
      covers_left db 23 device_carrier_row t.device_carriers it.device_carriers.are on_gsrn (params ∷ device_row k ∷ []) (belongs k) (λ c. last_term (at_texts false Eq c.1.gsrn k.1.gsrn))

  covers : Covers db (inner 4 (left 23 on_gsrn end)) (params ∷ []) (map env all)
  covers tests =
      covers_table db 4 device_row t.devices it.devices.are (left 23 on_gsrn end) (params ∷ []) (λ k. map (λ o. env (k, o)) (or_none (filter (belongs k) t.device_carriers))) of_device tests
      ∙ ap (filter (λ e. list_all (holds e) tests))
      (flat_map_same_on _ (λ k. map env (own t.device_carriers belongs k)) (λ k. sym (map-map env (λ o. (k, o)) (or_none (filter (belongs k) t.device_carriers)))) t.devices
      ∙ sym (map-flat_map env (own t.device_carriers belongs) t.devices))

  -- by the devices' rowids, and then by the carriers'
  abbrev Precedes : Beside → Beside → Type 0
  Precedes a b = output_cmp device_query (output device_query (env a)) (output device_query (env b)) ≡ Less

  lower : (a b : Beside) → kept_key a.0 <ℤ kept_key b.0 → Precedes a b
  lower a b h = then_key (value_cmp-Int (kept_key a.0) (kept_key b.0) ∙ Less-from_lt (kept_key a.0) (kept_key b.0) h) refl

  beside_lower : (k : Kept Device) (c d : Kept DeviceCarrier) → kept_key c <ℤ kept_key d → Precedes (k, Some c) (k, Some d)
  beside_lower k c d h =
      then_key (value_cmp-Int (kept_key k) (kept_key k) ∙ tied_itself int_cmp_total (kept_key k)) (last_key (value_cmp-Int (kept_key c) (kept_key d) ∙ Less-from_lt (kept_key c) (kept_key d) h))

  rise_own : (k : Kept Device) (ys : List (Kept DeviceCarrier)) → IsKeyedBy kept_key ys → IsAscending Precedes (map (λ o. (k, o)) (or_none ys))
  rise_own k [] up = (tt, tt)
  rise_own k (y ∷ ys) up = ascending-map Precedes (λ o. (k, o)) (map Some (y ∷ ys)) (ascending-map (λ o r. Precedes (k, o) (k, r)) Some (y ∷ ys) (lowered (y ∷ ys) up))
    where
      above : (c : Kept DeviceCarrier) (zs : List (Kept DeviceCarrier)) → AllByRecursion (λ d. kept_key c <ℤ kept_key d) zs → AllByRecursion (λ d. Precedes (k, Some c) (k, Some d)) zs
      above c zs = all_weaker (λ d. kept_key c <ℤ kept_key d) (λ d. Precedes (k, Some c) (k, Some d)) (λ d h. beside_lower k c d h) zs

      lowered : (zs : List (Kept DeviceCarrier)) → IsKeyedBy kept_key zs → IsAscending (λ c d. Precedes (k, Some c) (k, Some d)) zs
      lowered [] up = tt
      lowered (z ∷ zs) up = (above z zs up.0, lowered zs up.1)

  above_all : (a : Beside) (ks : List (Kept Device)) → AllByRecursion (λ k. kept_key a.0 <ℤ kept_key k) ks → AllByRecursion (Precedes a) (all_own t.device_carriers belongs ks)
  above_all a [] above = tt
  above_all a (k ∷ ks) above =
      all-append (Precedes a) (own t.device_carriers belongs k) (all_own t.device_carriers belongs ks)
      (all_map (Precedes a) (λ o. (k, o)) (or_none (filter (belongs k) t.device_carriers)) (all_of _ (λ o. lower a (k, o) above.0) (or_none (filter (belongs k) t.device_carriers)))) (above_all a ks above.1)

  rise_all : (ks : List (Kept Device)) → IsKeyedBy kept_key ks → IsAscending Precedes (all_own t.device_carriers belongs ks)
  rise_all [] up = tt
  rise_all (k ∷ ks) up =
      ascending-append Precedes (own t.device_carriers belongs k) (all_own t.device_carriers belongs ks)
      (rise_own k (filter (belongs k) t.device_carriers) (ascending-filter _ (belongs k) t.device_carriers it.device_carriers.rise)) (rise_all ks up.1)
      (all_map _ (λ o. (k, o)) (or_none (filter (belongs k) t.device_carriers)) (all_of _ (λ o. above_all (k, o) ks up.0) (or_none (filter (belongs k) t.device_carriers))))

  shows_carrier : (k : Kept Device) (o : Option (Kept DeviceCarrier)) → eval_all terms (env (k, o)) ≡ shows_beside (k, o)
  shows_carrier k None = refl
  shows_carrier k (Some c) = refl

  have_carriers : AllByRecursion (λ k. shows_beside (k, find (belongs k) t.device_carriers) ≡ device_columns k.1) t.devices
  have_carriers =
      all_weaker (λ k. k.1.carrier ≡ carrier_of_device t.device_carriers k.1.gsrn) (λ k. shows_beside (k, find (belongs k) t.device_carriers) ≡ device_columns k.1)
      (λ k is. ap (λ c. device_columns (record k.1 { carrier = c })) (sym is)) t.devices it.devices_carried

  module _ (rows : List Row) (answer : IsAnswer device_query db params rows) where
    shown : rows ≡ take 1 (map (λ k. device_columns k.1) (filter has t.devices))
    shown =
        answer_covered device_query db params env all covers (λ a. has a.0) (λ a. last_term (at_texts false Eq a.0.1.gsrn gsrn)) refl refl (filter (λ a. has a.0) all) shows_beside
        (all_of _ (λ a. shows_carrier a.0 a.1) _) (IsPermutation-same _ _ refl) (ascending-filter Precedes (λ a. has a.0) all (rise_all t.devices it.devices.rise)) rows answer
        ∙ first_own t.device_carriers belongs shows_beside (λ k. device_columns k.1) has t.devices have_carriers

    pub finds_device : (x : Option DeviceRow) → FirstZip device_reads rows x → option_map device_in x ≡ option_map (λ (k : Kept Device). k.1) (find (λ (k : Kept Device). bytes_eq k.1.gsrn gsrn) t.devices)
    finds_device x read =
        first_read device_reads (λ (k : Kept Device). device_columns k.1) device_in (λ k. k.1) (λ k. device_same k.1) has t.devices x (first_left device_reads _ x (subst (λ s. FirstZip device_reads s x) shown read))

    pub readable_device : All device_readable (map (λ (k : Kept Device). device_columns k.1) t.devices) → All device_readable rows
    readable_device can =
        subst (λ s. All device_readable s) (sym shown)
        (All-take device_readable 1 (map (λ (k : Kept Device). device_columns k.1) (filter has t.devices)) (readable_left device_readable (λ (k : Kept Device). device_columns k.1) has t.devices can))
