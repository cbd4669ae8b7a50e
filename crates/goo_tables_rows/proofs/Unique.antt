-- That no two rows have one key, where the key is a text and not the rowid.
use Rattle.std.proofs.Common.{◌≡◌, ◌<ℤ◌, ℕ, Bool, true, false, not, cond, ◌&&◌, List, [], ◌∷◌, map, filter, inl, inr, refl, sym, ap, subst, ◌∙◌, arith, true≢false}
use Rattle.std.specs.List.{AllByRecursion}
use Rattle.std.proofs.lemmas.Int.{ints}
use Rattle.sqlite.specs.declared.types.Value.TheVariants.{Int, Text}
use Rattle.sqlite.specs.Order.{Row, column}
use Rattle.sqlite.specs.Tree.{rowid, IsAscending}
use Rattle.sqlite.specs.Effect.{Database, IsDatabase}
use Rattle.sqlite.specs.Schema.{Schema}
use Rattle.sqlite.specs.Table.{Table}
use Rattle.sqlite_schema.specs.declared.schema.Constraint.TheVariants.{Unique}
use Rattle.sqlite_schema.specs.Rules.{agree, differ, clashes, passes}
use Rattle.sqlite_sql.specs.declared.ops.CompareOp.TheVariants.{Eq, Ne}
use Rattle.sqlite_value.specs.Keys.{plain, first_key}
use Rattle.sqlite_value.specs.declared.keys.Collation.TheVariants.{Binary}
use Rattle.sqlite_typed.specs.Tests.{bytes_eq}
use Rattle.sqlite_typed.proofs.TestLemmas.{at_texts, at_ints, same_bytes}
use Rattle.sqlite_keyed.specs.Keyed.{IsKeyedBy}
use Rattle.sqlite_keyed.proofs.ListLemmas.{all_weaker, all_both, all_unmap, none_from_any, filter_none}
use Rattle.goo_tables_rows.specs.Columns.{registry_schema, first_schema, device}
use Rattle.goo_tables_rows.specs.Rows.{Tables, Kept, kept_key, Device, device_row}
use Rattle.goo_tables_rows.specs.Stands.{Stands, Keeps}
use Rattle.goo_tables_rows.specs.First.{IsFirst}
use Rattle.goo_tables_rows.specs.Once.{IsOnce}

first_binary : (first_key plain).collation ≡ Binary
unfolding first_key
first_binary = refl

module _ {X : Type 0} (to_row : Kept X → Row) (text : X → List ℕ) (ids : (k : Kept X) → rowid (to_row k) ≡ Int k.0) (texts : (k : Kept X) → column (to_row k) 1 ≡ Text (text k.1)) where
  abbrev clash : Kept X → Kept X → Bool
  clash j k = agree plain (1 ∷ []) (to_row j) (1 ∷ []) (to_row k) && differ (rowid (to_row j)) (rowid (to_row k))

  agree_is : (j k : Kept X) → agree plain (1 ∷ []) (to_row j) (1 ∷ []) (to_row k) ≡ (bytes_eq (text j.1) (text k.1) && true)
  agree_is j k = rw (texts j, texts k, first_binary) (ap (λ b. b && true) (at_texts false Eq (text j.1) (text k.1)))

  apart_texts : (j k : Kept X) → clash j k ≡ false → k.0 <ℤ j.0 → bytes_eq (text j.1) (text k.1) ≡ false
  apart_texts j k none low = go (bytes_eq (text j.1) (text k.1)) (ap (λ b. b && differ (rowid (to_row j)) (rowid (to_row k))) (sym (agree_is j k)) ∙ none)
    where
      distinct : differ (rowid (to_row j)) (rowid (to_row k)) ≡ true
      distinct = rw (ids j, ids k) (at_ints false Ne j.0 k.0 ∙ (let less = low in grind (arith, ints)))

      go : (b : Bool) → ((b && true) && differ (rowid (to_row j)) (rowid (to_row k))) ≡ false → b ≡ false
      go false h = refl
      go true h = absurd (true≢false (sym distinct ∙ h))

  apart : (ks : List (Kept X)) → AllByRecursion (λ k. AllByRecursion (λ j. clash j k ≡ false) ks) ks → IsKeyedBy kept_key ks → IsAscending (λ k j. bytes_eq (text j.1) (text k.1) ≡ false) ks
  apart [] none up = tt
  apart (k ∷ ks) none up = (
    all_both (λ j. clash j k ≡ false) (λ j. k.0 <ℤ j.0) (λ j. bytes_eq (text j.1) (text k.1) ≡ false) (λ j h low. apart_texts j k h low) ks none.0.1 up.0,
    apart ks (all_weaker (λ i. AllByRecursion (λ j. clash j i ≡ false) (k ∷ ks)) (λ i. AllByRecursion (λ j. clash j i ≡ false) ks) (λ i h. h.1) ks none.1) up.1,
  )

  once : (name : List ℕ) (ks : List (Kept X)) → IsAscending (λ k j. bytes_eq (text j.1) (text k.1) ≡ false) ks → IsOnce (filter (λ k. bytes_eq (text k.1) name) ks)
  once name [] up = inl refl
  once name (k ∷ ks) up = go (bytes_eq (text k.1) name) refl (once name ks up.1)
    where
      other : bytes_eq (text k.1) name ≡ true → (j : Kept X) → bytes_eq (text j.1) (text k.1) ≡ false → bytes_eq (text j.1) name ≡ false
      other e j h = subst (λ n. bytes_eq (text j.1) n ≡ false) (same_bytes (text k.1) name e) h

      go : (b : Bool) → bytes_eq (text k.1) name ≡ b → IsOnce (filter (λ j. bytes_eq (text j.1) name) ks)
          → IsOnce (cond b (k ∷ filter (λ j. bytes_eq (text j.1) name) ks) (filter (λ j. bytes_eq (text j.1) name) ks))
      go false e more = more
      go true e more = inr (k, ap (λ l. k ∷ l) (filter_none _ ks (all_weaker _ (λ j. bytes_eq (text j.1) name ≡ false) (other e) ks up.0)))

  pub only_one : (name : List ℕ) (rows : List Row) (ks : List (Kept X)) → rows ≡ map to_row ks → IsKeyedBy kept_key ks → AllByRecursion (λ row. clashes plain (1 ∷ []) rows row ≡ false) rows
      → IsOnce (filter (λ k. bytes_eq (text k.1) name) ks)
  only_one name rows ks are up none =
      let all = subst (λ l. AllByRecursion (λ row. clashes plain (1 ∷ []) l row ≡ false) l) are none in
      let each = all_unmap (λ row. clashes plain (1 ∷ []) (map to_row ks) row ≡ false) to_row ks all in
      once name ks (apart ks (all_weaker (λ k. clashes plain (1 ∷ []) (map to_row ks) (to_row k) ≡ false) (λ k. AllByRecursion (λ j. clash j k ≡ false) ks)
      (λ k h. all_unmap (λ row. (agree plain (1 ∷ []) row (1 ∷ []) (to_row k) && differ (rowid row) (rowid (to_row k))) ≡ false) to_row ks (none_from_any _ (map to_row ks) h)) ks each) up)

pub no_clash : (b : Bool) → (not b && true) ≡ true → b ≡ false
no_clash true h = absurd (true≢false (sym h))
no_clash false h = refl

abbrev AreOwn : List Row → Type 0
AreOwn rows = AllByRecursion (λ row. clashes plain (1 ∷ []) rows row ≡ false) rows

-- rows of `device` without a clash, whatever other tables there are
device_once : (db : Database) (devices : List (Kept Device)) (gsrn : List ℕ) → AreOwn (db.trees 4) → Keeps (db.trees 4) device_row kept_key devices → IsOnce (filter (λ (k : Kept Device). bytes_eq k.1.gsrn gsrn) devices)
device_once db devices gsrn none keeps = only_one device_row (λ d. d.gsrn) (λ _. refl) (λ _. refl) gsrn (db.trees 4) devices keeps.are keeps.rise none

abbrev pub UniqueRules : Schema → Database → Type 0
UniqueRules schema db = AllByRecursion (λ (u : Table). AllByRecursion (λ row. passes Unique schema db.trees u row ≡ true) (db.trees u.tree)) schema.tables

-- a database, as each connection keeps it, keeps to the UNIQUE of its tables
pub unique_rules : (schema : Schema) (db : Database) → IsDatabase db → db.schema ≡ schema → UniqueRules schema db
unique_rules schema db live is = subst (λ (s : Schema). UniqueRules s db) is (live.obeys.rules Unique)

-- so it has no two devices of one number
pub one_device : (db : Database) (t : Tables) (gsrn : List ℕ) → IsDatabase db → Stands db t → IsOnce (filter (λ (k : Kept Device). bytes_eq k.1.gsrn gsrn) t.devices)
one_device db t gsrn live it =
    device_once db t.devices gsrn
    (all_weaker (λ row. passes Unique registry_schema db.trees device row ≡ true) (λ row. clashes plain (1 ∷ []) (db.trees 4) row ≡ false) (λ row h. no_clash (clashes plain (1 ∷ []) (db.trees 4) row) h) (db.trees 4) (unique_rules registry_schema db live it.schema).1.1.1.0)
    it.devices

-- nor has one of version 1
pub first_device : (db : Database) (t : Tables) (gsrn : List ℕ) → IsDatabase db → IsFirst db t → IsOnce (filter (λ (k : Kept Device). bytes_eq k.1.gsrn gsrn) t.devices)
first_device db t gsrn live it =
    device_once db t.devices gsrn
    (all_weaker (λ row. passes Unique first_schema db.trees device row ≡ true) (λ row. clashes plain (1 ∷ []) (db.trees 4) row ≡ false) (λ row h. no_clash (clashes plain (1 ∷ []) (db.trees 4) row) h) (db.trees 4) (unique_rules first_schema db live it.0).1.1.1.0)
    it.1.devices
