-- That no two lots of a database have one origin, device and first day.
use Rattle.std.proofs.Common.{◌≡◌, ◌<ℤ◌, ℕ, pos, Bool, true, false, cond, ◌&&◌, List, [], ◌∷◌, map, filter, int_eq, inl, inr, refl, sym, ap, subst, ◌∙◌, arith, true≢false}
use Rattle.std.specs.List.{AllByRecursion}
use Rattle.std.proofs.lemmas.Int.{ints}
use Rattle.std.proofs.lemmas.Bool.{and_parts}
use Rattle.sqlite.specs.Tree.{rowid, IsAscending}
use Rattle.sqlite.specs.Effect.{Database, IsDatabase}
use Rattle.sqlite_schema.specs.declared.schema.Constraint.TheVariants.{Unique}
use Rattle.sqlite_schema.specs.Rules.{agree, differ, clashes, passes}
use Rattle.sqlite_sql.specs.declared.ops.CompareOp.TheVariants.{Eq, Ne}
use Rattle.sqlite_value.specs.Keys.{plain, first_key}
use Rattle.sqlite_value.specs.declared.keys.Collation.TheVariants.{Binary}
use Rattle.sqlite_typed.specs.Tests.{bytes_eq}
use Rattle.sqlite_typed.proofs.TestLemmas.{at_texts, at_ints, same_bytes}
use Rattle.sqlite_keyed.specs.Keyed.{IsKeyedBy}
use Rattle.sqlite_keyed.proofs.KeyedLemmas.{same_int}
use Rattle.sqlite_keyed.proofs.ListLemmas.{all_weaker, all_both, all_unmap, none_from_any, filter_none}
use Rattle.goo_tables_rows.specs.Columns.{registry_schema, first_schema, lot}
use Rattle.goo_tables_rows.specs.Rows.{Tables, Lot, lot_row, lot_key}
use Rattle.goo_tables_rows.specs.Stands.{Stands, Keeps}
use Rattle.goo_tables_rows.specs.First.{IsFirst}
use Rattle.goo_tables_rows.specs.Once.{IsOnce}
use Rattle.goo_tables_rows.proofs.Unique.{no_clash, unique_rules}

first_binary : (first_key plain).collation ≡ Binary
unfolding first_key
first_binary = refl

-- the columns of the index: origin, device, first day
abbrev places : List ℕ
places = 2 ∷ 3 ∷ 11 ∷ []

abbrev same : Lot → Lot → Bool
same j k = int_eq (pos j.origin) (pos k.origin) && (bytes_eq j.device k.device && (bytes_eq j.first_day k.first_day && true))

agree_is : (j k : Lot) → agree plain places (lot_row j) places (lot_row k) ≡ same j k
agree_is j k =
    rw first_binary
    (λ i. at_ints false Eq (pos j.origin) (pos k.origin) i && (at_texts false Eq j.device k.device i && (at_texts false Eq j.first_day k.first_day i && true)))

abbrev clash : Lot → Lot → Bool
clash j k = agree plain places (lot_row j) places (lot_row k) && differ (rowid (lot_row j)) (rowid (lot_row k))

apart_two : (j k : Lot) → clash j k ≡ false → lot_key k <ℤ lot_key j → same j k ≡ false
apart_two j k none low = go (same j k) (ap (λ b. b && differ (rowid (lot_row j)) (rowid (lot_row k))) (sym (agree_is j k)) ∙ none)
  where
    distinct : differ (rowid (lot_row j)) (rowid (lot_row k)) ≡ true
    distinct = at_ints false Ne (lot_key j) (lot_key k) ∙ (let less = low in grind (arith, ints))

    go : (b : Bool) → (b && differ (rowid (lot_row j)) (rowid (lot_row k))) ≡ false → b ≡ false
    go false h = refl
    go true h = absurd (true≢false (sym distinct ∙ h))

apart : (ks : List Lot) → AllByRecursion (λ k. AllByRecursion (λ j. clash j k ≡ false) ks) ks → IsKeyedBy lot_key ks → IsAscending (λ k j. same j k ≡ false) ks
apart [] none up = tt
apart (k ∷ ks) none up = (
  all_both (λ j. clash j k ≡ false) (λ j. lot_key k <ℤ lot_key j) (λ j. same j k ≡ false) (λ j h low. apart_two j k h low) ks none.0.1 up.0,
  apart ks (all_weaker (λ i. AllByRecursion (λ j. clash j i ≡ false) (k ∷ ks)) (λ i. AllByRecursion (λ j. clash j i ≡ false) ks) (λ i h. h.1) ks none.1) up.1,
)

module _ (origin : ℕ) (device first_day : List ℕ) where
  abbrev is_it : Lot → Bool
  is_it k = int_eq (pos k.origin) (pos origin) && (bytes_eq k.device device && bytes_eq k.first_day first_day)

  -- lots of one period are alike
  other : (k j : Lot) → is_it k ≡ true → same j k ≡ false → is_it j ≡ false
  other k j is apart_from =
      let first = and_parts (int_eq (pos k.origin) (pos origin)) _ is in
      let rest = and_parts (bytes_eq k.device device) (bytes_eq k.first_day first_day) first.1 in
      let here : same j k ≡ (is_it j) = λ i. both (int_eq (pos j.origin) (same_int (pos k.origin) (pos origin) first.0 i)) (bytes_eq j.device (same_bytes k.device device rest.0 i)) (bytes_eq j.first_day (same_bytes k.first_day first_day rest.1 i)) i in
      sym here ∙ apart_from
    where
      both : (a b c : Bool) → a && (b && (c && true)) ≡ a && (b && c)
      both a b true = refl
      both a b false = refl

  once : (ks : List Lot) → IsAscending (λ k j. same j k ≡ false) ks → IsOnce (filter is_it ks)
  once [] up = inl refl
  once (k ∷ ks) up = go (is_it k) refl (once ks up.1)
    where
      go : (b : Bool) → is_it k ≡ b → IsOnce (filter is_it ks) → IsOnce (cond b (k ∷ filter is_it ks) (filter is_it ks))
      go false e more = more
      go true e more = inr (k, ap (λ l. k ∷ l) (filter_none is_it ks (all_weaker (λ j. same j k ≡ false) (λ j. is_it j ≡ false) (λ j h. other k j e h) ks up.0)))

abbrev is_of : ℕ → List ℕ → List ℕ → Lot → Bool
is_of origin device first_day l = int_eq (pos l.origin) (pos origin) && (bytes_eq l.device device && bytes_eq l.first_day first_day)

-- rows of `lot` without a clash, whatever other tables there are
lot_once : (db : Database) (lots : List Lot) (origin : ℕ) (device first_day : List ℕ) → AllByRecursion (λ row. clashes plain places (db.trees 8) row ≡ false) (db.trees 8) → Keeps (db.trees 8) lot_row lot_key lots
    → IsOnce (filter (is_of origin device first_day) lots)
lot_once db lots origin device first_day none keeps =
    let all = subst (λ l. AllByRecursion (λ row. clashes plain places l row ≡ false) l) keeps.are none in
    let each = all_unmap (λ row. clashes plain places (map lot_row lots) row ≡ false) lot_row lots all in
    once origin device first_day lots
    (apart lots (all_weaker (λ k. clashes plain places (map lot_row lots) (lot_row k) ≡ false) (λ k. AllByRecursion (λ j. clash j k ≡ false) lots)
    (λ k h. all_unmap (λ row. (agree plain places row places (lot_row k) && differ (rowid row) (rowid (lot_row k))) ≡ false) lot_row lots (none_from_any _ (map lot_row lots) h)) lots each) keeps.rise)

-- a database, as each connection keeps it, has no two lots of one origin, device and first day
pub one_lot : (db : Database) (t : Tables) (origin : ℕ) (device first_day : List ℕ) → IsDatabase db → Stands db t
    → IsOnce (filter (λ (l : Lot). int_eq (pos l.origin) (pos origin) && (bytes_eq l.device device && bytes_eq l.first_day first_day)) t.lots)
one_lot db t origin device first_day live it =
    lot_once db t.lots origin device first_day
    (all_weaker (λ row. passes Unique registry_schema db.trees lot row ≡ true) (λ row. clashes plain places (db.trees 8) row ≡ false) (λ row h. no_clash (clashes plain places (db.trees 8) row) h) (db.trees 8) (unique_rules registry_schema db live it.schema).1.1.1.1.1.0)
    it.lots

-- nor has one of version 1
pub first_lot : (db : Database) (t : Tables) (origin : ℕ) (device first_day : List ℕ) → IsDatabase db → IsFirst db t
    → IsOnce (filter (λ (l : Lot). int_eq (pos l.origin) (pos origin) && (bytes_eq l.device device && bytes_eq l.first_day first_day)) t.lots)
first_lot db t origin device first_day live it =
    lot_once db t.lots origin device first_day
    (all_weaker (λ row. passes Unique first_schema db.trees lot row ≡ true) (λ row. clashes plain places (db.trees 8) row ≡ false) (λ row h. no_clash (clashes plain places (db.trees 8) row) h) (db.trees 8) (unique_rules first_schema db live it.0).1.1.1.1.1.0)
    it.1.lots
