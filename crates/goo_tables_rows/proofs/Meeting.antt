-- From the values that were read to the rows that the tables hold.
use Rattle.std.proofs.Common.{◌≡◌, ◌<ℤ◌, ◌≤◌, ◌+◌, ℕ, ℤ, length, Option, arith, true, List, [], ◌∷◌, map, drop, inl, inr, refl, ap, ap₂, subst, ◌∙◌}
use Rattle.std.specs.List.{AllByRecursion, AllZip}
use Rattle.std.proofs.lemmas.Bool.{and_parts}
use Rattle.sqlite.specs.declared.types.Value.{Value}
use Rattle.sqlite.specs.declared.types.Value.TheVariants.{Null, Int, Text, Blob}
use Rattle.sqlite.specs.Order.{Row}
use Rattle.sqlite.specs.Table.{Table}
use Rattle.sqlite.specs.Schema.{Schema}
use Rattle.sqlite.specs.Effect.{Database}
use Rattle.sqlite_schema.specs.declared.schema.Column.{Column}
use Rattle.sqlite_schema.specs.declared.schema.Constraint.TheVariants.{Datatype}
use Rattle.sqlite_schema.specs.Rules.{are_typed, suits, passes}
use Rattle.sqlite_trees.specs.declared.store.Shape.TheVariants as shape
use Rattle.sqlite_trees.specs.View.{IsShaped}
use Rattle.sqlite_keyed.specs.Keyed.{IsKeyedBy}
use Rattle.sqlite_keyed.proofs.ListLemmas.{all_weaker, all_map}
use Rattle.goo_tables_rows.specs.Columns.{registry_schema, first_schema, registry_tables, column_of}
use Rattle.sqlite.specs.Kind.TheVariants as kind
use Rattle.goo_tables_rows.specs.Rows.{Kept, kept_key}
use Rattle.goo_tables_rows.specs.Reads.{IsOctets}
use Rattle.goo_tables_rows.specs.Stands.{Keeps}
use Rattle.goo_tables_rows.specs.First.{HasFirstTables}
use Rattle.goo_tables_rows.specs.Met.{HasOurTables, Keyed, whole, keyed_of, all_keyed, KeepsSome}

abbrev zip_made : {X Y : Type 0} → (Keyed → X → Y) → List Keyed → List X → List Y
zip_made make [] xs = []
zip_made make (k ∷ ks) [] = []
zip_made make (k ∷ ks) (x ∷ xs) = make k x ∷ zip_made make ks xs

-- each row is that of its value, since it shows what the value would
module _ {X Y : Type 0} (make : Keyed → X → Y) (key : Y → ℤ) (to_row : Y → Row) (reads : Row → X → Type 0) (shown : Keyed → Row) (Fits : Keyed → Type 0)
    (one : (k : Keyed) (x : X) → Fits k → reads (shown k) x → (whole k ≡ to_row (make k x)) × (k.0 ≡ key (make k x))) where
  rows_met : (ks : List Keyed) (xs : List X) → AllByRecursion Fits ks → AllZip reads (map shown ks) xs → map whole ks ≡ map to_row (zip_made make ks xs)
  rows_met [] [] fits all = refl
  rows_met [] (x ∷ xs) fits all = absurd all
  rows_met (k ∷ ks) [] fits all = absurd all
  rows_met (k ∷ ks) (x ∷ xs) fits all = ap₂ ◌∷◌ (one k x fits.0 all.0).0 (rows_met ks xs fits.1 all.1)

  keys_above : (a : ℤ) (ks : List Keyed) (xs : List X) → AllByRecursion Fits ks → AllZip reads (map shown ks) xs → AllByRecursion (λ k. a <ℤ k.0) ks → AllByRecursion (λ y. a <ℤ key y) (zip_made make ks xs)
  keys_above a [] xs fits all up = tt
  keys_above a (k ∷ ks) [] fits all up = tt
  keys_above a (k ∷ ks) (x ∷ xs) fits all up = (subst (λ n. a <ℤ n) (one k x fits.0 all.0).1 up.0, keys_above a ks xs fits.1 all.1 up.1)

  keys_met : (ks : List Keyed) (xs : List X) → AllByRecursion Fits ks → AllZip reads (map shown ks) xs → IsKeyedBy (λ (k : Keyed). k.0) ks → IsKeyedBy key (zip_made make ks xs)
  keys_met [] xs fits all up = tt
  keys_met (k ∷ ks) [] fits all up = tt
  keys_met (k ∷ ks) (x ∷ xs) fits all up =
      (subst (λ n. AllByRecursion (λ y. n <ℤ key y) (zip_made make ks xs)) (one k x fits.0 all.0).1 (keys_above k.0 ks xs fits.1 all.1 up.0), keys_met ks xs fits.1 all.1 up.1)

  made_met : (rows : List Row) (ks : List Keyed) (xs : List X) → rows ≡ map whole ks → IsKeyedBy (λ (k : Keyed). k.0) ks → AllByRecursion Fits ks → AllZip reads (map shown ks) xs → Keeps rows to_row key (zip_made make ks xs)
  made_met rows ks xs are up fits all = record { are = are ∙ rows_met ks xs fits all; rise = keys_met ks xs fits all up }

values_made : {X Y : Type 0} (R : Row → X → Type 0) (shown : Keyed → Row) (value : X → Y) (ks : List Keyed) (xs : List X) → AllZip R (map shown ks) xs → zip_made (λ k x. value x) ks xs ≡ map value xs
values_made R shown value [] [] all = refl
values_made R shown value [] (x ∷ xs) all = absurd all
values_made R shown value (k ∷ ks) [] all = absurd all
values_made R shown value (k ∷ ks) (x ∷ xs) all = ap (λ l. value x ∷ l) (values_made R shown value ks xs all.1)

kept_made : {X Y : Type 0} (R : Row → X → Type 0) (shown : Keyed → Row) (value : X → Y) (ks : List Keyed) (xs : List X) → AllZip R (map shown ks) xs
    → map (λ (k : Kept Y). k.1) (zip_made (λ k x. (k.0, value x)) ks xs) ≡ map value xs
kept_made R shown value [] [] all = refl
kept_made R shown value [] (x ∷ xs) all = absurd all
kept_made R shown value (k ∷ ks) [] all = absurd all
kept_made R shown value (k ∷ ks) (x ∷ xs) all = ap (λ l. value x ∷ l) (kept_made R shown value ks xs all.1)

module _ {X Y : Type 0} (value : X → Y) (reads : Row → X → Type 0) (shown : Keyed → Row) (Fits : Keyed → Type 0) (rows : List Row) (ks : List Keyed) (xs : List X) (are : rows ≡ map whole ks)
    (up : IsKeyedBy (λ (k : Keyed). k.0) ks) (fits : AllByRecursion Fits ks) (all : AllZip reads (map shown ks) xs) where
  pub listed_met : (key : Y → ℤ) (to_row : Y → Row) → ((k : Keyed) (x : X) → Fits k → reads (shown k) x → (whole k ≡ to_row (value x)) × (k.0 ≡ key (value x))) → Keeps rows to_row key (map value xs)
  listed_met key to_row one = subst (Keeps rows to_row key) (values_made reads shown value ks xs all) (made_met (λ k x. value x) key to_row reads shown Fits one rows ks xs are up fits all)

  pub kept_met : (to_row : Kept Y → Row) → ((k : Keyed) (x : X) → Fits k → reads (shown k) x → whole k ≡ to_row (k.0, value x)) → KeepsSome rows to_row (map value xs)
  kept_met to_row one =
      (zip_made (λ k x. (k.0, value x)) ks xs, made_met (λ k x. (k.0, value x)) kept_key to_row reads shown Fits (λ k x f r. (one k x f r, refl)) rows ks xs are up fits all, kept_made reads shown value ks xs all)

-- ---- the rules of a table, at its rows

-- `drop 1` of a row is what stands beside its rowid
beside_rowid : (r : Row) → drop 1 r ≡ (keyed_of r).1
beside_rowid [] = refl
beside_rowid (v ∷ vs) = refl

abbrev pub IsTyped : Option ℕ → List Column → Keyed → Type 0
IsTyped key columns k = are_typed key 0 columns k.1 ≡ true

pub typed_rows : (table : Table) (db : Database) → AllByRecursion (λ row. passes Datatype registry_schema db.trees table row ≡ true) (db.trees table.tree)
    → AllByRecursion (IsTyped table.key table.columns) (all_keyed db table.tree)
typed_rows table db rules =
    all_map (IsTyped table.key table.columns) keyed_of (db.trees table.tree)
    (all_weaker (λ row. passes Datatype registry_schema db.trees table row ≡ true) (λ r. IsTyped table.key table.columns (keyed_of r))
    (λ r h. subst (λ vs. are_typed table.key 0 table.columns vs ≡ true) (beside_rowid r) (and_parts _ _ h).0) (db.trees table.tree) rules)

abbrev pub TypeRules : Database → Type 0
TypeRules db = AllByRecursion (λ (t : Table). AllByRecursion (λ row. passes Datatype registry_schema db.trees t row ≡ true) (db.trees t.tree)) registry_tables

pub type_rules : (db : Database) → HasOurTables db → TypeRules db
type_rules db it = subst (λ (s : Schema). AllByRecursion (λ (t : Table). AllByRecursion (λ row. passes Datatype s db.trees t row ≡ true) (db.trees t.tree)) s.tables) it.schema (it.sound.obeys.rules Datatype)

abbrev pub ShapeRules : Database → Type 0
ShapeRules db = AllByRecursion (λ (t : Table). IsShaped shape.Table (db.trees t.tree)) registry_tables

pub shape_rules : (db : Database) → HasOurTables db → ShapeRules db
shape_rules db it = subst (λ (s : Schema). AllByRecursion (λ (t : Table). IsShaped shape.Table (db.trees t.tree)) s.tables) it.schema it.ordered

-- the same rules of the tables of version 1

abbrev pub FirstTypeRules : Database → Type 0
FirstTypeRules db = AllByRecursion (λ (t : Table). AllByRecursion (λ row. passes Datatype registry_schema db.trees t row ≡ true) (db.trees t.tree)) first_schema.tables

pub first_type_rules : (db : Database) → HasFirstTables db → FirstTypeRules db
first_type_rules db it = subst (λ (s : Schema). AllByRecursion (λ (t : Table). AllByRecursion (λ row. passes Datatype s db.trees t row ≡ true) (db.trees t.tree)) s.tables) it.schema (it.sound.obeys.rules Datatype)

abbrev pub FirstShapeRules : Database → Type 0
FirstShapeRules db = AllByRecursion (λ (t : Table). IsShaped shape.Table (db.trees t.tree)) first_schema.tables

pub first_shape_rules : (db : Database) → HasFirstTables db → FirstShapeRules db
first_shape_rules db it = subst (λ (s : Schema). AllByRecursion (λ (t : Table). IsShaped shape.Table (db.trees t.tree)) s.tables) it.schema it.ordered

-- a row has no more values than its table has columns
pub typed_length : (key : Option ℕ) (at : ℕ) (cs : List Column) (vs : Row) → are_typed key at cs vs ≡ true → length vs ≤ length cs
typed_length key at [] [] h = omega arith
typed_length key at [] (v ∷ vs) h = absurd cc
typed_length key at (c ∷ cs) [] h = omega arith
typed_length key at (c ∷ cs) (v ∷ vs) h = omega (arith, typed_length key (at + 1) cs vs (and_parts _ _ h).1)

-- ---- what a value is not

pub no_text : {b : List ℕ} → Null ≡ Text b → ⊥
no_text is = cc

pub no_number : {z : ℤ} → Null ≡ Int z → ⊥
no_number is = cc

pub no_octets : {b : List ℕ} → IsOctets Null b → ⊥
no_octets (inl is) = cc
no_octets (inr is) = cc

pub int_same : {a b : ℤ} → Int a ≡ Int b → a ≡ b
int_same is = cc

-- bytes in a column of texts are a text, and in one of blobs a blob
pub text_octets : (name : List ℕ) (v : Value) {bytes : List ℕ} → suits (column_of true name kind.Text) v ≡ true → IsOctets v bytes → v ≡ Text bytes
text_octets name v h (inl is) = is
text_octets name v h (inr is) = absurd (let e = subst (λ u. suits (column_of true name kind.Text) u ≡ true) is h in cc)

pub blob_octets : (name : List ℕ) (v : Value) {bytes : List ℕ} → suits (column_of true name kind.Blob) v ≡ true → IsOctets v bytes → v ≡ Blob bytes
blob_octets name v h (inl is) = absurd (let e = subst (λ u. suits (column_of true name kind.Blob) u ≡ true) is h in cc)
blob_octets name v h (inr is) = is
