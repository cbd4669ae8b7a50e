-- Which rows obey each rule of our tables.
use Rattle.std.proofs.Common.{◌≡◌, ℕ, ℤ, Bool, true, false, not, if◌then◌else◌, ◌&&◌, ◌||◌, cond, filter, ◌==◌, List, [], ◌∷◌, refl, sym, subst, ◌∙◌, true≢false}
use Rattle.std.specs.List.{AllByRecursion, list_all, list_any}
use Rattle.std.proofs.lemmas.Bool.{eqb-true}
use Rattle.sqlite.specs.Order.{Row}
use Rattle.sqlite.specs.Table.{Table}
use Rattle.sqlite.specs.Tree.{Trees, rowid, put_row, has_rowid, without_rowid}
use Rattle.sqlite.specs.Edit.{Edit, id_in, without_all}
use Rattle.sqlite.specs.Ops.{fits_i64}
use Rattle.sqlite_keyed.proofs.ListLemmas.{all_of, all_weaker, any_from_none}
use Rattle.sqlite_trees.specs.Tree.{with_tree}
use Rattle.sqlite_value.specs.Order.{value_cmp}
use Rattle.sqlite.specs.declared.types.Value.TheVariants.{Int}
use Rattle.std.specs.Ordering.{is_eq}
use Rattle.sqlite_trees.specs.View.{is_int}
use Rattle.sqlite_rules.specs.Edit.{IsRefused, is_taken, are_fresh, have_rowids, is_referred, left_by, edited}
use Rattle.sqlite_rules.specs.declared.error.Refusal.{Refusal}
use Rattle.sqlite_rules.specs.declared.error.Refusal.TheVariants.{Violates, Mismatch, NoRowid, BadReference, TooDeep}
use Rattle.sqlite_schema.specs.declared.schema.Among.{Among}
use Rattle.sqlite_schema.specs.declared.schema.Constraint.TheVariants.{Datatype, NotNull, Check, PrimaryKey, Unique, ForeignKey}
use Rattle.sqlite_schema.specs.declared.schema.Keys.TheVariants.{Enforced}
use Rattle.sqlite_schema.specs.Rules.{passes, Keeps, Refers, clashes}
use Rattle.goo_tables_rows.specs.Columns.{registry_schema, registry_tables, registry_indexes}

-- no table has a foreign key
pub no_references : (among : Among) (db : Trees) → Refers among registry_schema db
no_references among db =
    let free : (rows : List Row) → AllByRecursion (λ _. true ≡ true) rows = all_of _ (λ _. refl) in
    (free _, (free _, (free _, (free _, (free _, (free _, (free _, (free _, (free _, (free _, (free _, (free _, (free _, (free _, (free _, (free _, tt))))))))))))))))

-- ---- UNIQUE

-- no other row of these has the values of this one in the columns of a unique index
abbrev pub unique_among : List Row → ℕ → Row → Bool
unique_among rows tree row = list_all (λ i. not ((i.is_unique && (i.table == tree)) && clashes i.order i.columns rows row)) registry_indexes

abbrev pub AreUnique : ℕ → List Row → Type 0
AreUnique tree rows = AllByRecursion (λ row. unique_among rows tree row ≡ true) rows

module _ (db : Trees) (tree : ℕ) (rows : List Row) where
  at_tree : (n : ℕ) (b : Bool) → (n == tree) ≡ b → AreUnique n (db n) → AreUnique tree rows → AreUnique n (if b then rows else db n)
  at_tree n true same was new = subst (λ m. AreUnique m rows) (sym (eqb-true n tree same)) new
  at_tree n false apart was new = was

  -- where the rows of one table are others
  pub stays_unique : Keeps Unique registry_schema db → AreUnique tree rows → Keeps Unique registry_schema (with_tree db tree rows)
  stays_unique was new = all_weaker _ (λ (t : Table). AreUnique t.tree (with_tree db tree rows t.tree)) (λ t h. at_tree t.tree (t.tree == tree) refl h new) registry_tables was

-- ---- each rule

-- the rows may be put in
pub record Obeys (db : Trees) (edit : Edit) : Type 0 where
  pub typed : list_all (passes Datatype registry_schema db edit.table) edit.news ≡ true
  pub present : list_all (passes NotNull registry_schema db edit.table) edit.news ≡ true
  pub checked : list_all (passes Check registry_schema db edit.table) edit.news ≡ true
  pub fresh : are_fresh (left_by db edit) edit.news ≡ true
  pub unique : AreUnique edit.table.tree (edited db edit)
  pub keyed : have_rowids edit.news ≡ true
  pub referred : is_referred registry_schema Enforced edit ≡ true

abbrev pub have_small_rowids : List Row → Bool
have_small_rowids = list_all (λ r. fits_i64 (id_in (rowid r)))

-- then it is refused for a rowid that no column keeps, and for nothing else
pub only_for_rowid : (db : Trees) (edit : Edit) → Keeps Unique registry_schema db → Obeys db edit → (why : Refusal) → IsRefused registry_schema Enforced db edit why → (why ≡ NoRowid) × (have_small_rowids edit.news ≡ false)
only_for_rowid db edit was it (Violates Datatype) h = absurd (true≢false (sym it.typed ∙ h))
only_for_rowid db edit was it (Violates NotNull) h = absurd (true≢false (sym it.present ∙ h))
only_for_rowid db edit was it (Violates Check) h = absurd (true≢false (sym it.checked ∙ h))
only_for_rowid db edit was it (Violates PrimaryKey) h = absurd (true≢false (sym it.fresh ∙ h))
only_for_rowid db edit was it (Violates Unique) h = absurd (h (stays_unique db edit.table.tree (edited db edit) was it.unique))
only_for_rowid db edit was it (Violates ForeignKey) h = absurd h
only_for_rowid db edit was it Mismatch h = absurd (true≢false (sym it.keyed ∙ h))
only_for_rowid db edit was it NoRowid h = (refl, h)
only_for_rowid db edit was it BadReference h = absurd (true≢false (sym it.referred ∙ h))
only_for_rowid db edit was it TooDeep h = absurd h

-- a row that is added
pub record MayJoin (db : Trees) (table : Table) (row : Row) : Type 0 where
  pub typed : passes Datatype registry_schema db table row ≡ true
  pub present : passes NotNull registry_schema db table row ≡ true
  pub checked : passes Check registry_schema db table row ≡ true
  pub free : is_taken (db table.tree) row ≡ false
  pub unique : AreUnique table.tree (put_row row (db table.tree))
  pub keyed : is_int (rowid row) ≡ true

alone : (b : Bool) → b ≡ true → (b && true) ≡ true
alone b h = rw h refl

pub joins : (db : Trees) (table : Table) (row : Row) → table.references ≡ [] → MayJoin db table row → Obeys db (record { table = table; gone = []; news = row ∷ [] })
joins db table row bare it = record {
  typed = alone _ it.typed;
  present = alone _ it.present;
  checked = alone _ it.checked;
  fresh = rw it.free refl;
  unique = it.unique;
  keyed = alone _ it.keyed;
  referred = rw bare refl;
}

either_way : (b : Bool) → (not b || true) ≡ true
either_way true = refl
either_way false = refl

-- no row is added
pub leaves : (db : Trees) (table : Table) (gone : List ℤ) → AreUnique table.tree (without_all (db table.tree) gone) → Obeys db (record { table = table; gone = gone; news = [] })
leaves db table gone unique = record { typed = refl; present = refl; checked = refl; fresh = refl; unique = unique; keyed = refl; referred = either_way _ }

none_left : {X : Type 0} (p : X → Bool) (xs : List X) → list_any p (filter (λ x. not (p x)) xs) ≡ false
none_left {X} p xs = any_from_none p _ (all_from_filter xs)
  where
    all_from_filter : (ys : List X) → AllByRecursion (λ x. p x ≡ false) (filter (λ x. not (p x)) ys)
    all_from_filter [] = tt
    all_from_filter (y ∷ ys) = go (p y) refl (all_from_filter ys)
      where
        go : (b : Bool) → p y ≡ b → AllByRecursion (λ x. p x ≡ false) (filter (λ x. not (p x)) ys) → AllByRecursion (λ x. p x ≡ false) (cond (not b) (y ∷ filter (λ x. not (p x)) ys) (filter (λ x. not (p x)) ys))
        go true e more = more
        go false e more = (e, more)

-- ---- a row is changed

-- what a changed row keeps
pub record MayStand (db : Trees) (table : Table) (row : Row) : Type 0 where
  pub typed : passes Datatype registry_schema db table row ≡ true
  pub present : passes NotNull registry_schema db table row ≡ true
  pub checked : passes Check registry_schema db table row ≡ true
  pub keyed : is_int (rowid row) ≡ true

-- the row that had the rowid is taken out, and this one is put in
pub replaces : (db : Trees) (table : Table) (id : ℤ) (row : Row) → table.references ≡ [] → rowid row ≡ Int id → MayStand db table row → AreUnique table.tree (put_row row (without_rowid id (db table.tree)))
    → Obeys db (record { table = table; gone = id ∷ []; news = row ∷ [] })
replaces db table id row bare is it unique = record {
  typed = alone _ it.typed;
  present = alone _ it.present;
  checked = alone _ it.checked;
  fresh = rw (subst (λ v. list_any (λ r. is_eq (value_cmp (rowid r) v)) (without_rowid id (db table.tree)) ≡ false) (sym is) (none_left (has_rowid id) (db table.tree))) refl;
  unique = unique;
  keyed = alone _ it.keyed;
  referred = rw bare refl;
}
