-- A database that is taken over, step by step.
use Rattle.std.proofs.Common.{◌≡◌, ◌⊎◌, ◌∙◌, ap, inl, inr, refl, subst, sym, List, Option, IfSome, Bool, false, IsTrue, true≢false}
use Rattle.std.specs.Prelude.{ℕ, codes}
use Rattle.sqlite.specs.Effect.{Database}
use Rattle.sqlite.specs.Schema.{Schema}
use Rattle.sqlite.specs.State.{State}
use Rattle.sqlite.specs.Table.{Table}
use Rattle.sqlite.specs.Tree.{Trees}
use Rattle.goo_tables_rows.specs.Columns.{registry_schema, first_schema}
use Rattle.goo_store_trees.specs.Less.{IsLessBoth, IsNamed}
use Rattle.goo_store_adoption.specs.Judged.{IsOurs, HoldSame}
use Rattle.goo_store_adoption.specs.Taken.{Became, IsTreeOf, LessStatistics}

-- the tables that were looked through are those of the schema
pub named_in : (seen schema : Schema) (tables : List Table) (name : List ℕ) (tree : Option ℕ) → seen ≡ schema → tables ≡ seen.tables → IfSome tree (IsNamed tables name) → IfSome tree (IsNamed schema.tables name)
named_in seen schema tables name tree same are named = subst (λ (s : Schema). IfSome tree (IsNamed s.tables name)) same (subst (λ (ts : List Table). IfSome tree (IsNamed ts name)) are named)

-- a look came before, which changed nothing
pub less_since : (a b : State) (one other : Option ℕ) (found : Trees) → a.now ≡ a.committed → b.committed ≡ a.committed → IsTreeOf a.now (codes "sqlite_stat1") one → IsTreeOf a.now (codes "sqlite_stat4") other → IsLessBoth one other b.committed.trees found
    → LessStatistics a.now found
less_since a b one other found settled same first later less = record {
  one = one;
  other = other;
  first = first;
  later = later;
  less = subst (λ (t : Trees). IsLessBoth one other t found) (ap (λ (d : Database). d.trees) (same ∙ sym settled)) less;
}

pub foreign_by : (schema : Schema) (ours first : Bool) → (schema ≡ registry_schema → IsTrue ours) → (schema ≡ first_schema → IsTrue first) → ours ≡ false → first ≡ false → IsOurs schema → ⊥
foreign_by schema ours first so too none neither (inl is) = true≢false (sym (so is) ∙ none)
foreign_by schema ours first so too none neither (inr is) = true≢false (sym (too is) ∙ neither)

pub became_by : (old mid : Database) (found : Trees) → (IsOurs old.schema → ⊥) → LessStatistics old mid.trees → (found ≡ mid.trees) ⊎ HoldSame mid found → Became old found
became_by old mid found foreign less rest = record { foreign = foreign; mid = mid; less = less; rest = rest }

pub became_less : (old : Database) (found : Trees) → (IsOurs old.schema → ⊥) → LessStatistics old found → Became old found
became_less old found foreign less = record { foreign = foreign; mid = record { schema = old.schema; trees = found }; less = less; rest = inl refl }
