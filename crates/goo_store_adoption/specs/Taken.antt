-- A database whose tables become ours.
use Rattle.std.specs.Prelude.{◌≡◌, ◌⊎◌, ℕ, List, codes, Option, IfSome}
use Rattle.sqlite.specs.Effect.{Database}
use Rattle.sqlite.specs.Tree.{Trees}
use Rattle.goo_store_trees.specs.Less.{IsNamed, IsLessBoth}
use Rattle.goo_store_adoption.specs.Judged.{IsOurs, HoldSame}

-- the tree of the table of this name, or none
abbrev pub IsTreeOf : Database → List ℕ → Option ℕ → Type 0
IsTreeOf db name tree = IfSome tree (IsNamed db.schema.tables name)

-- the trees of a database, but perhaps for those of the tables that ANALYZE makes
pub record LessStatistics (db : Database) (found : Trees) : Type 0 where
  pub one : Option ℕ
  pub other : Option ℕ
  pub first : IsTreeOf db (codes "sqlite_stat1") one
  pub later : IsTreeOf db (codes "sqlite_stat4") other
  pub less : IsLessBoth one other db.trees found

-- Tables in another form than ours became these: the tables that ANALYZE makes were taken away from them, and the rest is the same, or is a
-- registry of which each table has the same rows.
pub record Became (old : Database) (found : Trees) : Type 0 where
  pub foreign : IsOurs old.schema → ⊥
  pub mid : Database
  pub less : LessStatistics old mid.trees
  pub rest : (found ≡ mid.trees) ⊎ HoldSame mid found
