-- Trees of which some are taken away.
use Rattle.std.specs.Prelude.{◌≡◌, ◌⊎◌, ◌+◌, ℕ, pos, List, [], ◌∷◌, Option, None, Some, IsTrue}
use Rattle.sqlite_trees.specs.Tree.{Trees, with_tree, without_rowid}
use Rattle.sqlite_trees.specs.Objects.{catalog_tree}
use Rattle.sqlite_trees.specs.View.{View}
use Rattle.sqlite_schema.specs.declared.schema.Table.{Table}

-- one of the tables has this name, and this tree
abbrev pub IsNamed : List Table → List ℕ → ℕ → Type 0
IsNamed [] name tree = ⊥
IsNamed (t ∷ ts) name tree = ((t.name ≡ name) × (t.tree ≡ tree)) ⊎ IsNamed ts name tree

-- the tree is empty, and is listed no more
abbrev pub without : ℕ → Trees → Trees
without tree trees = with_tree (with_tree trees tree []) catalog_tree (without_rowid (pos (tree + 1)) (trees catalog_tree))

-- the same trees, but perhaps for this one
abbrev pub IsLess : Option ℕ → Trees → Trees → Type 0
IsLess None old new = new ≡ old
IsLess (Some tree) old new = (new ≡ old) ⊎ (new ≡ without tree old)

-- and for that one
abbrev pub IsLessBoth : Option ℕ → Option ℕ → Trees → Trees → Type 0
IsLessBoth one other old new = (mid : Trees) × IsLess one old mid × IsLess other mid new

-- what a store shows then
pub record IsDropped (tree : Option ℕ) (old new : View) : Type 0 where
  pub trees : IsLess tree old.trees new.trees
  pub numbered : IsTrue new.is_numbered
