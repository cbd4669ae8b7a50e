-- Trees list one schema.
use Rattle.std.proofs.Common.{◌≡◌, map, subst}
use Rattle.std.proofs.Math.Logic.{∥∥₁_elim}
use Rattle.std.specs.Coded.{Coded-set}
use Rattle.sqlite.specs.Tree.{Trees}
use Rattle.sqlite.specs.Effect.{Database, IsDatabase}
use Rattle.sqlite_trees.specs.Objects.{catalog_tree}
use Rattle.sqlite_schema.specs.declared.schema.Schema.{Schema}
use Rattle.sqlite_schema.specs.contracts.schema.Schema as schema_row
use Rattle.sqlite_catalog.specs.Listing.{IsSound, cut}
use Rattle.sqlite_catalog.proofs.ReadLemmas.{reads, read_once}
use Rattle.goo_tables_rows.specs.Columns.{registry_schema}
use Rattle.goo_tables_rows.specs.Stands.{AreOurs}

-- what they list is one schema
one_schema : (db : Trees) (s t : Schema) → IsSound s db → IsSound t db → s ≡ t
one_schema db s t a b =
    let first = reads (db catalog_tree) s a.lists in
    read_once (map cut (db catalog_tree)) s t first.tables first.indexes first.views (reads (db catalog_tree) t b.lists)

-- a database of our schema has trees that are ours
pub ours_of : (db : Database) → IsDatabase db → db.schema ≡ registry_schema → AreOurs db.trees
ours_of db sound schema = ∣ subst (λ (s : Schema). IsSound s db.trees) schema sound ∣₁

-- and the other way round: a database whose trees are ours has our schema
pub our_schema : (db : Database) → IsDatabase db → AreOurs db.trees → db.schema ≡ registry_schema
our_schema db sound ours = ∥∥₁_elim ours (λ p q. Coded-set schema_row.the_row.coded _ _ p q) (λ listed. one_schema db.trees db.schema registry_schema sound listed)
