-- That a database which an open found in files keeps its tables in the order of their keys.
use Rattle.std.proofs.Common.{inl, inr, Result, Ok, Err, IfOk, List, [], ◌∷◌, filter, sym, ap, subst, ◌∙◌}
use Rattle.std.specs.List.{AllByRecursion, AllZip}
use Rattle.std.proofs.Math.Logic.{∥∥₁_elim}
use Rattle.sqlite_trees.specs.declared.store.Shape.TheVariants as shape
use Rattle.sqlite_trees.specs.Tree.{Trees}
use Rattle.sqlite_trees.specs.View.{IsShaped, IsOrdered}
use Rattle.sqlite_trees.specs.Props.{IsOrdered-prop}
use Rattle.sqlite_trees.specs.Objects.{catalog_tree, IsListed}
use Rattle.sqlite_schema.specs.declared.schema.Schema.{Schema}
use Rattle.sqlite_schema.specs.declared.schema.Table.{Table}
use Rattle.sqlite_catalog.specs.Listing.{IsSound, IsTableRow, is_table_row}
use Rattle.sqlite_store.specs.Listing.{all_shapes, all_reals}
use Rattle.sqlite_store.specs.Listed.{catalog_rows, is_listed}
use Rattle.sqlite_store.proofs.ListingLemmas.{all_ordered}
use Rattle.sqlite_wal.specs.Recovery.{Image}
use Rattle.sqlite.specs.State.{State, IsLive, Opens}
use Rattle.sqlite.specs.Files.{AreFoundIn}
use Rattle.goo_tables_rows.specs.Met.{IsInKeyOrder}
use Rattle.goo_tables_rows.proofs.Ordered.{in_key_order}

no_tables : (trees : Trees) (tables : List Table) → AllZip IsTableRow [] tables → AllByRecursion (λ (t : Table). IsShaped shape.Table (trees t.tree)) tables
no_tables trees [] h = tt
no_tables trees (t ∷ ts) h = absurd h

found_in_order : {image : Image} (db : Trees) (schema : Schema) → AreFoundIn image db → IsSound schema db → IsInKeyOrder (record { schema = schema; trees = db })
found_in_order db schema (inl found) sound =
    let wanted = found.2 in
    let ordered : IsOrdered (all_shapes wanted) db = ∥∥₁_elim found.4 (IsOrdered-prop _ _) (λ ours. subst (IsOrdered (all_shapes wanted)) (sym found.5) (all_ordered ours.file.db _)) in
    let listed = subst (λ rows. IsListed rows (all_shapes wanted) (all_reals wanted)) (sym (ap (λ (d : Trees). d catalog_tree) found.5 ∙ catalog_rows _ wanted _)) (is_listed wanted) in
    in_key_order (all_shapes wanted) (all_reals wanted) db schema listed ordered sound
found_in_order db schema (inr none) sound =
    no_tables db schema.tables (subst (λ rows. AllZip IsTableRow (filter is_table_row rows) schema.tables) none.1.1 sound.lists.listed.tables)

-- a connection that opened on what was found
pub opened_in_order : {image : Image} (s : State) → Opens s → IsLive s → AreFoundIn image s.committed.trees → IsInKeyOrder s.now
opened_in_order s opens live found =
    subst IsInKeyOrder (sym opens.clean) (found_in_order s.committed.trees s.committed.schema found (live opens.is_open).1)

pub if_both : {X E : Type 0} {P Q R : X → Type 0} (r : Result X E) → ((x : X) → P x → Q x → R x) → IfOk r P → IfOk r Q → IfOk r R
if_both (Ok x) both p q = both x p q
if_both (Err e) both p q = tt
