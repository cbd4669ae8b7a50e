use Rattle.std.proofs.Common.{◌≡◌, ◌++◌, All, map, drop}
use Rattle.goo_store_changes.specs.Changes.{ChangeFits}
use Rattle.goo_store_changes.specs.declared.table_change.TableChange.TheVariants.{InsertPiece}
use Rattle.goo_store_plans.proofs.edit_changes.push_inserts.Given as goal

abbrev pub invariant-loop-row : goal.invariant-loop-row
invariant-loop-row l = record {
  items : l.changes.items ++ map (λ x. InsertPiece x) (drop l.row-index l.rows) ≡ l.fn.changes.items ++ map (λ x. InsertPiece x) l.rows;
  fits : All ChangeFits l.fn.changes.items → All ChangeFits l.changes.items;
}
