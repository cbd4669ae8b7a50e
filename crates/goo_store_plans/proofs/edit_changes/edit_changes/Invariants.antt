use Rattle.std.proofs.Common.{◌++◌, List, All, drop}
use Rattle.goo_tables_rows.specs.Rows.{Lot}
use Rattle.goo_store_changes.specs.Changes.{ChangeFits}
use Rattle.goo_store_changes.specs.declared.table_change.TableChange.{TableChange}
use Rattle.goo_store_plans.specs.EditChanges.{AreForEdits}
use Rattle.goo_store_plans.specs.LotNumbers.{AreNumbered}
use Rattle.goo_store_plans.proofs.edit_changes.edit_changes.Given as goal

-- what is made of the edits that are left stands behind what was made
abbrev pub invariant-loop-edit : goal.invariant-loop-edit
invariant-loop-edit l = record {
  made : (lots : List Lot) → AreNumbered lots l.found → (more : List TableChange) → AreForEdits lots (drop l.edit-index l.edits) more → AreForEdits lots l.edits (l.changes.items ++ more);
  fits : All ChangeFits l.changes.items;
}
