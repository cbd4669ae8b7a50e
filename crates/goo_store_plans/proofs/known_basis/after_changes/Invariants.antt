use Rattle.std.proofs.Common.{take}
use Rattle.goo_tables_rows.specs.Rows.{Tables}
use Rattle.goo_store_changes.specs.Changes.{made_all}
use Rattle.goo_store_plans.specs.Carried.{AreInOrder}
use Rattle.goo_store_plans.specs.Found.{AreNumbered, IsBasisOf}
use Rattle.goo_store_plans.proofs.known_basis.after_changes.Given as goal

abbrev pub invariant-loop-change : goal.invariant-loop-change
invariant-loop-change l = record {
  numbered : (t : Tables) → AreInOrder t → AreNumbered (made_all t (take l.change-index l.changes));
  known : (t : Tables) → AreInOrder t → IsBasisOf l.fn.known t → IsBasisOf l.after (made_all t (take l.change-index l.changes));
}
