use Rattle.std.proofs.Common.{take, Some}
use Rattle.goo_tables_rows.specs.Rows.{Tables}
use Rattle.goo_store_changes.specs.Changes.{made_all}
use Rattle.goo_store_plans.specs.Found.{IsRowOf}
use Rattle.goo_store.proofs.kept_registry_row.after_changes.Given as goal

abbrev pub invariant-loop-change : goal.invariant-loop-change
invariant-loop-change l = (t : Tables) → IsRowOf l.fn.own t → IsRowOf (Some l.row) (made_all t (take l.change-index l.changes))
