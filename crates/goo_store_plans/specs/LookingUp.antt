-- Calls on the connection that gather what the tables show, and change nothing.
use Rattle.std.specs.Prelude.{◌≡◌, ◌≤◌, Result, IfOk, OnOk, IsTrue}
use Rattle.sqlite.specs.State.{State, HasCleanDisk, Survives}
use Rattle.sqlite_trees.specs.View.{doubt}
use Rattle.goo_tables_rows.specs.Columns.{registry_schema}
use Rattle.goo_tables_rows.specs.Rows.{Tables}
use Rattle.goo_tables_rows.specs.Stands.{Stands, IsSettled, Rests}
use Rattle.goo_store_values.specs.declared.statement_fault.StatementFault.{StatementFault}

-- our tables, and nothing that waits for a commit
abbrev pub IsOurs : State → Type 0
IsOurs s = (s.now.schema ≡ registry_schema) × IsSettled s

-- As a look-up, but for any number of statements, none among them, whose rows are read or refused:
-- what it gathers is right of the tables, and it changes nothing, whether it succeeds or not.
pub record LooksUp {T : Type 0} (old new : State) (result : Result T StatementFault) (right : Tables → T → Type 0) : Type 0 where
  pub found : HasCleanDisk new → IsTrue new.is_open → IsSettled old → (t : Tables) → Stands old.now t → IfOk result (right t)
  pub clean : doubt old.is_clean ≤ doubt new.is_clean
  pub works : OnOk result (HasCleanDisk new → IsTrue old.is_open → IsTrue new.is_open)
  pub was_open : HasCleanDisk new → IsTrue new.is_open → IsTrue old.is_open
  pub rests : HasCleanDisk new → IsOurs old → Rests old new
  pub crash : HasCleanDisk new → IsTrue old.is_open → IsOurs old → Survives old new (λ _. ⊥)
