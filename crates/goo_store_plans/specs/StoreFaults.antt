-- When a look-up that comes before a commit may be refused.
use Rattle.std.specs.Prelude.{◌≡◌, ◌≤◌, None, Result, IfErr, IsTrue}
use Rattle.sqlite_disk.specs.Disk.{MoreFaults}
use Rattle.sqlite.specs.State.{State, HasCleanDisk}
use Rattle.goo_tables_rows.specs.Rows.{Tables}
use Rattle.goo_tables_rows.specs.Stands.{Stands}
use Rattle.goo_spec_tables.specs.Kept.{AreKept}
use Rattle.goo_store_plans.specs.LookingUp.{IsOurs}
use Rattle.goo_store_values.specs.declared.statement_fault.StatementFault.{StatementFault}
use Rattle.goo_store_values.specs.declared.statement_fault.StatementFault.TheVariants.{Refused}

-- On a connection that works and whose disk has returned what was written, with no limit on steps, over tables that keep the rules and
-- have what the look-up needs: it is refused for want of memory, or where the disk failed in this call.
-- No count of faults goes back and the limit stays, so that one look-up may follow another.
pub record BlamesDisk {T : Type 0} (old new : State) (result : Result T StatementFault) (HasWhatItNeeds : Tables → Type 0) : Type 0 where
  pub limit : HasCleanDisk new → IsOurs old → IsTrue old.is_open → new.step_limit ≡ old.step_limit
  pub counts : HasCleanDisk new → IsOurs old → IsTrue old.is_open → old.faults ≤ new.faults
  pub refused : HasCleanDisk new → IsOurs old → IsTrue old.is_open → old.step_limit ≡ None → (t : Tables) → Stands old.now t → AreKept t → HasWhatItNeeds t
      → IfErr result (λ cause. cause ≡ Refused → MoreFaults old.faults new.faults)
