-- When a look-up may answer that the store failed.
use Rattle.std.specs.Prelude.{◌≡◌, ◌≤◌, Bool, false, None, Result, IfErr, IsTrue}
use Rattle.sqlite_disk.specs.Disk.{MoreFaults}
use Rattle.sqlite.specs.State.{State, HasCleanDisk}
use Rattle.goo_types.specs.declared.fault.Fault.{Fault}
use Rattle.goo_types.specs.declared.fault.Fault.TheVariants.{Store}

-- On a connection that works and whose disk has returned what was written, with no limit on steps, where no call was refused yet:
-- `Store` is answered only where the disk failed in this call. So the rows of the tables, which keep the rules, are all read.
-- No count of faults goes back and the limit stays, so that one look-up may follow another.
pub record BlamesStore {T : Type 0} (old new : State) (refused : Bool) (result : Result T Fault) : Type 0 where
  pub limit : HasCleanDisk new → IsTrue old.is_open → new.step_limit ≡ old.step_limit
  pub counts : HasCleanDisk new → IsTrue old.is_open → old.faults ≤ new.faults
  pub store : HasCleanDisk new → IsTrue old.is_open → old.step_limit ≡ None → refused ≡ false → IfErr result (λ fault. fault ≡ Store → MoreFaults old.faults new.faults)
