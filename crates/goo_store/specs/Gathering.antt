-- When a commit, and what is gathered for it, may be refused.
use Rattle.std.specs.Prelude.{◌≡◌, ◌≤◌, Bool, false, None, Result, IfErr, IsTrue}
use Rattle.sqlite_disk.specs.Disk.{MoreFaults}
use Rattle.sqlite.specs.State.{State, HasCleanDisk}
use Rattle.goo_types.specs.declared.fault.Fault.{Fault}
use Rattle.goo_types.specs.declared.fault.Fault.TheVariants.{Store}
use Rattle.goo_core_shelf.specs.Plan.{Fits}
use Rattle.goo_core_shelf.specs.declared.plan.Plan.{Plan}
use Rattle.goo_tables_rows.specs.Rows.{Tables}
use Rattle.goo_spec_tables.specs.Places.{rows_of}
use Rattle.goo_spec_tables.specs.States.{state_of}
use Rattle.goo_store_plans.specs.EditsTaken.{HaveKeptNumbers}
use Rattle.goo_store_plans.specs.PlanNeeds.{HasRoomFor}
use Rattle.goo_store_plans.specs.Room.{HaveRowids}
use Rattle.goo_store_judge.specs.Moments.{tables_in}

-- The plan may be committed in the tables, which have room for its command; and columns keep the numbers of the
-- lots that are there.
pub record HaveWhatItNeeds (t : Tables) (plan : Plan) : Type 0 where
  pub fits : Fits (state_of t) (rows_of t) plan
  pub room : HasRoomFor t plan.request.command
  pub lots : HaveKeptNumbers t.lots

-- so they have, and rowids are left
pub record CanCarryOut (t : Tables) (plan : Plan) : Type 0 where
  pub needs : HaveWhatItNeeds t plan
  pub rowids : HaveRowids t

-- As of a look-up, over tables that have what is needed: `Store` is answered only where the disk failed in this call.
pub record BlamesCommit {T : Type 0} (old new : State) (refused : Bool) (result : Result T Fault) (HaveNeeds : Tables → Type 0) : Type 0 where
  pub limit : HasCleanDisk new → IsTrue old.is_open → new.step_limit ≡ old.step_limit
  pub counts : HasCleanDisk new → IsTrue old.is_open → old.faults ≤ new.faults
  pub store : HasCleanDisk new → IsTrue old.is_open → old.step_limit ≡ None → refused ≡ false → HaveNeeds (tables_in old)
      → IfErr result (λ fault. fault ≡ Store → MoreFaults old.faults new.faults)
