-- How far what lies below a desk can be relied on after a call.
use Rattle.std.specs.Prelude.{◌≡◌, Result, OnOk}
use Rattle.goo_types.specs.declared.fault.Fault.{Fault}
use Rattle.goo_core_shelf.specs.Shelf.{IsTold}
use Rattle.goo_core_shelf.specs.Desk.{Seen, StaysSure}

pub record StaysReliable {T : Type 0} (old new : Seen) (result : Result T Fault) : Type 0 where
  -- no defect is forgotten
  pub defects_stay : new.defects ≡ 0 → old.defects ≡ 0
  -- no corruption is forgotten
  pub corruptions_stay : new.corruptions ≡ 0 → old.corruptions ≡ 0
  -- a store fault is answered just where a call was refused
  pub told : old.refusals ≡ 0 → IsTold result new.refusals
  -- where nothing was corrupted, there is no defect after an answer
  pub works : new.corruptions ≡ 0 → old.defects ≡ 0 → OnOk result (new.defects ≡ 0)
  -- nor after a fault, unless a call failed
  pub stays : new.corruptions ≡ 0 → old.defects ≡ 0 → StaysSure old new
