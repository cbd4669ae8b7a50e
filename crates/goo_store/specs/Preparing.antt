-- Look-ups with which a commit begins.
use Rattle.std.specs.Prelude.{◌≡◌, ◌≤◌, Result, OnOk}
use Rattle.goo_types.specs.declared.fault.Fault.{Fault}
use Rattle.goo_core_shelf.specs.Shelf.{Moment, IsTold, IsSafe, StaysSure}

-- As a look-up, but for any number of statements, none among them: a success tells that no defect has come, and not that there is none.
-- That the database works is shown by the transaction that is made then.
pub record Prepares {T : Type 0} (old new : Moment) (result : Result T Fault) : Type 0 where
  pub same : new.defects ≡ 0 → new.state ≡ old.state
  pub rows_same : new.defects ≡ 0 → new.rows ≡ old.rows
  pub defects_stay : new.defects ≡ 0 → old.defects ≡ 0
  pub corruptions_stay : new.corruptions ≡ 0 → old.corruptions ≡ 0
  pub kept : old.refusals ≤ new.refusals
  pub told : IsTold result new.refusals
  pub works : OnOk result (new.corruptions ≡ 0 → old.defects ≡ 0 → new.defects ≡ 0)
  pub stays : new.corruptions ≡ 0 → old.defects ≡ 0 → StaysSure old new
  pub crash : new.corruptions ≡ 0 → old.defects ≡ 0 → IsSafe new old.state
