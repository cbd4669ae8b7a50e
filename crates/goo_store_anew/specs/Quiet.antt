-- Steps inside a transaction.
use Rattle.sqlite.specs.State.{State, HasCleanDisk, KeepsCommit, Survives}

-- nothing is committed from one moment of a transaction to a later one
pub record IsQuiet (old new : State) : Type 0 where
  pub uncommitted : HasCleanDisk new → KeepsCommit old new
  pub survives : Survives old new (λ _. ⊥)
