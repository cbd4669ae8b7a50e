-- What a transaction that wrote tables anew leaves.
use Rattle.std.proofs.Common.{◌≡◌, ◌∙◌, inl, inr, true, List, arith}
use Rattle.std.specs.Prelude.{length}
use Rattle.sqlite.specs.declared.error.Error.{Error}
use Rattle.sqlite.specs.Steps.{FailsToCommit}
use Rattle.sqlite.specs.Store.{Ghosts}
use Rattle.sqlite.specs.Held.{Held, state}
use Rattle.sqlite.specs.State.{State, HasCleanDisk, KeepsCommit, IsRolledBack, Survives}
use Rattle.sqlite.proofs.StateLemmas.{survives_then}
use Rattle.sqlite.proofs.Callers.{survives_begin}
use Rattle.goo_store_anew.specs.Answered.{AreAnswers, HoldAnswers}
use Rattle.goo_store_anew.specs.declared.answers.Answer.{Answer}

module _ {S : Type 0} (g : Ghosts S) (old mid new : Held S) (answers : List Answer) where
  pub survives_written : (HasCleanDisk (state g mid) → AreAnswers (length answers) (state g mid).now answers)
      → Survives (state g (record old { in_transaction = true })) (state g mid) (λ _. ⊥) → Survives (state g mid) (state g new) (λ db. db ≡ (state g mid).now.trees)
      → Survives (state g old) (state g new) (HoldAnswers answers)
  survives_written told inside after =
      survives_then (state g old) (state g mid) (state g new) (λ _. ⊥) (λ db. db ≡ (state g mid).now.trees) (HoldAnswers answers) (λ _ db none. absurd none)
      (λ clean db is. ((state g mid).now, is, told (omega (arith, after.clean))))
      (survives_begin g old (state g mid) _ inside) after

-- a transaction that failed, or was undone, committed nothing
undone_keeps : (a b : State) → IsRolledBack a b → KeepsCommit a b
undone_keeps a b back = record { was_open = back.was_open; committed = λ live. (back.undone live).1 }

pub failed_keeps : (a b : State) (e : Error) → FailsToCommit a b e → KeepsCommit a b
failed_keeps a b e (inl failed) = undone_keeps a b failed.3
failed_keeps a b e (inr ended) = record { was_open = λ _. ended.2.0.was_open; committed = λ _. ended.2.0.committed_is }

-- the same from before it began
pub begun_keeps : {S : Type 0} (g : Ghosts S) (old : Held S) (mid end : State) → KeepsCommit (state g (record old { in_transaction = true })) mid → KeepsCommit mid end → KeepsCommit (state g old) end
begun_keeps g old mid end one two = record { was_open = λ live. one.was_open (two.was_open live); committed = λ live. two.committed live ∙ one.committed (two.was_open live) }
