-- A commit fails as the store's fault only where the disk failed.
use Rattle.std.proofs.Common.{◌≡◌, ◌⊎◌, ◌≤◌, inl, inr, Bool, IsTrue, List, None, sym, subst, ◌∙◌, arith, true≢false, Ok, Err, Result, IfErr}
use Rattle.sqlite_disk.specs.Disk.{MoreFaults}
use Rattle.sqlite_trees.specs.View.{doubt}
use Rattle.sqlite.specs.State.{State, HasCleanDisk, Survives}
use Rattle.sqlite.specs.declared.error.Error.{Error}
use Rattle.goo_types.specs.declared.fault.Fault.{Fault}
use Rattle.goo_core_shelf.specs.declared.plan.Plan.{Plan}
use Rattle.goo_tables_rows.specs.Refused.{IsFault, IsTooBigOrFull}
use Rattle.goo_tables_rows.specs.Rows.{Tables}
use Rattle.goo_tables_rows.specs.Stands.{HoldsOurs, Stands, defects}
use Rattle.goo_store_changes.specs.Changes.{made_all, AreFor, AreFree, HaveRoom}
use Rattle.goo_store_changes.specs.declared.table_change.TableChange.{TableChange}
use Rattle.goo_store_values.specs.Passing.{IsStatementFaultOf}
use Rattle.goo_store_plans.specs.Planned.{IsPlanned}
use Rattle.goo_store_plans.specs.Room.{HaveRowids}
use Rattle.goo_store_values.specs.declared.statement_fault.StatementFault.{StatementFault}
use Rattle.goo_store_values.specs.declared.statement_fault.StatementFault.TheVariants.{Memory, Refused}
use Rattle.goo_store_plans.proofs.Refusing.{more_faults}
use Rattle.goo_store.specs.Gathering.{BlamesCommit, CanCarryOut, HaveWhatItNeeds}
use Rattle.goo_store_judge.specs.Holding.{is_sure, sure}
use Rattle.goo_store_judge.specs.Moments.{moment, tables_in, IsWell}
use Rattle.goo_store.specs.Preparing.{Prepares}
use Rattle.goo_store_values.specs.Telling.{PassesOn, Tells}
use Rattle.goo_store.proofs.Gathering.{told_so}

-- what is gathered is refused, and nothing is committed
pub blamed_before : {T : Type 0} (old mid : State) (a : Bool) (f : Fault) (plan : Plan) → BlamesCommit {T = T} old mid a (Err f) (λ t. HaveWhatItNeeds t plan) → (r : Result (Unit {0}) Fault) → r ≡ Err f → BlamesCommit old mid a r (λ t. CanCarryOut t plan)
blamed_before old mid a f plan one r is = subst (λ (z : Result (Unit {0}) Fault). BlamesCommit old mid a z (λ t. CanCarryOut t plan)) (sym is) (record {
  limit = one.limit;
  counts = one.counts;
  store = λ clean live unlimited ready can. one.store clean live unlimited ready can.needs;
})

-- an error of the commit, where the tables have room, is a refusal only where the disk failed
ended_so : (old mid new : State) (room : Type 0) → room → IsTrue mid.is_open → old.faults ≤ mid.faults → (made : Result (Unit {0}) Error) (read : Result (Unit {0}) StatementFault) → PassesOn made read
    → IfErr made (λ e. IfErr read (IsStatementFaultOf e)) → IfErr made (λ e. IsFault mid new e ⊎ (IsTooBigOrFull e × (room → ⊥))) → IfErr read (λ cause. cause ≡ Refused → MoreFaults old.faults new.faults)
ended_so old mid new room has live up made (Ok x) passes cause blames = tt
ended_so old mid new room has live up made (Err Memory) passes cause blames = λ is. absurd cc
ended_so old mid new room has live up (Ok x) (Err Refused) passes cause blames = absurd (true≢false (sym passes))
ended_so old mid new room has live up (Err e) (Err Refused) passes cause blames =
    λ _. elim blames [ inl fault ↦ (let more = more_faults mid new e live cause fault in omega (arith, up, more)) | inr big ↦ absurd (big.1 has) ]

module _ (old mid new : State) (a b c : Bool) (plan : Plan) {T : Type 0} (gathered : T) (prepares : Prepares (moment old a) (moment mid b) (Ok gathered)) (first : BlamesCommit old mid a (Ok gathered) (λ t. HaveWhatItNeeds t plan))
    (it : IsWell mid) (same : defects mid ≡ 0 → tables_in mid ≡ tables_in old) (changes : List TableChange) (planned : defects mid ≡ 0 → IsPlanned (tables_in mid) changes plan) (made : Result (Unit {0}) Error)
    (clean : doubt mid.is_clean ≤ doubt new.is_clean) (crash : (t : Tables) → Stands mid.now t → AreFor t changes → Survives mid new (HoldsOurs mid.is_open (made_all t changes)))
    (refused : HasCleanDisk new → mid.step_limit ≡ None → (t : Tables) → Stands mid.now t → AreFor t changes → AreFree t changes → IfErr made (λ e. IsFault mid new e ⊎ (IsTooBigOrFull e × (HaveRoom t changes → ⊥))))
    (read : Result (Unit {0}) StatementFault) (passes : PassesOn made read) (cause : IfErr made (λ e. IfErr read (IsStatementFaultOf e))) (result : Result (Unit {0}) Fault) (told : Tells read result b c) where
  late : HasCleanDisk new → HasCleanDisk mid
  late done = omega (arith, done, clean)

  -- there is no defect between the look-ups and the commit
  no_doubt : HasCleanDisk new → IsTrue old.is_open → defects mid ≡ 0
  no_doubt done live = prepares.works (late done) (is_sure old (prepares.corruptions_stay (late done)) live)

  survives : HasCleanDisk new → IsTrue old.is_open → Survives mid new (HoldsOurs mid.is_open (made_all (tables_in mid) changes))
  survives done live = let none = no_doubt done live in crash (tables_in mid) (it.stands none) (planned none).for

  pub blamed : BlamesCommit old new a result (λ t. CanCarryOut t plan)
  blamed = record {
    limit = λ done live. (survives done live).limit ∙ first.limit (late done) live;
    counts = λ done live. omega (arith, first.counts (late done) live, (survives done live).counts);
    store = λ done live unlimited ready can.
        let none = no_doubt done live in
        let plans = planned none in
        let room = plans.room (subst HaveRowids (sym (same none)) can.rowids) in
        told_so (MoreFaults old.faults new.faults) read b c result told
        (ended_so old mid new (HaveRoom (tables_in mid) changes) room (sure mid none).1 (first.counts (late done) live) made read passes cause
        (refused done (first.limit (late done) live ∙ unlimited) (tables_in mid) (it.stands none) plans.for plans.free));
  }
