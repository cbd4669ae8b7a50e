-- What is gathered for a commit is refused only where the disk failed.
use Rattle.std.proofs.Common.{◌≡◌, Bool, true, IsTrue, refl, sym, subst, ◌∙◌, arith, true≢false, Ok, Err, Result, IfErr}
use Rattle.sqlite_disk.specs.Disk.{MoreFaults}
use Rattle.sqlite.specs.State.{State, HasCleanDisk}
use Rattle.goo_types.specs.declared.fault.Fault.{Fault}
use Rattle.goo_types.specs.declared.fault.Fault.TheVariants as fault
use Rattle.goo_core_shelf.specs.declared.plan.Plan.{Plan}
use Rattle.goo_tables_rows.specs.Rows.{Tables}
use Rattle.goo_tables_rows.specs.Stands.{defects}
use Rattle.goo_store_plans.specs.LookingUp.{LooksUp, IsOurs}
use Rattle.goo_store_plans.specs.PlanNeeds.{CanBePlanned}
use Rattle.goo_store_plans.specs.StoreFaults.{BlamesDisk}
use Rattle.goo_store_plans.specs.declared.known_rows.KnownRows.{KnownRows}
use Rattle.goo_store_values.specs.declared.statement_fault.StatementFault.{StatementFault}
use Rattle.goo_store_values.specs.declared.statement_fault.StatementFault.TheVariants.{Memory, Refused}
use Rattle.goo_store_pieces.specs.Found.{Knows}
use Rattle.goo_store.specs.Gathering.{BlamesCommit, HaveWhatItNeeds}
use Rattle.goo_store_judge.specs.Holding.{is_sure}
use Rattle.goo_store_judge.specs.Moments.{tables_in, IsWell}
use Rattle.goo_store_values.specs.Telling.{Tells}
use Rattle.goo_store.proofs.Prepared.{in_order}

-- once the flag is up, nothing is said
pub refused_gathering : {T : Type 0} (old : State) (a : Bool) (result : Result T Fault) (HaveNeeds : Tables → Type 0) → a ≡ true → BlamesCommit old old a result HaveNeeds
refused_gathering old a result HaveNeeds has = record {
  limit = λ _ _. refl;
  counts = λ _ _. omega arith;
  store = λ _ _ _ ready _. absurd (true≢false (sym has ∙ ready));
}

-- a fault is told as the store's fault only where it is a refusal
pub told_so : {T : Type 0} (More : Type 0) (q : Result T StatementFault) (a b : Bool) (result : Result T Fault) → Tells q result a b → IfErr q (λ cause. cause ≡ Refused → More) → IfErr result (λ f. f ≡ fault.Store → More)
told_so {T = T} More (Ok x) a b result told more = subst (λ (z : Result T Fault). IfErr z (λ f. f ≡ fault.Store → More)) (sym told.0) tt
told_so {T = T} More (Err Memory) a b result told more = subst (λ (z : Result T Fault). IfErr z (λ f. f ≡ fault.Store → More)) (sym told.0) (λ is. absurd cc)
told_so {T = T} More (Err Refused) a b result told more = subst (λ (z : Result T Fault). IfErr z (λ f. f ≡ fault.Store → More)) (sym told.0) (λ _. more refl)

module _ (old new : State) (it : IsWell old) {T : Type 0} (read : Result T StatementFault) (right : Tables → T → Type 0) (gathers : LooksUp old new read right) where
  fine : HasCleanDisk new → IsTrue old.is_open → defects old ≡ 0
  fine clean live = is_sure old (omega (arith, clean, gathers.clean)) live

  ours : defects old ≡ 0 → IsOurs old
  ours none = ((it.stands none).schema, λ _. it.settled none)

  pub gathering : (known_rows : KnownRows) → Knows old known_rows → (plan : Plan) (a b : Bool) (result : Result T Fault)
      → BlamesDisk old new read (λ t. CanBePlanned t known_rows plan) → Tells read result a b → BlamesCommit old new a result (λ t. HaveWhatItNeeds t plan)
  gathering known_rows knows plan a b result blames told = record {
    limit = λ clean live. blames.limit clean (ours (fine clean live)) live;
    counts = λ clean live. blames.counts clean (ours (fine clean live)) live;
    store = λ clean live unlimited _ has.
        let none = fine clean live in
        let stands = it.stands none in
        told_so (MoreFaults old.faults new.faults) read a b result told (blames.refused clean (ours none) live unlimited (tables_in old) stands (it.kept none)
        (record { found = knows none; order = in_order old.now (tables_in old) stands; fits = has.fits; room = has.room; lots = has.lots }));
  }
