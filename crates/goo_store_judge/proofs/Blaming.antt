-- A look-up answers `Store` only where the store failed.
use Rattle.std.proofs.Common.{◌≡◌, ◌≢◌, ◌≤◌, inl, inr, Bool, true, false, IsTrue, refl, sym, subst, ◌∙◌, arith, true≢false, Ok, Err, Result, IfOk, IfErr, IsOkUnless}
use Rattle.sqlite_disk.specs.Disk.{MoreFaults}
use Rattle.sqlite.specs.State.{State, HasCleanDisk}
use Rattle.sqlite.specs.declared.error.Error.{Error}
use Rattle.sqlite.specs.declared.error.Error.TheVariants.{SqliteFailure}
use Rattle.sqlite.specs.declared.error.ErrorCode.TheVariants.{OutOfMemory}
use Rattle.goo_types.specs.declared.fault.Fault.{Fault}
use Rattle.goo_types.specs.declared.fault.Fault.TheVariants as fault
use Rattle.goo_core_shelf.specs.Shelf as shelf
use Rattle.goo_tables_rows.specs.Refused.{IsFault, FailsOnlyByFault}
use Rattle.goo_tables_rows.specs.Rows.{Tables}
use Rattle.goo_tables_rows.specs.Stands.{Stands, Looks, defects}
use Rattle.goo_tables_rows.proofs.Results.{if_ok}
use Rattle.goo_store_open.specs.Reading.{CanBeRead}
use Rattle.goo_store_rules.proofs.CanBeRead.{kept_can_be_read}
use Rattle.goo_spec_tables.specs.Kept.{AreKept}
use Rattle.goo_spec_tables.specs.Places.{rows_of}
use Rattle.goo_store_judge.specs.Holding.{is_sure, sure}
use Rattle.goo_store_judge.specs.Moments.{tables_in, IsWell, count, moment}
use Rattle.goo_store_judge.specs.StoreFaults.{BlamesStore}
use Rattle.goo_store_values.specs.Passing.{Accepts}
use Rattle.goo_store_values.specs.Telling.{Tells}
use Rattle.goo_store_values.specs.declared.statement_fault.StatementFault.{StatementFault}
use Rattle.goo_store_values.specs.declared.statement_fault.StatementFault.TheVariants.{Memory, Refused}

-- once the flag is up, nothing is said
pub refused_blames : {T : Type 0} (old : State) (a : Bool) (result : Result T Fault) → a ≡ true → BlamesStore old old a result
refused_blames old a result has = record {
  limit = λ _ _. refl;
  counts = λ _ _. omega arith;
  store = λ _ _ _ ready. absurd (true≢false (sym has ∙ ready));
}

-- one statement, whose answer was read and told
module _ (old new : State) (it : IsWell old) {T : Type 0} (r : Result T Error) (right : Tables → T → Type 0) (looks : Looks old new r right) where
  fine : HasCleanDisk new → IsTrue old.is_open → defects old ≡ 0
  fine clean live = is_sure old (omega (arith, clean, looks.clean)) live

  more_faults : (e : Error) → IsTrue old.is_open → e ≢ SqliteFailure OutOfMemory → IsFault old new e → MoreFaults old.faults new.faults
  more_faults e live other (inl memory) = absurd (other memory)
  more_faults e live other (inr (named, inl more)) = more
  more_faults e live other (inr (named, inr shut)) = absurd (true≢false (sym live ∙ shut))

  told_so : {U : Type 0} (IsReadable : T → Type 0) (q : Result T Error) (read : Result U StatementFault) (a b : Bool) (result : Result U Fault) → IsTrue old.is_open
      → IfErr q (IsFault old new) → IfOk q IsReadable → Accepts q read IsReadable → Tells read result a b → IfErr result (λ f. f ≡ fault.Store → MoreFaults old.faults new.faults)
  told_so {U} IsReadable q (Ok y) a b result live faulty found accepts told = subst (λ (z : Result U Fault). IfErr z (λ f. f ≡ fault.Store → MoreFaults old.faults new.faults)) (sym told.0) tt
  told_so {U} IsReadable q (Err Memory) a b result live faulty found accepts told =
      subst (λ (z : Result U Fault). IfErr z (λ f. f ≡ fault.Store → MoreFaults old.faults new.faults)) (sym told.0) (λ is. absurd cc)
  told_so {U} IsReadable (Ok x) (Err Refused) a b result live faulty found accepts told = absurd (let is = accepts found in cc)
  told_so {U} IsReadable (Err e) (Err Refused) a b result live faulty found accepts told =
      subst (λ (z : Result U Fault). IfErr z (λ f. f ≡ fault.Store → MoreFaults old.faults new.faults)) (sym told.0)
      (λ _. more_faults e live accepts faulty)

  pub blames : {U : Type 0} (Readable : Tables → Type 0) (IsReadable : T → Type 0) (read : Result U StatementFault) (a b : Bool) (result : Result U Fault)
      → FailsOnlyByFault old new r Readable → Accepts r read IsReadable → Tells read result a b → (CanBeRead (tables_in old) → Readable (tables_in old))
      → (Stands old.now (tables_in old) → AreKept (tables_in old) → (x : T) → right (tables_in old) x → IsReadable x) → BlamesStore old new a result
  blames Readable IsReadable read a b result fails accepts told readable reads = record {
    limit = λ clean live. (looks.crash (it.stands (fine clean live)).schema).limit;
    counts = λ clean live. (looks.crash (it.stands (fine clean live)).schema).counts;
    store = λ clean live unlimited _.
        let stands = it.stands (fine clean live) in
        let kept = it.kept (fine clean live) in
        told_so IsReadable r read a b result live (fails clean unlimited (tables_in old) stands (readable (kept_can_be_read old.now (tables_in old) stands kept).0))
        (if_ok r (looks.found clean (tables_in old) stands) (reads stands kept)) accepts told;
  }

-- what was read is refused for want of memory alone
unless_memory : {V : Type 0} (P : Type 0) (read : Result V StatementFault) (a b : Bool) (result : Result V Fault) → Tells read result a b → IsOkUnless read Memory → IfErr result (λ f. f ≡ fault.Store → P)
unless_memory {V} P (Ok y) a b result told so = subst (λ (z : Result V Fault). IfErr z (λ f. f ≡ fault.Store → P)) (sym told.0) tt
unless_memory {V} P (Err Memory) a b result told so = subst (λ (z : Result V Fault). IfErr z (λ f. f ≡ fault.Store → P)) (sym told.0) (λ is. absurd cc)
unless_memory {V} P (Err Refused) a b result told so = absurd cc

-- ---- one look-up after another

module _ (old mid new : State) (a0 a b : Bool) {T : Type 0} (x : T) (first : T → Type 0) (one : shelf.Looks (moment old a0) (moment mid a) (Ok x) first) (early : BlamesStore old mid a0 (Ok x)) where
  down : (f : Bool) → count f ≡ 0 → f ≡ false
  down true e = absurd (omega (arith, e))
  down false e = refl

  worse : {U : Type 0} (r : Result U Fault) → old.faults ≤ mid.faults → IfErr r (λ f. f ≡ fault.Store → MoreFaults mid.faults new.faults) → IfErr r (λ f. f ≡ fault.Store → MoreFaults old.faults new.faults)
  worse (Ok y) up h = tt
  worse (Err e) up h = λ is. omega (arith, up, h is)

  -- the second is the answer
  pub blamed_then : {U : Type 0} (r : Result U Fault) (second : U → Type 0) → shelf.Looks (moment mid a) (moment new b) r second → BlamesStore mid new a r → BlamesStore old new a0 r
  blamed_then r second two late =
      let live = λ (clean : HasCleanDisk new). (sure mid (one.works (two.corruptions_stay clean))).1 in
      record {
        limit = λ clean alive. late.limit clean (live clean) ∙ early.limit (two.corruptions_stay clean) alive;
        counts = λ clean alive. omega (arith, early.counts (two.corruptions_stay clean) alive, late.counts clean (live clean));
        store = λ clean alive unlimited ready. worse r (early.counts (two.corruptions_stay clean) alive) (late.store clean (live clean) (early.limit (two.corruptions_stay clean) alive ∙ unlimited) (down a one.told));
      }

  -- something is made of both
  pub blamed_both : {U V : Type 0} (y : U) (second : U → Type 0) (c : Bool) (read : Result V StatementFault) (result : Result V Fault) → shelf.Looks (moment mid a) (moment new b) (Ok y) second → BlamesStore mid new a (Ok y) → Tells read result b c
      → (defects old ≡ 0 → rows_of (tables_in mid) ≡ rows_of (tables_in old) → first x → second y → IsOkUnless read Memory) → BlamesStore old new a0 result
  blamed_both y second c read result two late told says =
      let both = blamed_then (Ok y) second two late in
      record {
        limit = both.limit;
        counts = both.counts;
        store = λ clean alive unlimited ready.
            let sure_mid = one.works (two.corruptions_stay clean) in
            unless_memory (MoreFaults old.faults new.faults) read b c result told (says (one.defects_stay sure_mid) (one.rows_same sure_mid) (one.found sure_mid) (two.found (two.works clean)));
      }

-- an error that is handed on
pub blamed_err : {U V : Type 0} (old new : State) (a : Bool) (e : Fault) (result : Result V Fault) → result ≡ Err e → BlamesStore {T = U} old new a (Err e) → BlamesStore old new a result
blamed_err {V = V} old new a e result is it = subst (λ (z : Result V Fault). BlamesStore old new a z) (sym is) (record { limit = it.limit; counts = it.counts; store = it.store })
