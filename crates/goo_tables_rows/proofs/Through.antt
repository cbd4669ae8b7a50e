-- What a SELECT shows that is read row by row (`ask_each`), for any text that reads one table or more.
use Rattle.std.proofs.Common.{◌≡◌, ◌⊎◌, inl, inr, IsTrue, IfOk, IfErr, OnOk, ℕ, List, [], All, Result, Ok, Err, None, false, true, sym, subst}
use Rattle.sqlite.specs.Order.{Row}
use Rattle.sqlite.specs.Query.{Query, IsAnswer}
use Rattle.sqlite.specs.Program.{overlay}
use Rattle.sqlite.specs.Schema.{Schema}
use Rattle.sqlite.specs.Command.TheVariants.{Select}
use Rattle.sqlite.specs.Listing.{understood, reads_listing}
use Rattle.sqlite.specs.State.{State, HasCleanDisk, Survives, CommitsShowing}
use Rattle.sqlite.specs.declared.error.Error.{Error}
use Rattle.sqlite.proofs.Callers.{IsPlain, command_of}
use Rattle.goo_tables_rows.specs.Asked.{Answered, Gave, IsReadThrough, FailsToGive}
use Rattle.goo_tables_rows.specs.Columns.{registry_schema, first_schema}
use Rattle.goo_tables_rows.specs.First.{IsFirst, LooksFirst}
use Rattle.goo_tables_rows.specs.Readable.{is_read_error}
use Rattle.goo_tables_rows.specs.Refused.{IsFault, is_suited}
use Rattle.goo_tables_rows.specs.Rows.{Tables}
use Rattle.goo_tables_rows.specs.Stands.{Stands, Rests, IsSettled, Looks}
use Rattle.goo_tables_rows.proofs.Reading.{answers, meets, quiet, rests_unchanged, rests_failed}
use Rattle.goo_tables_rows.proofs.Refusing.{faulty}

module _ (schema : Schema) (sql : List ℕ) (plain : IsPlain (understood schema sql)) (params : Row) (old new : State) (has : old.now.schema ≡ schema) where
  plain_now : IsPlain (understood old.now.schema sql)
  plain_now = subst (λ s. IsPlain (understood s sql)) (sym has) plain

  pub given_of : {X : Type 0} (R : X → List Row → Type 0) (r : Result X Error) → IfOk r (λ x. Gave sql params old new (R x)) → IfOk r (λ x. Answered sql params old new (R x))
  given_of R (Ok x) h = h.1 plain_now
  given_of R (Err e) h = tt

  pub rests_through : IsSettled old → IsReadThrough sql params old new → Rests old new
  rests_through settled h = elim (h.1 plain_now) [ inl same ↦ rests_unchanged old new same | inr bad ↦ rests_failed sql params old new bad.0 settled bad.1 ]

works_through : {X : Type 0} (sql : List ℕ) (params : Row) (old new : State) (R : X → List Row → Type 0) (r : Result X Error)
    → (HasCleanDisk new → IfOk r (λ x. Gave sql params old new (R x))) → OnOk r (HasCleanDisk new → IsTrue new.is_open)
works_through sql params old new R (Ok x) read = λ clean. (read clean).0
works_through sql params old new R (Err e) read = tt

module _ (sql : List ℕ) (q : Query) (names : List (List ℕ)) (is : command_of (understood registry_schema sql) ≡ Select (record { lets = []; body = q }) names)
    (plain : IsPlain (understood registry_schema sql)) (unlisted : reads_listing registry_schema sql ≡ false) (params : Row) (old new : State) where
  pub looks_through : {X : Type 0} (R : X → List Row → Type 0) (right : Tables → X → Type 0)
      → ((t : Tables) → Stands old.now t → (x : X) (rows : List Row) → IsAnswer q (overlay old.now.trees []) params rows → R x rows → right t x)
      → (r : Result X Error) → (HasCleanDisk new → IfOk r (λ x. Gave sql params old new (R x))) → (HasCleanDisk new → IsReadThrough sql params old new) → Survives old new (CommitsShowing sql params old)
      → Looks old new r right
  looks_through R right says r read ran survives = record {
    found = λ clean t it. meets registry_schema sql q names is plain unlisted params old new R (right t) it.schema (says t it) r (given_of registry_schema sql plain params old new it.schema R r (read clean));
    clean = survives.clean;
    works = works_through sql params old new R r read;
    was_open = λ clean. (ran clean).0;
    rests = λ clean has settled. rests_through registry_schema sql plain params old new has settled (ran clean);
    crash = λ has. quiet registry_schema sql plain params old new has survives;
  }

-- the same on tables of version 1
module _ (sql : List ℕ) (q : Query) (names : List (List ℕ)) (is : command_of (understood first_schema sql) ≡ Select (record { lets = []; body = q }) names)
    (plain : IsPlain (understood first_schema sql)) (unlisted : reads_listing first_schema sql ≡ false) (params : Row) (old new : State) where
  pub looks_first_through : {X : Type 0} (R : X → List Row → Type 0) (right : Tables → X → Type 0)
      → ((t : Tables) → IsFirst old.now t → (x : X) (rows : List Row) → IsAnswer q (overlay old.now.trees []) params rows → R x rows → right t x)
      → (r : Result X Error) → (HasCleanDisk new → IfOk r (λ x. Gave sql params old new (R x))) → (HasCleanDisk new → IsReadThrough sql params old new) → Survives old new (CommitsShowing sql params old)
      → LooksFirst old new r right
  looks_first_through R right says r read ran survives = record {
    found = λ clean t it. meets first_schema sql q names is plain unlisted params old new R (right t) it.0 (says t it) r (given_of first_schema sql plain params old new it.0 R r (read clean));
    clean = survives.clean;
    works = works_through sql params old new R r read;
    was_open = λ clean. (ran clean).0;
    rests = λ clean has settled. rests_through first_schema sql plain params old new has settled (ran clean);
    crash = λ has. quiet first_schema sql plain params old new has survives;
  }

module _ (schema : Schema) (sql : List ℕ) (q : Query) (names : List (List ℕ)) (is : command_of (understood schema sql) ≡ Select (record { lets = []; body = q }) names)
    (plain : IsPlain (understood schema sql)) (unlisted : reads_listing schema sql ≡ false) (params : Row) (suits : is_suited schema sql q params ≡ true) (old new : State)
    (has : old.now.schema ≡ schema) (unlimited : old.step_limit ≡ None) where
  pub fails_through : {X : Type 0} (readable : Row → Type 0) (r : Result X Error) → IfErr r (FailsToGive sql params old new readable) → IfErr r (λ e. IsFault old new e ⊎ IsTrue (is_read_error e))
  fails_through readable (Ok x) h = tt
  fails_through readable (Err e) h = elim (h (plain_now schema sql plain params old new has)) [
    | inl memory ↦ inl (inl memory)
    | inr (inl failed) ↦ inl (faulty schema sql q names is plain unlisted params suits old new has unlimited e failed)
    | inr (inr (rows, shown, bad)) ↦ inr bad.0
  ]

  -- where each row shown can be read, an error is a fault
  pub fails_readable_through : {X : Type 0} (readable : Row → Type 0) → ((rows : List Row) → IsAnswer q (overlay old.now.trees []) params rows → All readable rows) → (r : Result X Error)
      → IfErr r (FailsToGive sql params old new readable) → IfErr r (IsFault old new)
  fails_readable_through readable right (Ok x) h = tt
  fails_readable_through readable right (Err e) h = elim (h (plain_now schema sql plain params old new has)) [
    | inl memory ↦ inl memory
    | inr (inl failed) ↦ faulty schema sql q names is plain unlisted params suits old new has unlimited e failed
    | inr (inr (rows, shown, bad)) ↦ absurd (bad.1 (right rows (answers schema sql q names is plain unlisted params old new has rows shown)))
  ]
