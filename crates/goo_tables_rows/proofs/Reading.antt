-- What a SELECT shows, for any text that reads one table or more.
use Rattle.std.proofs.Common.{◌≡◌, inl, inr, IsTrue, IfOk, OnOk, ℕ, List, [], false, Option, None, Some, Ok, Err, Result, sym, ap, subst, ◌∙◌}
use Rattle.sqlite.specs.declared.types.Value.TheVariants.{Null}
use Rattle.sqlite.specs.Order.{Row}
use Rattle.sqlite.specs.Query.{Query, IsAnswer}
use Rattle.sqlite.specs.Program.{overlay}
use Rattle.sqlite.specs.Schema.{Schema}
use Rattle.sqlite.specs.Command.TheVariants.{Select}
use Rattle.sqlite.specs.Listing.{understood, reads_listing}
use Rattle.sqlite.specs.Clock.{timed}
use Rattle.sqlite.specs.State.{State, HasCleanDisk, ShowsRows, Shown, IsUnchanged, IsRolledBack, FailsToQuery, FailsToShow, IsNotRun, Survives, CommitsShowing}
use Rattle.sqlite.specs.declared.error.Error.{Error}
use Rattle.sqlite_resolve.specs.declared.compiled.Compiled.{Compiled}
use Rattle.sqlite_schema.specs.declared.command.Returning.{Returning}
use Rattle.goo_tables_rows.specs.Rows.{Tables}
use Rattle.goo_tables_rows.specs.Stands.{Stands, Rests, IsSettled, Looks}
use Rattle.goo_tables_rows.specs.Columns.{registry_schema, first_schema}
use Rattle.goo_tables_rows.specs.First.{IsFirst, LooksFirst}
use Rattle.goo_tables_rows.specs.Asked.{Answered, IsRead}
use Rattle.sqlite.proofs.StateLemmas.{survives_weaker}
use Rattle.sqlite.proofs.Callers.{IsPlain, command_of, reads_as, never_commits}

module _ (schema : Schema) (sql : List ℕ) (q : Query) (names : List (List ℕ)) (is : command_of (understood schema sql) ≡ Select (record { lets = []; body = q }) names)
    (plain : IsPlain (understood schema sql)) (unlisted : reads_listing schema sql ≡ false) (params : Row) (old new : State) (has : old.now.schema ≡ schema) (rows : List Row)
    (h : Shown sql params old new rows) where
  pub answers : IsAnswer q (overlay old.now.trees []) params rows
  answers = (reads_as sql params old new schema has _ is plain unlisted rows h).answer Null

  pub unchanged : IsUnchanged old new
  unfolding Shown
  unchanged =
      let known = sym h.1.is ∙ ap (λ s. understood s sql) has in
      let bare = subst IsPlain (sym known) plain in
      (subst (ShowsRows old new sql h.0 (timed params h.0.formats h.1.now) rows) bare.0 h.2).3

-- a query commits nothing
pub quiet : (schema : Schema) (sql : List ℕ) → IsPlain (understood schema sql) → (params : Row) (old new : State) → old.now.schema ≡ schema
    → Survives old new (CommitsShowing sql params old) → Survives old new (λ _. ⊥)
quiet schema sql plain params old new has =
    survives_weaker old new (CommitsShowing sql params old) (λ _. ⊥) (λ _ db. never_commits sql params old db (subst (λ s. IsPlain (understood s sql)) (sym has) plain))

-- ---- a query leaves the database as it was, also where it fails

pub rests_unchanged : (a b : State) → IsUnchanged a b → Rests a b
rests_unchanged a b h = record { was_open = λ _. h.0.was_open; now = λ _. h.0.now_is; committed = λ _. h.0.committed_is }

pub rests_undone : (a b : State) → IsSettled a → IsRolledBack a b → Rests a b
rests_undone a b settled h = record { was_open = h.was_open; now = λ live. (h.undone live).0 ∙ sym (settled (h.was_open live)); committed = λ live. (h.undone live).1 }

rests_refused : (sql : List ℕ) (params : Row) (a b : State) (e : Error) (c : Compiled) → IsSettled a → (r : Option Returning) → FailsToShow a b sql c params e r → Rests a b
rests_refused sql params a b e c settled None h = rests_unchanged a b h.3
rests_refused sql params a b e c settled (Some what) (inl h) = rests_unchanged a b h.1
rests_refused sql params a b e c settled (Some what) (inr h) = rests_undone a b settled h.3

pub rests_failed : (sql : List ℕ) (params : Row) (a b : State) (e : Error) → IsSettled a → FailsToQuery sql params a b e → Rests a b
unfolding FailsToQuery IsNotRun
rests_failed sql params a b e settled (inl (inl h)) = rests_unchanged a b h.1
rests_failed sql params a b e settled (inl (inr h)) = rests_undone a b settled h.3
rests_failed sql params a b e settled (inr h) = rests_refused sql _ a b e h.0 settled h.0.returning h.2

pub was_open_shown : (sql : List ℕ) (params : Row) (a b : State) (c : Compiled) (rows : List Row) (r : Option Returning) → ShowsRows a b sql c params rows r → IsTrue a.is_open
was_open_shown sql params a b c rows None h = h.3.0.was_open
was_open_shown sql params a b c rows (Some what) h = h.1.shown.was_open

was_open_refused : (sql : List ℕ) (params : Row) (a b : State) (e : Error) (c : Compiled) (r : Option Returning) → FailsToShow a b sql c params e r → IsTrue b.is_open → IsTrue a.is_open
was_open_refused sql params a b e c None h live = h.3.0.was_open
was_open_refused sql params a b e c (Some what) (inl h) live = h.1.0.was_open
was_open_refused sql params a b e c (Some what) (inr h) live = h.3.was_open live

pub was_open_failed : (sql : List ℕ) (params : Row) (a b : State) (e : Error) → FailsToQuery sql params a b e → IsTrue b.is_open → IsTrue a.is_open
unfolding FailsToQuery IsNotRun
was_open_failed sql params a b e (inl (inl h)) live = h.1.0.was_open
was_open_failed sql params a b e (inl (inr h)) live = h.3.was_open live
was_open_failed sql params a b e (inr h) live = was_open_refused sql _ a b e h.0 h.0.returning h.2 live

pub open_shown : (sql : List ℕ) (params : Row) (a b : State) (c : Compiled) (rows : List Row) (r : Option Returning) → ShowsRows a b sql c params rows r → IsTrue b.is_open
open_shown sql params a b c rows None h = h.3.0.is_open
open_shown sql params a b c rows (Some what) h = h.1.shown.is_open

-- ---- a look-up, of what the query that it asks answers

module _ (schema : Schema) (sql : List ℕ) (q : Query) (names : List (List ℕ)) (is : command_of (understood schema sql) ≡ Select (record { lets = []; body = q }) names)
    (plain : IsPlain (understood schema sql)) (unlisted : reads_listing schema sql ≡ false) (params : Row) (old new : State) where
  stays_open : {X : Type 0} (R : X → List Row → Type 0) (r : Result X Error) → (HasCleanDisk new → IfOk r (λ x. Answered sql params old new (R x))) → OnOk r (HasCleanDisk new → IsTrue new.is_open)
  unfolding Shown
  stays_open R (Ok x) read = λ clean. let h = (read clean).1 in open_shown sql _ old new h.0 (read clean).0 h.0.returning h.2
  stays_open R (Err e) read = tt

  was_open : IsRead sql params old new → IsTrue new.is_open → IsTrue old.is_open
  unfolding Shown
  was_open (inl it) live = let h = it.1 in was_open_shown sql _ old new h.0 it.0 h.0.returning h.2
  was_open (inr it) live = was_open_failed sql params old new it.0 it.1 live

  rests : old.now.schema ≡ schema → IsSettled old → IsRead sql params old new → Rests old new
  rests has settled (inl it) = rests_unchanged old new (unchanged schema sql q names is plain unlisted params old new has it.0 it.1)
  rests has settled (inr it) = rests_failed sql params old new it.0 settled it.1

  pub meets : {X : Type 0} (R : X → List Row → Type 0) (right : X → Type 0) → old.now.schema ≡ schema → ((x : X) (rows : List Row) → IsAnswer q (overlay old.now.trees []) params rows → R x rows → right x)
      → (r : Result X Error) → IfOk r (λ x. Answered sql params old new (R x)) → IfOk r right
  meets R right has says (Ok x) it = says x it.0 (answers schema sql q names is plain unlisted params old new has it.0 it.1) it.2
  meets R right has says (Err e) it = tt

module _ (sql : List ℕ) (q : Query) (names : List (List ℕ)) (is : command_of (understood registry_schema sql) ≡ Select (record { lets = []; body = q }) names)
    (plain : IsPlain (understood registry_schema sql)) (unlisted : reads_listing registry_schema sql ≡ false) (params : Row) (old new : State) where
  pub looks : {X : Type 0} (R : X → List Row → Type 0) (right : Tables → X → Type 0)
      → ((t : Tables) → Stands old.now t → (x : X) (rows : List Row) → IsAnswer q (overlay old.now.trees []) params rows → R x rows → right t x)
      → (r : Result X Error) → (HasCleanDisk new → IfOk r (λ x. Answered sql params old new (R x))) → (HasCleanDisk new → IsRead sql params old new) → Survives old new (CommitsShowing sql params old)
      → Looks old new r right
  looks R right says r read ran survives = record {
    found = λ clean t it. meets registry_schema sql q names is plain unlisted params old new R (right t) it.schema (says t it) r (read clean);
    clean = survives.clean;
    works = stays_open registry_schema sql q names is plain unlisted params old new R r read;
    was_open = λ clean. was_open registry_schema sql q names is plain unlisted params old new (ran clean);
    rests = λ clean has settled. rests registry_schema sql q names is plain unlisted params old new has settled (ran clean);
    crash = λ has. quiet registry_schema sql plain params old new has survives;
  }

-- the same on tables of version 1
module _ (sql : List ℕ) (q : Query) (names : List (List ℕ)) (is : command_of (understood first_schema sql) ≡ Select (record { lets = []; body = q }) names)
    (plain : IsPlain (understood first_schema sql)) (unlisted : reads_listing first_schema sql ≡ false) (params : Row) (old new : State) where
  pub looks_first : {X : Type 0} (R : X → List Row → Type 0) (right : Tables → X → Type 0)
      → ((t : Tables) → IsFirst old.now t → (x : X) (rows : List Row) → IsAnswer q (overlay old.now.trees []) params rows → R x rows → right t x)
      → (r : Result X Error) → (HasCleanDisk new → IfOk r (λ x. Answered sql params old new (R x))) → (HasCleanDisk new → IsRead sql params old new) → Survives old new (CommitsShowing sql params old)
      → LooksFirst old new r right
  looks_first R right says r read ran survives = record {
    found = λ clean t it. meets first_schema sql q names is plain unlisted params old new R (right t) it.0 (says t it) r (read clean);
    clean = survives.clean;
    works = stays_open first_schema sql q names is plain unlisted params old new R r read;
    was_open = λ clean. was_open first_schema sql q names is plain unlisted params old new (ran clean);
    rests = λ clean has settled. rests first_schema sql q names is plain unlisted params old new has settled (ran clean);
    crash = λ has. quiet first_schema sql plain params old new has survives;
  }
