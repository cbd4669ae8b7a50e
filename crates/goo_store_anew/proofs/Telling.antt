-- What a question shows is what the database answers, and it changes nothing.
use Rattle.std.proofs.Common.{◌≡◌, ◌⊎◌, inl, inr, ◌<◌, ℕ, zero, suc, true, List, [], ◌∷◌, length, get_or, Option, Ok, Err, Result, IfOk, IfErr, OnOk, IsTrue, refl, subst, sym, arith}
use Rattle.std.specs.Prelude.{Vec}
use Rattle.std.specs.declared.alloc.Global.{Global}
use Rattle.std.specs.List.{AllByRecursion}
use Rattle.sqlite_tied.specs.Compute.{everything}
use Rattle.sqlite_resolve.specs.Compile.{first}
use Rattle.sqlite.specs.Clock.{timed}
use Rattle.sqlite.specs.Listing.{understood}
use Rattle.sqlite.specs.Order.{Row}
use Rattle.sqlite.specs.Schema.{Schema}
use Rattle.sqlite.specs.declared.error.Error.{Error}
use Rattle.sqlite_schema.specs.declared.command.Command.{Command}
use Rattle.sqlite_schema.specs.declared.command.Command.TheVariants.{Select, Rows}
use Rattle.sqlite.specs.Effect.{Database, RefusesToRead}
use Rattle.sqlite_trees.specs.declared.error.StoreError.{StoreError}
use Rattle.sqlite_trees.specs.declared.error.StoreError.TheVariants.{OutOfMemory, Io, Corrupt, Full, Broken, Unstorable}
use Rattle.sqlite.specs.State.{State, IsUnchanged, Shown, ShowsRows, FailsToQuery, FailsToShow, IsNoStatement, IsNotRun, IsTooLate, KeepsCommit, CommitsShowing, Survives, store_error}
use Rattle.sqlite.specs.Tree.{Trees}
use Rattle.sqlite.proofs.StateLemmas.{survives_weaker}
use Rattle.goo_tables_rows.specs.Stands.{Rests, IsSettled}
use Rattle.goo_tables_rows.proofs.Reading.{rests_failed, rests_unchanged}
use Rattle.goo_store_anew.specs.Answered.{Answers, IsErrorFor}
use Rattle.goo_store_anew.specs.Questions.{question_texts}
use Rattle.goo_store_anew.proofs.Selecting.{IsBare, reads_alone, understood_bare}

abbrev IsQuestion : List ℕ → Type 0
IsQuestion sql = reads_alone (first sql) ≡ true

all_questions : AllByRecursion IsQuestion question_texts
unfolding everything
all_questions = (refl, (refl, (refl, (refl, (refl, (refl, (refl, (refl, (refl, (refl, (refl, (refl, (refl, (refl, (refl, (refl, tt))))))))))))))))

at_place : (P : List ℕ → Type 0) (xs : List (List ℕ)) (at : ℕ) → AllByRecursion P xs → at < length xs → P (get_or xs at [])
at_place P [] at all low = absurd (omega (arith, low))
at_place P (x ∷ xs) zero all low = all.0
at_place P (x ∷ xs) (suc at) all low = at_place P xs at all.1 (omega (arith, low))

pub question_bare : (schema : Schema) (at : ℕ) → at < 16 → IsBare (understood schema (get_or question_texts at []))
question_bare schema at low = understood_bare schema (get_or question_texts at []) (at_place IsQuestion question_texts at all_questions low)

module _ (schema : Schema) (sql : List ℕ) where
  store_word : (cause : StoreError) → IsErrorFor schema sql (store_error cause)
  store_word OutOfMemory = tt
  store_word Io = tt
  store_word Corrupt = tt
  store_word Full = tt
  store_word Broken = tt
  store_word Unstorable = tt

  read_word : (limit : Option ℕ) (command : Command) (db : Database) (params : Row) (e : Error) → RefusesToRead limit command db params e → IsErrorFor schema sql e
  read_word limit (Select q names) db params e (inl h) = subst (IsErrorFor schema sql) (sym h.0) tt
  read_word limit (Select q names) db params e (inr (inl h)) = subst (IsErrorFor schema sql) (sym h.0) tt
  read_word limit (Select q names) db params e (inr (inr h)) = subst (IsErrorFor schema sql) (sym h.0) tt
  read_word limit (Rows values width names) db params e h = subst (IsErrorFor schema sql) (sym h.0) tt
  read_word limit _ db params e h = subst (IsErrorFor schema sql) (sym h) tt

-- the text is no statement
no_statement : (sql : List ℕ) (old : State) (e : Error) → IsNoStatement old sql [] e → IsErrorFor old.now.schema sql e
no_statement sql old e (inl h) = subst (IsErrorFor old.now.schema sql) (sym h.2) (h.0, h.1)
no_statement sql old e (inr (c, is, inl h)) = subst (IsErrorFor old.now.schema sql) (sym h.1) tt
no_statement sql old e (inr (c, is, inr (inl h))) = subst (IsErrorFor old.now.schema sql) (sym h.1) tt
no_statement sql old e (inr (c, is, inr (inr h))) = subst (IsErrorFor old.now.schema sql) (sym h.1) tt

module _ (sql : List ℕ) (old new : State) (bare : IsBare (understood old.now.schema sql)) where
  pub unchanged : (rows : List Row) → Shown sql [] old new rows → IsUnchanged old new
  unfolding Shown
  unchanged rows h =
      let none = subst IsBare h.1.is bare in
      (subst (ShowsRows old new sql h.0 (timed [] h.0.formats h.1.now) rows) none h.2).3

  pub tells : (rows : List Row) → Shown sql [] old new rows → Answers old.now sql rows
  unfolding Shown
  tells rows h =
      let none = subst IsBare h.1.is bare in
      let shows = subst (ShowsRows old new sql h.0 (timed [] h.0.formats h.1.now) rows) none h.2 in
      (h.0, h.1.is, h.1.now, shows.0, shows.1, shows.2)

  pub told : (r : Result (Vec Row Global) Error) → IfOk r (λ rows. Shown sql [] old new rows.items) → IfOk r (λ rows. Answers old.now sql rows.items)
  told (Ok rows) h = tells rows.items h
  told (Err e) h = tt

  pub opens : (r : Result (Vec Row Global) Error) → IfOk r (λ rows. Shown sql [] old new rows.items) → OnOk r (IsTrue new.is_open)
  opens (Ok rows) h = (unchanged rows.items h).0.is_open
  opens (Err e) h = tt

  pub rests : (r : Result (Vec Row Global) Error) → IsSettled old → IfOk r (λ rows. Shown sql [] old new rows.items) → IfErr r (FailsToQuery sql [] old new) → Rests old new
  rests (Ok rows) settled h fails = rests_unchanged old new (unchanged rows.items h)
  rests (Err e) settled h fails = rests_failed sql [] old new e settled fails

  never : (db : Trees) → ¬ CommitsShowing sql [] old db
  unfolding CommitsShowing
  never db h = let none = subst IsBare h.1.is bare in absurd (let e = rw none at h.2 in cc)

  pub commits_nothing : Survives old new (CommitsShowing sql [] old) → Survives old new (λ _. ⊥)
  commits_nothing = survives_weaker old new (CommitsShowing sql [] old) (λ _. ⊥) (λ _ db. never db)

  failed_keeps : (e : Error) → FailsToQuery sql [] old new e → KeepsCommit old new
  unfolding FailsToQuery IsNotRun
  failed_keeps e (inl (inl h)) = record { was_open = λ _. h.1.0.was_open; committed = λ _. h.1.0.committed_is }
  failed_keeps e (inl (inr h)) = record { was_open = h.3.was_open; committed = λ live. (h.3.undone live).1 }
  failed_keeps e (inr h) =
      let none = subst IsBare h.1.is bare in
      let shown = (subst (FailsToShow old new sql h.0 (timed [] h.0.formats h.1.now) e) none h.2).3 in
      record { was_open = λ _. shown.0.was_open; committed = λ _. shown.0.committed_is }

  -- inside a transaction
  pub keeps : (r : Result (Vec Row Global) Error) → IfOk r (λ rows. Shown sql [] old new rows.items) → IfErr r (λ e. FailsToQuery sql [] old new e ⊎ IsTooLate sql [] old new e) → KeepsCommit old new
  keeps (Ok rows) h fails = let same = unchanged rows.items h in record { was_open = λ _. same.0.was_open; committed = λ _. same.0.committed_is }
  keeps (Err e) h fails = elim fails [
    | inl failed ↦ failed_keeps e failed
    | inr late ↦ record { was_open = λ _. late.5.0.was_open; committed = λ _. late.5.0.committed_is }
  ]

  pub same_now : (rows : List Row) → Shown sql [] old new rows → new.now ≡ old.now
  same_now rows h = (unchanged rows h).0.now_is

  failed_word : (e : Error) → FailsToQuery sql [] old new e → IsErrorFor old.now.schema sql e
  unfolding FailsToQuery IsNotRun
  failed_word e (inl (inl h)) = no_statement sql old e h.0
  failed_word e (inl (inr h)) = subst (IsErrorFor old.now.schema sql) (sym h.1) (store_word old.now.schema sql h.0)
  failed_word e (inr h) =
      let none = subst IsBare h.1.is bare in
      let shown = subst (FailsToShow old new sql h.0 (timed [] h.0.formats h.1.now) e) none h.2 in
      read_word old.now.schema sql old.step_limit h.0.command shown.0 (timed [] h.0.formats h.1.now) e shown.2

  pub word : (r : Result (Vec Row Global) Error) → IfErr r (FailsToQuery sql [] old new) → IfErr r (IsErrorFor old.now.schema sql)
  word (Ok rows) fails = tt
  word (Err e) fails = failed_word e fails
