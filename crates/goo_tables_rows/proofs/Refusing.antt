-- Which errors a look-up may answer, for any text that reads one table or more.
use Rattle.std.proofs.Common.{◌≡◌, ◌≤◌, ◌⊎◌, All, append-nil, refl, inl, inr, IsTrue, IfErr, ℕ, List, [], ◌∷◌, length, true, false, Option, None, Some, is_none, Ok, Err, Result, sym, ap, subst, ◌∙◌}
use Rattle.std.proofs.lemmas.Bool.{and_parts, leb-true, eqb-true}
use Rattle.sqlite_trees.specs.declared.error.StoreError.TheVariants.{OutOfMemory, Io, Corrupt, Full, Broken, Unstorable}
use Rattle.sqlite.specs.Order.{Row}
use Rattle.sqlite.specs.Query.{Query, IsAnswer, has_no_fold}
use Rattle.sqlite.specs.Program.{overlay}
use Rattle.sqlite.specs.Schema.{Schema}
use Rattle.sqlite.specs.Command.{Command}
use Rattle.sqlite.specs.Command.TheVariants.{Select}
use Rattle.sqlite.specs.Tree.{Trees}
use Rattle.sqlite.specs.Listing.{understood, reads_listing, IsSourceOf}
use Rattle.sqlite.specs.Effect.{Database, RefusesToRead}
use Rattle.sqlite.specs.State.{State, FailsToQuery, IsNotRun, IsNoStatement, Fails}
use Rattle.sqlite.specs.declared.error.Error.{Error}
use Rattle.sqlite_resolve.specs.declared.compiled.Compiled.{Compiled}
use Rattle.sqlite_resolve.specs.declared.error.CompileError.{CompileError}
use Rattle.sqlite_sql.specs.Program.{QueryOverflows}
use Rattle.sqlite_sql.specs.Group.{Grouping, Overflows}
use Rattle.sqlite_sql.specs.Query.{matches}
use Rattle.sqlite_sql.proofs.QueryLemmas.{no_fold_overflows}
use Rattle.sqlite_typing.specs.Types.{accepts_over}
use Rattle.sqlite.proofs.Callers.{IsPlain, command_of}
use Rattle.goo_tables_rows.specs.Asked.{FailsToAsk}
use Rattle.goo_tables_rows.proofs.Reading.{answers}
use Rattle.goo_tables_rows.specs.Readable.{is_read_error}
use Rattle.goo_tables_rows.specs.Refused.{IsFault, is_whole, is_suited}

-- the store failed
pub fault_of : (old new : State) (e : Error) → Fails old new ⊥ e → IsFault old new e
fault_of old new e (OutOfMemory, is, cause, undone, told) = inl is
fault_of old new e (Io, is, cause, undone, told) = inr (rw is refl, inl cause)
fault_of old new e (Corrupt, is, cause, undone, told) = inr (rw is refl, inl cause)
fault_of old new e (Full, is, cause, undone, told) = inr (rw is refl, inl cause)
fault_of old new e (Broken, is, cause, undone, told) = inr (rw is refl, inr cause)
fault_of old new e (Unstorable, is, cause, undone, told) = absurd cause

no_group : (g : Option Grouping) (q : Query) (db : Trees) (params : Row) → is_none g ≡ true → ¬ Overflows g (matches db q.filter q.from (params ∷ []))
no_group None q db params none h = h
no_group (Some g) q db params none h = absurd cc

no_overflow : (q : Query) (db : Trees) (params : Row) → has_no_fold q.from ≡ true → is_none q.group ≡ true → ¬ QueryOverflows q db params
no_overflow q db params flat none (inl h) = no_group q.group q db params none h
no_overflow q db params flat none (inr h) = no_fold_overflows db q.from (params ∷ []) flat h

-- the text is one statement
runs : (sql : List ℕ) (params : Row) (s : State) (e : Error) (r : Result Compiled CompileError) → understood s.now.schema sql ≡ r → is_whole (length sql) (length params) r ≡ true → IsPlain r
    → ¬ IsNoStatement s sql params e
runs sql params s e (Err f) known whole plain h = plain
runs sql params s e (Ok c) known whole plain (inl h) = let bad = sym known ∙ h.1 in absurd cc
runs sql params s e (Ok c) known whole plain (inr (d, is, inl h)) =
    let same : c ≡ d = let e = sym known ∙ is in cc in
    h.0 (subst (λ (k : Compiled). length sql ≤ k.tail) same (leb-true _ _ (and_parts _ _ whole).0))
runs sql params s e (Ok c) known whole plain (inr (d, is, inr (inl h))) =
    let same : c ≡ d = let e = sym known ∙ is in cc in
    h.0 (subst (λ (k : Compiled). length params ≡ length k.names) same (eqb-true _ _ (and_parts _ _ whole).1))
runs sql params s e (Ok c) known whole plain (inr (d, is, inr (inr h))) =
    let same : c ≡ d = let e = sym known ∙ is in cc in
    h.0 (subst (λ (k : Compiled). k.formats ≡ []) same plain.1)

-- the same of the schema, whatever it is called
pub runs_on : (schema : Schema) (sql : List ℕ) (params : Row) (s : State) (e : Error) → s.now.schema ≡ schema → is_whole (length sql) (length params) (understood schema sql) ≡ true
    → IsPlain (understood schema sql) → ¬ IsNoStatement s sql params e
runs_on schema sql params s e has whole plain = runs sql params s e (understood schema sql) (ap (λ z. understood z sql) has) whole plain

pub never_refused : (limit : Option ℕ) (command : Command) (q : Query) (names : List (List ℕ)) (db : Database) (params : Row) (e : Error) → limit ≡ None → command ≡ Select (record { lets = []; body = q }) names
    → accepts_over db.schema [] q params ≡ true → has_no_fold q.from ≡ true → is_none q.group ≡ true → ¬ RefusesToRead limit command db params e
never_refused limit command q names db params e unlimited is fits flat none h =
    elim (subst (λ k. RefusesToRead limit k db params e) is h) [
      | inl typed ↦ let bad = sym fits ∙ typed.1 in absurd cc
      | inr (inl over) ↦ no_overflow q (overlay db.trees []) params flat none over.1
      | inr (inr stopped) ↦ let some = rw unlimited at stopped.1 in cc
    ]

module _ (schema : Schema) (sql : List ℕ) (q : Query) (names : List (List ℕ)) (is : command_of (understood schema sql) ≡ Select (record { lets = []; body = q }) names)
    (plain : IsPlain (understood schema sql)) (unlisted : reads_listing schema sql ≡ false) (params : Row) (suits : is_suited schema sql q params ≡ true) (old new : State)
    (has : old.now.schema ≡ schema) (unlimited : old.step_limit ≡ None) where
  pub faulty : (e : Error) → FailsToQuery sql params old new e → IsFault old new e
  unfolding FailsToQuery IsNotRun
  faulty e (inl (inl h)) = absurd (runs_on schema sql params old e has (and_parts _ _ suits).0 plain h.0)
  faulty e (inl (inr h)) = fault_of old new e h
  faulty e (inr h) =
      let parts = and_parts _ _ (and_parts _ _ suits).1 in
      let flat = and_parts _ _ parts.1 in
      let known = sym h.1.is ∙ ap (λ s. understood s sql) has in
      let bare = subst IsPlain (sym known) plain in
      let it = rw (bare.0, bare.1, append-nil params) at h.2 in
      let db : it.0 ≡ old.now = subst (λ b. IsSourceOf b old.now it.0) (ap (λ s. reads_listing s sql) has ∙ unlisted) it.1 in
      let is_schema : it.0.schema ≡ schema = ap (λ (d : Database). d.schema) db ∙ has in
      absurd (never_refused old.step_limit h.0.command q names it.0 params e unlimited (ap command_of known ∙ is) (subst (λ s. accepts_over s [] q params ≡ true) (sym is_schema) parts.0) flat.0 flat.1 it.2)

  pub fails_by : {X : Type 0} (readable : Row → Type 0) (r : Result X Error) → IfErr r (FailsToAsk sql params old new readable) → IfErr r (λ e. IsFault old new e ⊎ IsTrue (is_read_error e))
  fails_by readable (Ok x) h = tt
  fails_by readable (Err e) (inl h) = inl (faulty e h)
  fails_by readable (Err e) (inr (rows, shown, inl memory)) = inl (inl memory)
  fails_by readable (Err e) (inr (rows, shown, inr bad)) = inr bad.0

  -- where each row shown can be read, an error is a fault
  pub fails_readable : {X : Type 0} (readable : Row → Type 0) → ((rows : List Row) → IsAnswer q (overlay old.now.trees []) params rows → All readable rows) → (r : Result X Error)
      → IfErr r (FailsToAsk sql params old new readable) → IfErr r (IsFault old new)
  fails_readable readable right (Ok x) h = tt
  fails_readable readable right (Err e) (inl h) = faulty e h
  fails_readable readable right (Err e) (inr (rows, shown, inl memory)) = inl memory
  fails_readable readable right (Err e) (inr (rows, shown, inr bad)) = absurd (bad.1 (right rows (answers schema sql q names is plain unlisted params old new has rows shown)))
