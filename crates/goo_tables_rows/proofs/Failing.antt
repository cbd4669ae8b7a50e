-- Why a change is refused, for any table without counters or foreign keys.
use Rattle.std.proofs.Common.{◌≡◌, ◌⊎◌, inl, inr, ℕ, zero, suc, ◌/◌, List, [], ◌∷◌, length, length-append, Option, Some, None, Err, Bool, true, false, IsTrue, refl, is_none, is_some, sym, ap, ap₂, subst, subst₂, ◌∙◌, arith, append-nil, option_map}
use Rattle.std.specs.Prelude.{◌&&◌, ◌||◌}
use Rattle.sqlite.specs.Order.{Row}
use Rattle.sqlite_schema.specs.declared.schema.Column.{Column}
use Rattle.sqlite_schema.specs.declared.schema.Among.{Among}
use Rattle.sqlite_schema.specs.declared.schema.Keys.TheVariants.{Enforced}
use Rattle.sqlite_schema.specs.Rules.{Refers}
use Rattle.sqlite_value.specs.declared.keys.Order.{Order}
use Rattle.sqlite.specs.Term.{Term}
use Rattle.sqlite.specs.Table.{Table}
use Rattle.sqlite.specs.Schema.{Schema}
use Rattle.sqlite.specs.Source.TheVariants.{Values}
use Rattle.sqlite.specs.Command.{Command}
use Rattle.sqlite.specs.Command.TheVariants.{Insert, Delete, Update, Select, Begin, Commit, Rollback, Release, RollbackTo}
use Rattle.sqlite.specs.declared.error.Error.{Error}
use Rattle.sqlite.specs.declared.error.Error.TheVariants.{SqliteFailure}
use Rattle.sqlite.specs.declared.error.ErrorCode.TheVariants.{TooBig}
use Rattle.sqlite.specs.declared.run.Mode.{Mode}
use Rattle.sqlite.specs.Edit.{Edit, edit_of, taken_by}
use Rattle.sqlite_rules.specs.Lists.{Has}
use Rattle.sqlite_rules.specs.Edit.{IsRefused, IsOversized}
use Rattle.sqlite_rules.specs.Action.{works, Leads, Writes}
use Rattle.sqlite_rules.specs.declared.error.Refusal.{Refusal}
use Rattle.sqlite.specs.Rowids.TheVariants.{Chosen, Given}
use Rattle.sqlite.specs.Does.{Does, Concludes, due}
use Rattle.sqlite.specs.Rows.{Part, Then, Written, Task, Inserts, Updates, Deletes, Edited}
use Rattle.sqlite.specs.Tree.{Trees}
use Rattle.sqlite.specs.Listing.{understood}
use Rattle.sqlite.specs.Effect.{Database, value_rows, Answers, RefusesQuery, edit_error, is_query}
use Rattle.sqlite.specs.Query.{Query, has_no_fold}
use Rattle.sqlite_schema.specs.declared.program.Program.{Program}
use Rattle.sqlite_rules.specs.Calls.{ids_of}
use Rattle.sqlite_trees.specs.declared.error.StoreError.TheVariants.{OutOfMemory, Io, Corrupt, Full, Broken, Unstorable}
use Rattle.sqlite_resolve.specs.declared.compiled.Compiled.{Compiled}
use Rattle.sqlite_typing.specs.Types.{accepts_terms, accepts_over}
use Rattle.sqlite.specs.State.{State, mode_of, Fails, IsMisplaced, Escapes, RunsCommand, is_pragma, shows_rows, text_of, ExecutesInside, EndsScope, ExecutesIn, IsNotRun}
use Rattle.sqlite.proofs.Callers.{IsPlain, command_of}
use Rattle.goo_tables_rows.specs.Columns.{strict_table}
use Rattle.goo_tables_rows.specs.Refused.{IsFault, is_whole}
use Rattle.goo_tables_rows.proofs.Refusing.{fault_of, runs_on, never_refused}

abbrev pub whole_query : Query → Program
whole_query q = record { lets = []; body = q }

-- ---- of any schema without foreign keys

module _ (schema : Schema) (refers : (among : Among) (db : Trees) → Refers among schema db) (db : Trees) where
  -- a row of the edit can't be stored, or the edit breaks a rule
  abbrev pub Stops : Edit → Option Error → Type 0
  Stops edit None = (row : Row) × Has edit.news row × IsOversized schema edit.table row
  Stops edit (Some e) = (why : Refusal) × (e ≡ edit_error why) × IsRefused schema Enforced db edit why

  abbrev Ended : Edit → Option Refusal → Type 0
  Ended edit None = (row : Row) × Has edit.news row × IsOversized schema edit.table row
  Ended edit (Some why) = IsRefused schema Enforced db edit why

  module _ (edit : Edit) (childless : works schema Enforced 0 edit.table.tree (taken_by db edit) edit.news ≡ []) where
    settled : (next : Trees) (why : Option Refusal) (n : ℕ) → ¬ Leads schema Enforced n next [] (Err why)
    settled next why zero h = absurd (let e = h.1 in cc)
    settled next why (suc n) h = absurd (omega (arith, ap length h.2, length-append h.0 (h.1 ∷ [])))

    -- where no foreign key acts, what refuses a write refuses its one step
    one_refusal : (why : Option Refusal) → Writes schema Enforced db edit (Err why) → Ended edit why
    one_refusal None (inl refused) = absurd (let e = refused.2 in cc)
    one_refusal None (inr (inl big)) = (big.0, big.1, big.2)
    one_refusal None (inr (inr went)) = absurd (settled went.0 None went.2.0 (rw childless at went.2.1))
    one_refusal (Some why) (inl refused) = let same : why ≡ refused.0 = (let e = refused.2 in cc) in subst (IsRefused schema Enforced db edit) (sym same) refused.1
    one_refusal (Some why) (inr (inl big)) = absurd (let e = big.3 in cc)
    one_refusal (Some why) (inr (inr went)) = absurd (settled went.0 (Some why) went.2.0 (rw childless at went.2.1))

    named : (stop : Option Error) (why : Option Refusal) → Ended edit why → stop ≡ option_map edit_error why → Stops edit stop
    named None None h is = h
    named None (Some why) h is = absurd cc
    named (Some e) None h is = absurd cc
    named (Some e) (Some why) h is = (why, (let same = is in cc), h)

    edited_stops : (stop : Option Error) → Edited schema Enforced db edit (Err stop) → Stops edit stop
    edited_stops stop h = named stop h.0 (one_refusal h.0 h.1) h.2

  -- ---- at a table

  module _ (limit : Option ℕ) (unlimited : limit ≡ None) (name : List ℕ) (tree : ℕ) (key : Option ℕ) (primary : List ℕ) (uniques : List (List ℕ)) (orders : List Order) (columns : List Column) (params : Row)
      (childless : (olds news : List Row) → works schema Enforced 0 tree olds news ≡ []) where
    abbrev table : Table
    table = strict_table name tree key primary uniques orders columns

    abbrev task : Task
    task = record { limit = limit; keys = Enforced; schema = schema; table = table; params = params }

    -- no reference is broken, and nothing is shown
    concluded : (mode : Mode) (w : Written) (stop : Option Error) → ¬ Concludes task mode None w (Err stop)
    concluded mode w stop (inl tested) = tested.1.0 (refers (due mode) w.trees)
    concluded mode w stop (inr (doubt, tested, inl shown)) = absurd (let e = shown.1 in cc)
    concluded mode w stop (inr (doubt, tested, inr (rows, shown, gives))) = absurd (let e = gives in cc)

    pub on_rows : (mode : Mode) (Made : Part Written) (P : Option Error → Type 0) → ((stop : Option Error) → Made (Err stop) → P stop) → (stop : Option Error) → Then Made (Concludes task mode None) (Err stop) → P stop
    on_rows mode Made P made stop (inl (s, h, is)) = subst P (let same : s ≡ stop = cc in same) (made s h)
    on_rows mode Made P made stop (inr (w, h, ends)) = absurd (concluded mode w stop ends)

    abbrev pub inserting : List Term → ℕ → Edit
    inserting terms width = edit_of db table [] Chosen 0 (value_rows params width (length terms / width) terms)

    pub inserted : (terms : List Term) (width : ℕ) → accepts_terms terms params ≡ true → (stop : Option Error) → Inserts task (Values terms width) db (Err stop) → Stops (inserting terms width) stop
    inserted terms width fits stop (inl (None, bad, is)) = absurd bad
    inserted terms width fits stop (inl (Some e, inl misfit, is)) = absurd (let t = rw append-nil at misfit.1 in cc)
    inserted terms width fits stop (inl (Some e, inr over, is)) = absurd (let some = rw unlimited at over.1 in cc)
    inserted terms width fits stop (inr (rows, given, inl counter)) = absurd (let e = counter.1 in cc)
    inserted terms width fits stop (inr (rows, given, inr (counter, free, inl (s, h, is)))) =
        let same : rows ≡ value_rows params width (length terms / width) terms = given.1 ∙ ap (λ p. value_rows p width (length terms / width) terms) (append-nil params) in
        let edit = edit_of db table [] Chosen 0 rows in
        let why = edited_stops edit (childless (taken_by db edit) edit.news) s h in
        subst (λ all. Stops (edit_of db table [] Chosen 0 all) stop) same (subst (Stops edit) (let even : s ≡ stop = cc in even) why)
    inserted terms width fits stop (inr (rows, given, inr (counter, free, inr (next, wrote, inl counts)))) = absurd (let e = counts.1 in cc)
    inserted terms width fits stop (inr (rows, given, inr (counter, free, inr (next, wrote, inr (last, counts, gives))))) = absurd (let e = gives in cc)

    -- the rows that the query shows, and what stops the edit of them
    abbrev pub StopsAt : Query → (List Row → Edit) → Option Error → Type 0
    StopsAt q edit stop = (rows : List Row) × Answers (record { schema = schema; trees = db }) (whole_query q) params rows × Stops (edit rows) stop

    module _ (q : Query) (fits : accepts_over schema [] q params ≡ true) (flat : has_no_fold q.from ≡ true) (alone : is_none q.group ≡ true) where
      abbrev database : Database
      database = record { schema = schema; trees = db }

      asked : (e : Error) → ¬ RefusesQuery limit database (whole_query q) params e
      asked e h = never_refused limit (Select (whole_query q) []) q [] database params e unlimited refl fits flat alone h

      pub updated : (stop : Option Error) → Updates task (whole_query q) params db (Err stop) → StopsAt q (λ rows. edit_of db table (ids_of rows) Given 1 rows) stop
      updated stop (inl (None, bad, is)) = absurd bad
      updated stop (inl (Some e, refused, is)) = absurd (asked e refused)
      updated stop (inr (rows, shown, inl (s, h, is))) =
          let edit = edit_of db table (ids_of rows) Given 1 rows in (rows, shown, subst (Stops edit) (let same : s ≡ stop = cc in same) (edited_stops edit (childless (taken_by db edit) edit.news) s h))
      updated stop (inr (rows, shown, inr (next, wrote, gives))) = absurd (let e = gives in cc)

      pub deleted : (stop : Option Error) → Deletes task (whole_query q) db (Err stop) → StopsAt q (λ rows. edit_of db table (ids_of rows) Given 0 []) stop
      deleted stop (inl (None, bad, is)) = absurd bad
      deleted stop (inl (Some e, refused, is)) = absurd (asked e refused)
      deleted stop (inr (rows, shown, inl (s, h, is))) =
          let edit = edit_of db table (ids_of rows) Given 0 [] in (rows, shown, subst (Stops edit) (let same : s ≡ stop = cc in same) (edited_stops edit (childless (taken_by db edit) edit.news) s h))
      deleted stop (inr (rows, shown, inr (next, wrote, gives))) = absurd (let e = gives in cc)

-- ---- the text is one statement that writes rows

abbrev pub writes_rows : Command → Bool
writes_rows (Insert at from) = true
writes_rows (Update at q) = true
writes_rows (Delete at q) = true
writes_rows _ = false

shows_nothing : (command : Command) → writes_rows command ≡ true → (is_query command || (true && (is_pragma command || false))) ≡ false
shows_nothing (Insert at from) h = refl
shows_nothing (Update at q) h = refl
shows_nothing (Delete at q) h = refl
shows_nothing _ h = absurd (let e = h in cc)

-- a fault of this call, or what stops the change: a row that is too big, or a rule of the tables
abbrev pub EndsBy : State → State → (Option Error → Type 0) → Error → Type 0
EndsBy old new Stopped e = IsFault old new e ⊎ (((e ≡ SqliteFailure TooBig) × Stopped None) ⊎ (IsTrue old.is_open × Stopped (Some e)))

fails_by : (old new : State) (Big : Type 0) (e : Error) → Fails old new Big e → IsFault old new e ⊎ ((e ≡ SqliteFailure TooBig) × Big)
fails_by old new Big e (OutOfMemory, is, cause, undone, told) = inl (fault_of old new e (OutOfMemory, is, cause, undone, told))
fails_by old new Big e (Io, is, cause, undone, told) = inl (fault_of old new e (Io, is, cause, undone, told))
fails_by old new Big e (Corrupt, is, cause, undone, told) = inl (fault_of old new e (Corrupt, is, cause, undone, told))
fails_by old new Big e (Full, is, cause, undone, told) = inl (fault_of old new e (Full, is, cause, undone, told))
fails_by old new Big e (Broken, is, cause, undone, told) = inl (fault_of old new e (Broken, is, cause, undone, told))
fails_by old new Big e (Unstorable, is, cause, undone, told) = inr (is, cause)

module _ (schema : Schema) (sql : List ℕ) (params : Row) (old new : State) (has : old.now.schema ≡ schema) (plain : IsPlain (understood schema sql))
    (whole : is_whole (length sql) (length params) (understood schema sql) ≡ true) (command : Command) (is_command : command_of (understood schema sql) ≡ command) (writes : writes_rows command ≡ true) where
  never : (other : Command) → writes_rows other ≡ false → (c : Command) → c ≡ command → ¬ (c ≡ other)
  never other not_rows c same it = let bad : true ≡ false = sym writes ∙ ap writes_rows (sym same ∙ it) ∙ not_rows in cc

  within : (c : Command) → c ≡ command → ¬ Escapes 0 old c
  within c same (inl (inl it)) = never Commit refl c same it
  within c same (inl (inr it)) = never Rollback refl c same it
  within c same (inr (name, inl it, held)) = never (Release name) refl c same it
  within c same (inr (name, inr it, held)) = never (RollbackTo name) refl c same it

  placed : (c : Command) → c ≡ command → (e : Error) → ¬ IsMisplaced old c e
  placed c same e (inl (is, inl (it, inside))) = never Begin refl c same it
  placed c same e (inl (is, inr (inl it, outside))) = never Commit refl c same it
  placed c same e (inl (is, inr (inr it, outside))) = never Rollback refl c same it
  placed c same e (inr (is, name, inl it, unnamed)) = never (Release name) refl c same it
  placed c same e (inr (is, name, inr it, unnamed)) = never (RollbackTo name) refl c same it

  module _ (Stopped : Option Error → Type 0)
      (stops : (text : List ℕ) (stop : Option Error) → Does old.step_limit (mode_of old) params (record old.now { schema = schema }) text None command (Err stop) → Stopped stop) where
    does : (text : List ℕ) (stop : Option Error) → Does old.step_limit (mode_of old) params old.now text None command (Err stop) → Stopped stop
    does text stop h = stops text stop (subst (λ s. Does old.step_limit (mode_of old) params (record old.now { schema = s }) text None command (Err stop)) has h)

    ended : (c : Compiled) → c.command ≡ command → c.returning ≡ None → (e : Error) → RunsCommand old new sql c params (Err e) → EndsBy old new Stopped e
    ended c same none e (inl (inl misplaced, kept)) = absurd (placed c.command same e misplaced)
    ended c same none e (inl (inr (may, h), kept)) =
        inr (inr (kept.0.was_open, does (text_of sql c) (Some e) (subst₂ (λ r k. Does old.step_limit (mode_of old) params old.now (text_of sql c) r k (Err (Some e))) none same h)))
    ended c same none e (inr fails) = elim (fails_by old new _ e fails) [
      | inl fault ↦ inl fault
      | inr big ↦ inr (inl (big.0, does (text_of sql c) None (subst₂ (λ r k. Does old.step_limit (mode_of old) params old.now (text_of sql c) r k (Err None)) none same big.1)))
    ]

    pub failed : (e : Error) → ExecutesInside 0 sql params old new (Err e) → EndsBy old new Stopped e
    unfolding ExecutesIn EndsScope IsNotRun
    failed e (inr ((c, it, escapes), is, kept)) = absurd (within c.command (ap command_of (sym it.is ∙ ap (λ s. understood s sql) has) ∙ is_command) escapes)
    failed e (inl (inl (inl none), kept)) = absurd (runs_on schema sql params old e has whole plain none.0)
    failed e (inl (inl (inr fails), kept)) = inl (fault_of old new e fails)
    failed e (inl (inr (c, it, ran), kept)) =
        let known = sym it.is ∙ ap (λ s. understood s sql) has in
        let bare = subst IsPlain (sym known) plain in
        let same = ap command_of known ∙ is_command in
        let hidden : shows_rows false c ≡ false = ap₂ (λ k r. is_query k || (true && (is_pragma k || is_some r))) same bare.0 ∙ shows_nothing command writes in
        ended c same bare.0 e (rw (hidden, bare.1, append-nil params) at ran)
