-- What INSERT and DELETE do to the trees, for any table without counters or foreign keys.
use Rattle.std.proofs.Common.{◌≡◌, ◌⊎◌, inl, inr, ℕ, ◌/◌, List, [], length, slice_get, Option, Some, None, Ok, Err, Result, sym, ap, subst, subst₂, ◌∙◌, append-nil, unwrap_or}
use Rattle.sqlite.specs.Order.{Row}
use Rattle.sqlite_schema.specs.declared.schema.Column.{Column}
use Rattle.sqlite_schema.specs.declared.schema.Keys.TheVariants.{Enforced}
use Rattle.sqlite_schema.specs.declared.program.Program.{Program}
use Rattle.sqlite_value.specs.declared.keys.Order.{Order}
use Rattle.sqlite.specs.Term.{Term}
use Rattle.sqlite.specs.Table.{Table}
use Rattle.sqlite.specs.Schema.{Schema}
use Rattle.sqlite.specs.Source.TheVariants.{Values}
use Rattle.sqlite.specs.Command.TheVariants.{Insert, Delete, Update}
use Rattle.sqlite.specs.Edit.{Edit, edit_of, taken_by, Applies}
use Rattle.sqlite_rules.specs.Action.{works}
use Rattle.sqlite_rules.specs.Calls.{ids_of}
use Rattle.sqlite.specs.Rowids.TheVariants.{Chosen, Given}
use Rattle.sqlite.specs.Does.{Tally, Does, AtPlace, OnRows}
use Rattle.sqlite.specs.Rows.{Written, Task}
use Rattle.sqlite.specs.Tree.{Trees}
use Rattle.sqlite.specs.Listing.{understood}
use Rattle.sqlite.specs.Effect.{Database, value_rows, Answers}
use Rattle.sqlite.specs.State.{State, mode_of, Executes}
use Rattle.sqlite.proofs.Callers.{IsPlain, command_of, statement_of, runs_as, one_step}
use Rattle.goo_tables_rows.specs.Columns.{strict_table}

-- a part that gave a value did not stop on the way
pub went : {B E R : Type 0} {b : B} {Stops : E → Type 0} → ((stop : E) × Stops stop × (Ok b ≡ Err stop)) ⊎ R → R
went (inl stopped) = absurd (let e = stopped.2 in cc)
went (inr on) = on

pub same_value : {B E : Type 0} {a b : B} → ◌≡◌ {A = Result B E} (Ok a) (Ok b) → a ≡ b
same_value e = cc

module _ (schema : Schema) (at : ℕ) (name : List ℕ) (tree : ℕ) (key : Option ℕ) (primary : List ℕ) (uniques : List (List ℕ)) (orders : List Order) (columns : List Column)
    (found : slice_get schema.tables at ≡ Some (strict_table name tree key primary uniques orders columns)) (childless : (olds news : List Row) → works schema Enforced 0 tree olds news ≡ []) where
  abbrev table : Table
  table = strict_table name tree key primary uniques orders columns

  module _ (sql : List ℕ) (params : Row) (old new : State) (has : old.now.schema ≡ schema) (plain : IsPlain (understood schema sql)) where
    abbrev db : Trees
    db = old.now.trees

    -- the schema stays, and the edit is made
    pub record Edits (edit : Edit) : Type 0 where
      pub schema_is : new.now.schema ≡ schema
      pub applied : Applies schema Enforced db edit new.now.trees

    abbrev task : Task
    task = record { limit = old.step_limit; keys = Enforced; schema = schema; table = table; params = params }

    pub inserts : (terms : List Term) (width : ℕ) → command_of (understood schema sql) ≡ Insert at (Values terms width) → (count : ℕ) → Executes sql params old new (Ok count)
        → Edits (edit_of db table [] Chosen 0 (value_rows params width (length terms / width) terms))
    inserts terms width is count h =
        let command = Insert at (Values terms width) in
        let w = runs_as sql params old new schema has command is plain count h in
        let text = statement_of sql (understood schema sql) in
        let placed = subst (λ s. Does old.step_limit (mode_of old) params (record old.now { schema = s }) text None command (Ok (w.tally, new.now))) has w.changed in
        let done = went (subst (λ f. AtPlace (λ t. OnRows (record task { table = t }) (mode_of old) None command db) f (Ok (w.tally, new.now))) found placed) in
        let now = ap (λ (p : Tally × Database). p.1) (same_value (went (went done.2).2).2) in
        let given = went done.1 in
        let written = went (went given.2).2 in
        let counted = went written.2 in
        let trees : done.0.trees ≡ written.0 = ap (λ (it : Written). it.trees) (same_value counted.2) ∙ same_value counted.1 in
        let edit = edit_of db table [] Chosen 0 given.0 in
        let step = one_step schema Enforced db written.0 edit (childless (taken_by db edit) edit.news) written.1 in
        let rows : given.0 ≡ value_rows params width (length terms / width) terms = given.1.1 ∙ ap (λ p. value_rows p width (length terms / width) terms) (append-nil params) in
        record {
          schema_is = ap (λ (d : Database). d.schema) now;
          applied = subst₂ (λ all t. Applies schema Enforced db (edit_of db table [] Chosen 0 all) t) rows (sym (ap (λ (d : Database). d.trees) now ∙ trees)) step;
        }

    pub deletes : (q : Program) → command_of (understood schema sql) ≡ Delete at q → (count : ℕ) → Executes sql params old new (Ok count)
        → (rows : List Row) × Answers (record { schema = schema; trees = db }) q params rows × Edits (edit_of db table (ids_of rows) Given 0 [])
    deletes q is count h =
        let command = Delete at q in
        let w = runs_as sql params old new schema has command is plain count h in
        let text = statement_of sql (understood schema sql) in
        let placed = subst (λ s. Does old.step_limit (mode_of old) params (record old.now { schema = s }) text None command (Ok (w.tally, new.now))) has w.changed in
        let done = went (subst (λ f. AtPlace (λ t. OnRows (record task { table = t }) (mode_of old) None command db) f (Ok (w.tally, new.now))) found placed) in
        let now = ap (λ (p : Tally × Database). p.1) (same_value (went (went done.2).2).2) in
        let given = went done.1 in
        let written = went given.2 in
        let trees : done.0.trees ≡ written.0 = ap (λ (it : Written). it.trees) (same_value written.2) in
        let edit = edit_of db table (ids_of given.0) Given 0 [] in
        let step = one_step schema Enforced db written.0 edit (childless (taken_by db edit) edit.news) written.1 in
        (given.0, given.1, record { schema_is = ap (λ (d : Database). d.schema) now; applied = subst (Applies schema Enforced db edit) (sym (ap (λ (d : Database). d.trees) now ∙ trees)) step })

    pub updates : (q : Program) → command_of (understood schema sql) ≡ Update at q → (count : ℕ) → Executes sql params old new (Ok count)
        → (rows : List Row) × Answers (record { schema = schema; trees = db }) q params rows × Edits (edit_of db table (ids_of rows) Given 1 rows) × (count ≡ length (edit_of db table (ids_of rows) Given 1 rows).news)
    updates q is count h =
        let command = Update at q in
        let w = runs_as sql params old new schema has command is plain count h in
        let text = statement_of sql (understood schema sql) in
        let placed = subst (λ s. Does old.step_limit (mode_of old) params (record old.now { schema = s }) text None command (Ok (w.tally, new.now))) has w.changed in
        let done = went (subst (λ f. AtPlace (λ t. OnRows (record task { table = t }) (mode_of old) None command db) f (Ok (w.tally, new.now))) found placed) in
        let now = ap (λ (p : Tally × Database). p.1) (same_value (went (went done.2).2).2) in
        let given = went done.1 in
        let written = went given.2 in
        let trees : done.0.trees ≡ written.0 = ap (λ (it : Written). it.trees) (same_value written.2) in
        let edit = edit_of db table (ids_of given.0) Given 1 given.0 in
        let step = one_step schema Enforced db written.0 edit (childless (taken_by db edit) edit.news) written.1 in
        let counted = w.counted ∙ ap (λ (p : Tally × Database). unwrap_or p.0.rows 0) (same_value (went (went done.2).2).2) ∙ ap (λ (it : Written). length it.rows) (same_value written.2) in
        (given.0, given.1, record { schema_is = ap (λ (d : Database). d.schema) now; applied = subst (Applies schema Enforced db edit) (sym (ap (λ (d : Database). d.trees) now ∙ trees)) step }, counted)
