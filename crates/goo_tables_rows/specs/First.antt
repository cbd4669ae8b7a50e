-- The tables of version 1, and what a read of a whole table says of them.
use Rattle.std.specs.Prelude.{◌≡◌, ◌⊎◌, ◌≤◌, ◌||◌, cond, nat_eq, [], None, Result, IfOk, IfErr, OnOk, IsTrue}
use Rattle.sqlite.specs.State.{State, HasCleanDisk, Survives}
use Rattle.sqlite.specs.Tree.{Trees}
use Rattle.sqlite.specs.Effect.{Database, IsDatabase}
use Rattle.sqlite.specs.declared.error.Error.{Error}
use Rattle.sqlite_trees.specs.View.{doubt}
use Rattle.goo_tables_rows.specs.Columns.{first_schema}
use Rattle.goo_tables_rows.specs.Met.{IsInKeyOrder}
use Rattle.goo_tables_rows.specs.Readable.{is_read_error}
use Rattle.goo_tables_rows.specs.Refused.{IsFault}
use Rattle.goo_tables_rows.specs.Rows.{Tables}
use Rattle.goo_tables_rows.specs.Stands.{Holds, Rests, IsSettled}

-- the trees as they are with the last three tables, and no row in them
abbrev pub with_none : Trees → Trees
with_none trees tree = cond (nat_eq tree 22 || (nat_eq tree 23 || nat_eq tree 25)) [] (trees tree)

-- the database holds the tables of version 1, which are these with no row in the last three
abbrev pub IsFirst : Database → Tables → Type 0
IsFirst db t = (db.schema ≡ first_schema) × Holds t (with_none db.trees)

-- the tables of version 1 with whatever rows, as `HasOurTables`
pub record HasFirstTables (db : Database) : Type 0 where
  pub schema : db.schema ≡ first_schema
  pub ordered : IsInKeyOrder db
  pub sound : IsDatabase db

-- a look-up on tables of version 1, as `Looks`
pub record LooksFirst {T : Type 0} (old new : State) (result : Result T Error) (right : Tables → T → Type 0) : Type 0 where
  pub found : HasCleanDisk new → (t : Tables) → IsFirst old.now t → IfOk result (right t)
  pub clean : doubt old.is_clean ≤ doubt new.is_clean
  pub works : OnOk result (HasCleanDisk new → IsTrue new.is_open)
  pub was_open : HasCleanDisk new → IsTrue new.is_open → IsTrue old.is_open
  pub rests : HasCleanDisk new → old.now.schema ≡ first_schema → IsSettled old → Rests old new
  pub crash : old.now.schema ≡ first_schema → Survives old new (λ _. ⊥)

-- A read of a whole table of version 1: what it finds is right of the tables, whatever their rows it is what the table `Shows`,
-- and an error is a fault of memory or of the store, or tells of a value that can't be read, which is none where all `CanBeRead`.
pub record ReadsFirst {T : Type 0} (old new : State) (result : Result T Error) (right : Tables → T → Type 0) (Shows : Database → T → Type 0) (CanBeRead : Tables → Type 0) : Type 0 where
  pub looks : LooksFirst old new result right
  pub met : HasCleanDisk new → HasFirstTables old.now → IfOk result (Shows old.now)
  pub refused : HasCleanDisk new → old.now.schema ≡ first_schema → old.step_limit ≡ None → IfErr result (λ e. IsFault old new e ⊎ IsTrue (is_read_error e))
  pub readable : HasCleanDisk new → old.step_limit ≡ None → (t : Tables) → IsFirst old.now t → CanBeRead t → IfErr result (IsFault old new)
