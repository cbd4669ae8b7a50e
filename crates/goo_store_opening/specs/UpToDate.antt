-- What judging the tables of a database, and renewing them, promises.
use Rattle.std.specs.Prelude.{◌≡◌, ◌⊎◌, None, IsTrue}
use Rattle.sqlite.specs.State.{State, HasCleanDisk, IsLive}
use Rattle.sqlite.specs.Tree.{Trees}
use Rattle.goo_spec.specs.State as registry
use Rattle.goo_spec_tables.specs.Kept.{AreKept, AreKeptIn}
use Rattle.goo_spec_tables.specs.Renewed.{renewed}
use Rattle.goo_spec_tables.specs.States.{state_of}
use Rattle.goo_store_judge.specs.Moments.{IsWell, OpensAsEither, tables_in}
use Rattle.goo_store_judge.specs.Opening.{BlamesOpening, IsRefusal, IsRefusalIn}
use Rattle.goo_store_open.specs.Foreign.{LacksMeta, TellsVersion}
use Rattle.goo_store_open.specs.Found.{IsOutside}
use Rattle.goo_store_open.specs.declared.fault.OpenFault.{OpenFault}
use Rattle.goo_tables_rows.specs.Columns.{registry_schema, first_schema}
use Rattle.goo_tables_rows.specs.First.{IsFirst}
use Rattle.goo_tables_rows.specs.Rows.{Tables}
use Rattle.goo_tables_rows.specs.Stands.{Stands, Rests, Settled, defects}
use Rattle.goo_store_opening.specs.FirstTables.{HoldsRenewed}
use Rattle.goo_store_opening.specs.Versions.{state_held}

-- a database whose tables keep the rules, once those of version 1 were renewed
pub record IsUpToDate (before after : State) : Type 0 where
  -- its state is that of its tables of version 2
  pub state : (t : Tables) → Stands before.now t → defects after ≡ 0 → state_of (tables_in after) ≡ state_of t
  -- or that of its tables of version 1
  pub same_state : (t : Tables) → IsFirst before.now t → defects after ≡ 0 → state_of (tables_in after) ≡ state_of t
  -- in one word: that of the tables of the version that they tell
  pub held : defects after ≡ 0 → state_of (tables_in after) ≡ state_held before.now.trees
  -- tables of version 2 are accepted only where they keep the rules
  pub kept : (t : Tables) → Stands before.now t → HasCleanDisk after → AreKept t
  -- and stay as they are
  pub rests : (before.now.schema ≡ first_schema → ⊥) → HasCleanDisk after → Rests before after
  -- tables of version 1 are accepted only where they keep the rules of that version, and are committed as those of version 2
  pub renewed : (t : Tables) → IsFirst before.now t → HasCleanDisk after → AreKeptIn 1 t × Settled after (renewed t)
  -- no corruption by the disk is forgotten
  pub clean : HasCleanDisk after → HasCleanDisk before
  -- the connection works
  pub works : HasCleanDisk after → IsTrue after.is_open
  -- a shelf may stand over it
  pub well : IsLive after → IsWell after
  -- what a crash left of a registry, which opens as one of two states, is accepted as one of them
  pub again : IsTrue before.is_open → (s t : registry.State) → OpensAsEither before.now.trees s t → defects after ≡ 0 → (state_of (tables_in after) ≡ s) ⊎ (state_of (tables_in after) ≡ t)

-- a database over which no registry was opened, and the word for it
pub record IsNotOpened (before after : State) (fault : OpenFault) : Type 0 where
  -- tables of version 2 that keep the rules are refused for want of memory or a fault of the store alone
  pub refused : HasCleanDisk after → before.step_limit ≡ None → (t : Tables) → Stands before.now t → AreKept t → IsOutside fault
  -- the word for tables of version 2
  pub words : HasCleanDisk after → before.step_limit ≡ None → (t : Tables) → Stands before.now t → IsRefusal t fault
  -- and for those of version 1
  pub old_words : HasCleanDisk after → before.step_limit ≡ None → (t : Tables) → IsFirst before.now t → IsRefusalIn 1 t fault
  -- the version is told of other tables
  pub version : (before.now.schema ≡ registry_schema → ⊥) → (before.now.schema ≡ first_schema → ⊥) → (LacksMeta before.now.schema → ⊥) → HasCleanDisk after → TellsVersion before after fault
  -- a fault of the store is told only where the disk failed
  pub blames : before.now.schema ≡ registry_schema → BlamesOpening before after fault
  -- what the database holds stays
  pub unchanged : HasCleanDisk after → Rests before after
  -- no corruption by the disk is forgotten
  pub clean_before : HasCleanDisk after → HasCleanDisk before
  -- a crash finds what it would have found
  pub crash : (before.now.schema ≡ first_schema → ⊥) → HasCleanDisk after → (db : Trees) → after.may_leave db → before.may_leave db
  -- or version 1 renewed
  pub left : HasCleanDisk after → (db : Trees) → after.may_leave db → before.may_leave db ⊎ HoldsRenewed before.now db
  -- what a crash left of a registry is never told as something else
  pub never_foreign : IsTrue before.is_open → before.step_limit ≡ None → (s t : registry.State) → OpensAsEither before.now.trees s t → HasCleanDisk after → IsOutside fault
