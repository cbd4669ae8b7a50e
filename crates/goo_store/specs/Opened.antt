-- What opening the registry of a database promises.
use Rattle.std.specs.Prelude.{◌≡◌, ◌⊎◌, IsTrue}
use Rattle.sqlite_trees.specs.declared.store.Store.{Ghosts}
use Rattle.sqlite.specs.State.{State, HasCleanDisk}
use Rattle.goo_core_shelf.specs.Shelf.{IsReady}
use Rattle.goo_ranges_rows.specs.Rows.{AreRowsOf}
use Rattle.goo_spec.specs.Runs.{IsApart}
use Rattle.goo_spec.specs.Sound.{IsSound}
use Rattle.goo_spec.specs.State as registry
use Rattle.goo_spec_tables.specs.Kept.{AreKept, AreKeptIn}
use Rattle.goo_spec_tables.specs.Renewed.{renewed}
use Rattle.goo_spec_tables.specs.States.{state_of}
use Rattle.goo_store_judge.specs.Moments.{OpensAsEither}
use Rattle.goo_tables_rows.specs.Columns.{first_schema}
use Rattle.goo_tables_rows.specs.First.{IsFirst}
use Rattle.goo_tables_rows.specs.Rows.{Tables}
use Rattle.goo_tables_rows.specs.Stands.{Stands, Rests, Settled}
pub use Rattle.goo_store_opening.specs.UpToDate.{IsNotOpened}
use Rattle.goo_store.specs.Seen.{database_of, seen_by}
use Rattle.goo_store_opening.specs.Versions.{state_held}
use Rattle.goo_store.specs.declared.sql_shelf.SqlShelf.{SqlShelf}

-- a shelf that was opened over a database
pub record IsOpened {S : Type 0} {g : Ghosts S} (before : State) (shelf : SqlShelf S g) : Type 0 where
  -- its state is that of the database's tables of version 2
  pub state : (t : Tables) → Stands before.now t → (seen_by shelf).defects ≡ 0 → (seen_by shelf).state ≡ state_of t
  -- or that of its tables of version 1
  pub same_state : (t : Tables) → IsFirst before.now t → (seen_by shelf).defects ≡ 0 → (seen_by shelf).state ≡ state_of t
  -- in one word: that of the tables of the version that they tell
  pub held : (seen_by shelf).defects ≡ 0 → (seen_by shelf).state ≡ state_held before.now.trees
  -- the state is sound
  pub sound : (seen_by shelf).defects ≡ 0 → IsSound (seen_by shelf).state
  -- the rows are those of the certificates
  pub rows_fit : (seen_by shelf).defects ≡ 0 → AreRowsOf (seen_by shelf).state.at (seen_by shelf).rows
  -- and are runs: two that touch have another lot or another place
  pub apart : (seen_by shelf).defects ≡ 0 → IsApart (seen_by shelf).rows
  -- it is at work, and a crash finds the state
  pub ready : IsReady (seen_by shelf)
  -- tables of version 2 are opened only where they keep the rules
  pub kept : (t : Tables) → Stands before.now t → HasCleanDisk (database_of shelf) → AreKept t
  -- and stay as they are
  pub rests : (before.now.schema ≡ first_schema → ⊥) → HasCleanDisk (database_of shelf) → Rests before (database_of shelf)
  -- tables of version 1 are opened only where they keep the rules of that version, and are committed as those of version 2
  pub renewed : (t : Tables) → IsFirst before.now t → HasCleanDisk (database_of shelf) → AreKeptIn 1 t × Settled (database_of shelf) (renewed t)
  -- no corruption by the disk is forgotten
  pub clean : HasCleanDisk (database_of shelf) → HasCleanDisk before
  -- what a crash left of a registry, which opens as one of two states, is opened as one of them
  pub again : IsTrue before.is_open → (s t : registry.State) → OpensAsEither before.now.trees s t → (seen_by shelf).defects ≡ 0 → ((seen_by shelf).state ≡ s) ⊎ ((seen_by shelf).state ≡ t)
