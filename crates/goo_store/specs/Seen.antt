-- A shelf over a database, as clauses name it.
use Rattle.std.specs.Prelude.{Result}
use Rattle.sqlite_trees.specs.declared.store.Store.{Ghosts}
use Rattle.sqlite.specs.Held.{state as view}
use Rattle.sqlite.specs.State.{State}
use Rattle.goo_types.specs.declared.fault.Fault.{Fault}
use Rattle.goo_core_shelf.specs.Shelf.{Moment}
use Rattle.goo_tables_rows.specs.Rows.{Tables}
use Rattle.goo_store_judge.specs.Moments.{moment}
use Rattle.goo_store_judge.specs.StoreFaults.{BlamesStore}
use Rattle.goo_store.specs.Gathering.{BlamesCommit}
use Rattle.goo_store.specs.declared.sql_shelf.SqlShelf.{SqlShelf}

-- the database of a shelf, as its connection sees it
abbrev pub database_of : {S : Type 0} {g : Ghosts S} → SqlShelf S g → State
database_of {S} {g} shelf = view g shelf.conn

-- what the shelf keeps, and how well
abbrev pub seen_by : {S : Type 0} {g : Ghosts S} → SqlShelf S g → Moment
seen_by shelf = moment (database_of shelf) shelf.refused

-- a look-up answers `Store` only where the disk failed in it
abbrev pub Blames : {S : Type 0} {g : Ghosts S} {T : Type 0} → SqlShelf S g → SqlShelf S g → Result T Fault → Type 0
Blames old new result = BlamesStore (database_of old) (database_of new) old.refused result

-- so does a commit, over tables that have what is needed
abbrev pub BlamesPlan : {S : Type 0} {g : Ghosts S} {T : Type 0} → SqlShelf S g → SqlShelf S g → Result T Fault → (Tables → Type 0) → Type 0
BlamesPlan old new result HaveNeeds = BlamesCommit (database_of old) (database_of new) old.refused result HaveNeeds
