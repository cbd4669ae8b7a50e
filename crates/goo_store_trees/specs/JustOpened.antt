-- A connection that was just opened.
use Rattle.sqlite_trees.specs.declared.store.Store.{Ghosts}
use Rattle.sqlite.specs.Held.{Held, IsNew, state}
use Rattle.sqlite.specs.State.{HasCleanDisk, IsLive, Opens}
use Rattle.goo_tables_rows.specs.Met.{IsInKeyOrder}

-- nothing waits for a commit, and while its disk has returned what was written, it shows a database with the rows of each table in order
pub record IsJustOpened {S : Type 0} (g : Ghosts S) (c : Held S) : Type 0 where
  pub fresh : IsNew c
  pub opened : HasCleanDisk (state g c) → Opens (state g c) × IsLive (state g c)
  pub ordered : HasCleanDisk (state g c) → IsInKeyOrder (state g c).now
