-- Why files are not opened as a registry, or why none is made in them.
use Rattle.std.specs.Prelude.{◌≡◌, ◌≢◌, ◌⊎◌, None}
use Rattle.sqlite_disk.specs.declared.Disk.{Ghosts}
use Rattle.sqlite_disk.specs.declared.Files.{Files}
use Rattle.sqlite_store.specs.declared.store.FileStore.{FileStore}
use Rattle.sqlite.specs.Files.{file_state, Finds, IsOpened}
use Rattle.sqlite.specs.Held.{Held}
use Rattle.sqlite.specs.State.{HasCleanDisk}
use Rattle.sqlite.specs.declared.file.Leftover.{Leftover}
use Rattle.goo_tables_rows.specs.Columns.{no_schema}
use Rattle.goo_store_open.specs.Foreign.{LacksMeta}
use Rattle.goo_store_open.specs.declared.fault.OpenFault.{OpenFault}
use Rattle.goo_store_open.specs.declared.fault.OpenFault.TheVariants.{NotARegistry}
use Rattle.goo_store_opening.specs.UpToDate.{IsNotOpened}
use Rattle.goo_cli_ending.specs.declared.ending.Ending.{Ending}
use Rattle.goo_cli_ending.specs.declared.ending.Ending.TheVariants as ending
use Rattle.goo_cli_ending.specs.declared.ending.NotDone.TheVariants as denial
use Rattle.goo_cli_ending.specs.declared.ending.Failure.{Failure}
use Rattle.goo_cli_ending.specs.declared.ending.Failure.TheVariants as failure
use Rattle.goo_cli_registry.specs.Closings.{LeavesRegistry}
use Rattle.goo_cli_registry.specs.Openings.{failure_of_opening, IsBlamed}
use Rattle.goo_cli_registry.specs.declared.closing.Left.{Left}
use Rattle.goo_cli_registry.specs.declared.closing.Left.TheVariants as left

module _ {D : Type 0} {g : Ghosts D} (files : Files D) where
  -- a connection that was opened over these files: it shows the database that they hold, or an empty one where they hold nothing
  pub record IsOver (conn : Held (FileStore D g)) : Type 0 where
    pub finds : Finds files conn
    pub opened : IsOpened conn
    pub unlimited : conn.step_limit ≡ None

module _ {D : Type 0} (g : Ghosts D) (files : Files D) where
  -- The database of these files is not opened as a registry, with this word for it: by the tables that it has, their version and the rules
  -- that they break (`IsNotOpened`), from the connection before to the connection after.
  pub record IsUnfit (fault : OpenFault) : Type 0 where
    pub before : Held (FileStore D g)
    pub after : Held (FileStore D g)
    pub over : IsOver files before
    pub clean : HasCleanDisk (file_state after)
    pub lacking : LacksMeta (file_state before).now.schema → fault ≡ NotARegistry
    pub why : IsNotOpened (file_state before) (file_state after) fault

  -- the database of these files has a table, an index or a view
  abbrev pub IsTaken : Type 0
  IsTaken = (conn : Held (FileStore D g)) × IsOver files conn × ((file_state conn).now.schema ≢ no_schema)

  -- It has none. `conn` is over these files only while they return what was written: nothing is said of them where they did not.
  abbrev pub IsVacant : Type 0
  IsVacant = (conn : Held (FileStore D g)) × (HasCleanDisk (file_state conn) → IsOver files conn) × (¬ ((file_state conn).now.schema ≢ no_schema))

module _ {D : Type 0} {g : Ghosts D} (files : Files D) where
  -- Why no registry was opened: the word for the database that the files hold; or a fault of the store, where a call failed or they hold no
  -- database; or want of memory.
  abbrev pub TellsWhy : Leftover D g → Failure → Type 0
  TellsWhy rest told =
      ((fault : OpenFault) × (told ≡ failure_of_opening fault) × IsUnfit g files fault)
      ⊎ (((told ≡ failure.Store) × IsBlamed files rest) ⊎ (told ≡ failure.Memory))

  -- no registry was opened: why is told, and no harm came to what the files held
  pub record IsTurnedAway (told : Ending) (rest : Leftover D g) : Type 0 where
    pub failure : Failure
    pub tells : told ≡ ending.Failed failure
    pub why : TellsWhy rest failure
    pub unharmed : LeavesRegistry files rest

  -- they could not be opened as a database
  abbrev pub AreBlamed : Left D g → Type 0
  AreBlamed (left.Whole now) = ⊥
  AreBlamed (left.Refused rest) = ⊥
  AreBlamed (left.Parts rest) = IsBlamed files rest

  -- what is told of the making of a registry: that one is there already just where the database has a table; a fault of the store where it
  -- has none, or where a call failed or they hold no database
  abbrev pub TellsMaking : Ending → Left D g → Type 0
  TellsMaking ending.Done rest = IsVacant g files
  TellsMaking ending.PartlyDone rest = ⊥
  TellsMaking (ending.Denied denial.AlreadyThere) rest = IsTaken g files
  TellsMaking (ending.Denied denial.UnknownAccount) rest = ⊥
  TellsMaking (ending.Denied denial.Header) rest = ⊥
  TellsMaking (ending.Words error) rest = ⊥
  TellsMaking (ending.Misused reason) rest = ⊥
  TellsMaking (ending.Failed failure.Store) rest = AreBlamed rest ⊎ IsVacant g files
  TellsMaking (ending.Failed failure.Memory) rest = Unit {0}
  TellsMaking (ending.Failed failure.Write) rest = IsVacant g files
  TellsMaking (ending.Failed failure.Read) rest = ⊥
  TellsMaking (ending.Failed failure.NotARegistry) rest = ⊥
  TellsMaking (ending.Failed (failure.Version version)) rest = ⊥
  TellsMaking (ending.Failed failure.Damaged) rest = ⊥
