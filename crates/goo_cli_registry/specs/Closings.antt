-- What is left of the files of a registry.
use Rattle.std.specs.Prelude.{◌≡◌, ◌⊎◌, Bool, true, false, Some}
use Rattle.sqlite_disk.specs.declared.Disk.{Ghosts}
use Rattle.sqlite_disk.specs.declared.Files.{Files}
use Rattle.sqlite_store.specs.FileStore.{recovers}
use Rattle.sqlite_wal.specs.Files.{outcomes}
use Rattle.sqlite_wal.specs.Reads.{AreClean}
use Rattle.sqlite_wal.specs.Recovery.{Image}
use Rattle.sqlite.specs.Tree.{Trees}
use Rattle.sqlite.specs.Files.{image_of, AreFound, HoldsDatabase, IsCleanLeft, LeavesFiles}
use Rattle.sqlite.specs.Closing.{HoldsAlone, files_left}
use Rattle.sqlite.specs.declared.file.Leftover.{Leftover}
use Rattle.sqlite.specs.declared.file.Leftover.TheVariants as rest
use Rattle.goo_spec.specs.State.{State}
use Rattle.goo_tables_rows.specs.Rows.{tables_of}
use Rattle.goo_store_judge.specs.Moments.{OpensAs}
use Rattle.goo_store_opening.specs.Versions.{state_held}
use Rattle.goo_cli_disk.specs.Spare.{NeedNoLog}
use Rattle.goo_cli_registry.specs.declared.closing.Left.{Left}
use Rattle.goo_cli_registry.specs.declared.closing.Left.TheVariants as left

-- The files hold a registry of this state, and so does the database file with no log, as they read now and whatever a crash leaves of them.
pub record HoldRegistry {D : Type 0} (g : Ghosts D) (files : Files D) (s : State) : Type 0 where
  pub db : Trees
  pub opens : OpensAs db (Some s)
  pub seen : HoldsAlone (image_of g files) db
  pub left : (image : Image) → outcomes g files.log files.db image → HoldsAlone image db

-- files that have returned what was written do so
abbrev pub HoldState : {D : Type 0} → Ghosts D → Files D → State → Type 0
HoldState g files s = AreClean g files.log files.db → HoldRegistry g files s

module _ {D : Type 0} {g : Ghosts D} where
  -- the files have returned what was written
  abbrev pub IsClean : Left D g → Type 0
  IsClean (left.Whole files) = AreClean g files.log files.db
  IsClean (left.Refused rest) = IsCleanLeft rest
  IsClean (left.Parts rest) = IsCleanLeft rest

  -- where the log was copied
  abbrev pub IfWhole : Left D g → (Files D → Type 0) → Type 0
  IfWhole (left.Whole files) holds = holds files
  IfWhole (left.Refused rest) holds = Unit {0}
  IfWhole (left.Parts rest) holds = Unit {0}

  -- where the log was copied, the database file holds a state of which this is so
  abbrev pub HoldsSome : Left D g → (State → Type 0) → Type 0
  HoldsSome rest right = IfWhole rest (λ files. AreClean g files.log files.db → (s : State) × right s × HoldRegistry g files s)

  -- a log that is said to be copied into the database file is
  abbrev pub HasSpareLog : Left D g → Type 0
  HasSpareLog rest = IfWhole rest (λ files. AreClean g files.log files.db → NeedNoLog g files)

  -- where no registry was opened
  abbrev pub IfRefused : Left D g → (Leftover D g → Type 0) → Type 0
  IfRefused (left.Whole files) holds = Unit {0}
  IfRefused (left.Refused rest) holds = holds rest
  IfRefused (left.Parts rest) holds = Unit {0}

  abbrev pub is_whole : Left D g → Bool
  is_whole (left.Whole files) = true
  is_whole (left.Refused rest) = false
  is_whole (left.Parts rest) = false

  -- the log and the database file
  abbrev pub files_in : Left D g → D × D
  files_in (left.Whole files) = (files.log, files.db)
  files_in (left.Refused rest) = files_left rest
  files_in (left.Parts rest) = files_left rest

  -- a new registry
  abbrev pub IsMade : Left D g → State → Type 0
  IsMade (left.Whole files) s = HoldState g files s
  IsMade (left.Refused rest) s = ⊥
  IsMade (left.Parts rest) s = ⊥

  -- whatever a crash leaves of the log and the file, the next opening finds a registry of this state
  abbrev pub IsFound : State → Leftover D g → Type 0
  IsFound s (rest.Files files) = ⊥
  IsFound s (rest.Unopened files) = ⊥
  IsFound s (rest.Store it) = (db : Trees) → recovers it db → OpensAs db (Some s)

  -- the state is kept, in the file alone or in the file and its log
  abbrev pub IsKept : State → Left D g → Type 0
  IsKept s (left.Whole files) = HoldState g files s
  IsKept s (left.Refused rest) = ⊥
  IsKept s (left.Parts rest) = IsFound s rest

-- what an opening of these files finds
abbrev pub IsThere : {D : Type 0} → Ghosts D → Files D → Trees → Type 0
IsThere g files found = AreFound g files found × ((db : Trees) → HoldsDatabase (image_of g files) db → found ≡ db)

-- a registry of version 1 is what these files held, and this is the same one in version 2
pub record WasRenewed {D : Type 0} (g : Ghosts D) (files : Files D) (found : Trees) : Type 0 where
  pub db : Trees
  pub there : IsThere g files db
  pub first : (tables_of db).meta.version ≡ 1
  pub opens : OpensAs found (Some (state_held db))

module _ {D : Type 0} {g : Ghosts D} (files : Files D) where
  -- no harm came to what these files held: whatever a crash leaves of them, the next opening finds what this one would have found
  abbrev pub Spares : Left D g → Type 0
  Spares (left.Whole now) = ⊥
  Spares (left.Refused rest) = LeavesFiles files rest
  Spares (left.Parts rest) = LeavesFiles files rest

  -- the next opening finds what this one would have found, or a registry of this state
  abbrev pub LeavesOr : State → Leftover D g → Type 0
  LeavesOr s (rest.Files now) = LeavesFiles {g = g} files (rest.Files now)
  LeavesOr s (rest.Unopened now) = LeavesFiles {g = g} files (rest.Unopened now)
  LeavesOr s (rest.Store now) = (found : Trees) → recovers now found → (AreFound g files found × ((db : Trees) → HoldsDatabase (image_of g files) db → found ≡ db)) ⊎ OpensAs found (Some s)

  -- the next opening finds what this one would have found, or that registry of version 1 in version 2
  abbrev pub LeavesRegistry : Leftover D g → Type 0
  LeavesRegistry (rest.Files now) = LeavesFiles {g = g} files (rest.Files now)
  LeavesRegistry (rest.Unopened now) = LeavesFiles {g = g} files (rest.Unopened now)
  LeavesRegistry (rest.Store now) = (found : Trees) → recovers now found → IsThere g files found ⊎ WasRenewed g files found

  -- no harm came to what these files held, or a registry of this state took its place
  abbrev pub SparesOrMakes : State → Left D g → Type 0
  SparesOrMakes s (left.Whole now) = HoldState g now s
  SparesOrMakes s (left.Refused rest) = LeavesFiles files rest
  SparesOrMakes s (left.Parts rest) = LeavesOr s rest
