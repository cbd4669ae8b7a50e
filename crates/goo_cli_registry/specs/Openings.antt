-- How a registry is begun, and why it isn't.
use Rattle.std.specs.Prelude.{◌≡◌, ◌==◌, ◌||◌, cond, ◌⊎◌, ℕ, ◌+◌, ◌/◌, ◌%◌, List, ◌∷◌, ◌++◌, codes, Some, IsTrue}
use Rattle.sqlite_disk.specs.declared.Disk.{Ghosts}
use Rattle.sqlite_disk.specs.declared.Files.{Files}
use Rattle.sqlite_disk.specs.Disk.{MoreFaults}
use Rattle.sqlite.specs.declared.file.Leftover.{Leftover}
use Rattle.sqlite.specs.Files.{image_of, faults_of, faults_left, HoldsDatabase, IsFullLeft, IsNothing}
use Rattle.sqlite.specs.Tree.{Trees}
use Rattle.sqlite.specs.State as sqlite
use Rattle.goo_spec.specs.State.{State}
use Rattle.goo_spec.specs.Created.{created}
use Rattle.goo_store_judge.specs.Moments.{StandFor}
use Rattle.goo_tables_rows.specs.Stands.{AreOurs}
use Rattle.goo_store_open.specs.declared.fault.OpenFault.{OpenFault}
use Rattle.goo_store_open.specs.declared.fault.OpenFault.TheVariants as opening
use Rattle.goo_cli_ending.specs.declared.ending.Ending.{Ending}
use Rattle.goo_cli_ending.specs.declared.ending.Ending.TheVariants as ending
use Rattle.goo_cli_ending.specs.declared.ending.NotDone.TheVariants as denial
use Rattle.goo_cli_ending.specs.declared.ending.Failure.{Failure}
use Rattle.goo_cli_ending.specs.declared.ending.Failure.TheVariants as failure
use Rattle.goo_cli.specs.declared.task.Opening.{Opening}

-- what a start that failed may have committed nevertheless, where a crash follows: the new registry, which opens as one where the connection was open
abbrev pub MayBegin : Opening → sqlite.State → Trees → Type 0
MayBegin opening s db = StandFor db (created opening.code opening.today opening.next_serial) × (IsTrue s.is_open → AreOurs db)

-- why there is no registry to run; a new one is made in an empty database alone, and the number of a version that is read here is told of
-- tables that are not those of that version
abbrev pub failure_of_opening : OpenFault → Failure
failure_of_opening opening.Memory = failure.Memory
failure_of_opening opening.AlreadyThere = failure.Store
failure_of_opening opening.NotARegistry = failure.NotARegistry
failure_of_opening (opening.Version version) = cond ((version == 1) || (version == 2)) failure.Damaged (failure.Version version)
failure_of_opening opening.Damaged = failure.Damaged
failure_of_opening opening.Store = failure.Store

-- how the program ends where none was made
abbrev pub ending_of_opening : OpenFault → Ending
ending_of_opening opening.AlreadyThere = ending.Denied denial.AlreadyThere
ending_of_opening opening.Memory = ending.Failed failure.Memory
ending_of_opening opening.NotARegistry = ending.Failed failure.NotARegistry
ending_of_opening (opening.Version version) = ending.Failed (failure_of_opening (opening.Version version))
ending_of_opening opening.Damaged = ending.Failed failure.Damaged
ending_of_opening opening.Store = ending.Failed failure.Store

-- what is written where a registry of this code was made
abbrev pub ready_text : ℕ → List ℕ
ready_text code = codes "ready " ++ (48 + code / 10) ∷ (48 + code % 10) ∷ codes "\n"

-- what is told where no registry was opened
abbrev pub IsOfOpening : Ending → Type 0
IsOfOpening ending.Done = ⊥
IsOfOpening ending.PartlyDone = ⊥
IsOfOpening (ending.Denied denial) = ⊥
IsOfOpening (ending.Words error) = ⊥
IsOfOpening (ending.Misused reason) = ⊥
IsOfOpening (ending.Failed failure.Read) = ⊥
IsOfOpening (ending.Failed failure.Write) = ⊥
IsOfOpening (ending.Failed failure.Store) = Unit {0}
IsOfOpening (ending.Failed failure.Memory) = Unit {0}
IsOfOpening (ending.Failed failure.NotARegistry) = Unit {0}
IsOfOpening (ending.Failed (failure.Version version)) = Unit {0}
IsOfOpening (ending.Failed failure.Damaged) = Unit {0}

-- a fault of the store, or want of memory
abbrev pub IsFault : Failure → Type 0
IsFault told = (told ≡ failure.Store) ⊎ (told ≡ failure.Memory)

-- how the making of a registry may end
abbrev pub IsOfInit : Ending → Type 0
IsOfInit ending.Done = Unit {0}
IsOfInit ending.PartlyDone = ⊥
IsOfInit (ending.Denied denial.AlreadyThere) = Unit {0}
IsOfInit (ending.Denied denial.UnknownAccount) = ⊥
IsOfInit (ending.Denied denial.Header) = ⊥
IsOfInit (ending.Words error) = ⊥
IsOfInit (ending.Misused reason) = ⊥
IsOfInit (ending.Failed failure.Read) = ⊥
IsOfInit (ending.Failed failure.Write) = Unit {0}
IsOfInit (ending.Failed failure.Store) = Unit {0}
IsOfInit (ending.Failed failure.Memory) = Unit {0}
IsOfInit (ending.Failed failure.NotARegistry) = ⊥
IsOfInit (ending.Failed (failure.Version version)) = ⊥
IsOfInit (ending.Failed failure.Damaged) = ⊥

-- what is told only of lines that were answered by a registry, or of the streams that they came and went by
abbrev pub IsRun : Ending → Type 0
IsRun ending.Done = Unit {0}
IsRun ending.PartlyDone = Unit {0}
IsRun (ending.Denied denial) = ⊥
IsRun (ending.Words error) = ⊥
IsRun (ending.Misused reason) = ⊥
IsRun (ending.Failed failure.Read) = Unit {0}
IsRun (ending.Failed failure.Write) = Unit {0}
IsRun (ending.Failed failure.Store) = ⊥
IsRun (ending.Failed failure.Memory) = ⊥
IsRun (ending.Failed failure.NotARegistry) = ⊥
IsRun (ending.Failed (failure.Version version)) = ⊥
IsRun (ending.Failed failure.Damaged) = ⊥

-- files that could not be opened, other than for want of memory: they hold no database, and could not become one, or a call failed
abbrev pub IsBlamed : {D : Type 0} {g : Ghosts D} → Files D → Leftover D g → Type 0
IsBlamed {D} {g} files left =
    (¬ (((db : Trees) × HoldsDatabase (image_of g files) db) ⊎ IsNothing (image_of g files)))
    ⊎ (MoreFaults (faults_of g files) (faults_left left) ⊎ IsFullLeft left)
