-- What connections left is found by the next opening.
use Rattle.std.specs.Prelude.{Option}
use Rattle.sqlite_disk.specs.declared.Disk.{Ghosts}
use Rattle.sqlite_store.specs.FileStore.{recovers}
use Rattle.sqlite.specs.Tree.{Trees}
use Rattle.sqlite.specs.declared.file.Leftover.{Leftover}
use Rattle.sqlite.specs.declared.file.Leftover.TheVariants as rest
use Rattle.goo_spec.specs.State.{State}
use Rattle.goo_store_judge.specs.Moments.{OpensAs}
use Rattle.goo_cli_registry.specs.declared.closing.Left.{Left}
use Rattle.goo_cli_registry.specs.declared.closing.Left.TheVariants as left

-- whatever a crash leaves of the log and the file, the next opening may find this
abbrev pub MayBeFound : {D : Type 0} {g : Ghosts D} → Leftover D g → Option State → Type 0
MayBeFound (rest.Files files) found = Unit {0}
MayBeFound (rest.Unopened files) found = Unit {0}
MayBeFound (rest.Store it) found = (db : Trees) × recovers it db × OpensAs db found

-- what it may find where the log was not copied; what it finds where it was is `promised`
abbrev pub IsLeftToFind : {D : Type 0} {g : Ghosts D} → Left D g → Option State → Type 0
IsLeftToFind (left.Parts it) found = MayBeFound it found
IsLeftToFind (left.Whole files) found = ⊥
IsLeftToFind (left.Refused it) found = ⊥
