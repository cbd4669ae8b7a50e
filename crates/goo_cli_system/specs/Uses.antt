-- What is done with the files at a path.
use Rattle.std.specs.Prelude.{◌≡◌, ◌⊎◌, ℕ, List, [], ◌∷◌, ◌++◌, Bool, Option}
use Rattle.std.specs.Io.KnownBytes.{Appends, Keeps}
use Rattle.sqlite_disk.specs.declared.Disk.{Ghosts}
use Rattle.sqlite_disk.specs.declared.Files.{Files}
use Rattle.sqlite_wal.specs.Recovery.{Image}
use Rattle.sqlite.specs.Files.{image_of, HoldsDatabase}
use Rattle.sqlite.specs.Tree.{Trees}
use Rattle.goo_spec.specs.State.{State}
use Rattle.goo_store_opening.specs.Versions.{state_held}
use Rattle.goo_cli_disk.specs.Spare.{StayAs}
use Rattle.goo_cli_ending.specs.Endings.{status_of}
use Rattle.goo_cli_ending.specs.declared.ending.Ending.{Ending}
use Rattle.goo_cli_ending.specs.declared.ending.Ending.TheVariants.{Failed}
use Rattle.goo_cli_ending.specs.declared.ending.Failure.{Failure}
use Rattle.goo_cli_ending.specs.declared.ending.Failure.TheVariants as failure
use Rattle.goo_cli_registry.specs.Closings.{files_in, IfRefused, IsClean, IsMade, Spares, SparesOrMakes}
use Rattle.goo_cli_registry.specs.Openings.{IsOfInit, ready_text}
use Rattle.goo_cli_registry.specs.Refusals.{IsTurnedAway, TellsMaking}
use Rattle.goo_cli_registry.specs.declared.closing.Left.{Left}
use Rattle.goo_desk_listener.specs.Clients.{Clients}
use Rattle.goo_cli_jobs.specs.Works.{IsWorked}
use Rattle.goo_cli_jobs.specs.declared.work.Work.{Work}
use Rattle.goo_cli_system.specs.Deeds.{Deed, LetsGo, MayLoseLog}
use Rattle.goo_cli_system.specs.declared.unopened.Unopened.{Unopened}
use Rattle.goo_cli_system.specs.declared.unopened.Unopened.TheVariants as why

-- what is told where no files are opened: there are none that hold a database, or a fault
abbrev pub failure_of : Unopened → Failure
failure_of why.NotARegistry = failure.NotARegistry
failure_of why.Store = failure.Store
failure_of why.Memory = failure.Memory

-- no files were opened: the system was asked for them, why it refuses is told, and nothing was done
pub record Declines (Refuses : Unopened → Type 0) (told : Ending) (old new : List Deed) : Type 0 where
  pub reason : Unopened
  pub refused : Refuses reason
  pub tells : told ≡ Failed (failure_of reason)
  pub did : new ≡ old

module _ {D : Type 0} (g : Ghosts D) where
  -- The files at a path were opened and let go, and something came of them. What the command left of them is what was let go, and their log was
  -- removed at most: only where it may go, whatever a crash leaves of them.
  pub record Uses (deed : Deed) (path : List ℕ) (image : Image) (old new : List Deed) (Comes : Files D → Left D g → Type 0) : Type 0 where
    pub files : Files D
    pub here : image_of g files ≡ image
    pub rest : Left D g
    pub comes : Comes files rest
    pub last : Files D
    pub stays : StayAs g (files_in rest) last
    pub is_spare : Bool
    pub spare : MayLoseLog g is_spare last
    pub did : LetsGo path is_spare (old ++ deed ∷ []) new

  -- a registry of this code was made in files, and that is told: `init`
  pub record MakesIn (s : State) (code : ℕ) (had has : Option (List ℕ)) (told : Ending) (files : Files D) (rest : Left D g) : Type 0 where
    pub words : IsOfInit told
    pub made : status_of told ≡ 0 → IsMade rest s
    pub said : status_of told ≡ 0 → Appends had has (ready_text code)
    pub unready : IsMade rest s ⊎ Keeps had has
    pub there : status_of told ≡ 1 → IsClean rest → Spares files rest
    pub tells : IsClean rest → TellsMaking files told rest
    pub left : IsClean rest → SparesOrMakes files s rest

  -- this was done with the registry that files held, from the state that they held; or none was opened in them
  pub record WorksIn (before after had has : Option (List ℕ)) (told : Ending) (from now : Clients) (work : Work) (files : Files D) (rest : Left D g) : Type 0 where
    pub worked : IsClean rest → (db : Trees) → HoldsDatabase (image_of g files) db → IsWorked (state_held db) before after had has told rest from now work
    pub turned_away : IsClean rest → IfRefused rest (IsTurnedAway files told)
