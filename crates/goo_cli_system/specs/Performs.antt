-- What the program does for the words of its command line.
use Rattle.std.specs.Prelude.{◌≡◌, ◌⊎◌, ℕ, List, Option, Some}
use Rattle.std.specs.Io.KnownBytes.{Keeps}
use Rattle.sqlite_disk.specs.declared.Disk.{Ghosts}
use Rattle.sqlite_wal.specs.Recovery.{Image}
use Rattle.goo_spec.specs.Created.{created}
use Rattle.goo_cli.specs.Asked.{Asked}
use Rattle.goo_cli.specs.Line.{task_in, FaultIn, NoTask}
use Rattle.goo_cli.specs.declared.line_fault.LineFault.{LineFault}
use Rattle.goo_cli_ending.specs.Endings.{TellsLine}
use Rattle.goo_cli_ending.specs.declared.ending.Ending.{Ending}
use Rattle.goo_desk_listener.specs.Clients.{Clients}
use Rattle.goo_cli_jobs.specs.MemoryWorks.{IsWorkedInMemory}
use Rattle.goo_cli_jobs.specs.Works.{asked_for}
use Rattle.goo_cli_jobs.specs.declared.work.Job.{Job}
use Rattle.goo_cli_jobs.specs.declared.work.Job.TheVariants as job
use Rattle.goo_cli_system.specs.Deeds.{Deed, OpenKept, OpenNew}
use Rattle.goo_cli_system.specs.Uses.{Declines, MakesIn, Uses, WorksIn}
use Rattle.goo_cli_system.specs.declared.unopened.Unopened.{Unopened}

module _ (before after had has : Option (List ℕ)) (from now : Clients) where
  -- nothing is read or written, and the listener is asked for nothing
  pub record IsIdle : Type 0 where
    pub unread : Keeps before after
    pub silent : Keeps had has
    pub unheard : now ≡ from

module _ {D : Type 0} (g : Ghosts D) (held : List ℕ → Image) (refuses : Deed → Unopened → Type 0) (old new : List Deed) (before after had has : Option (List ℕ)) (from now : Clients) (told : Ending) where
  -- What a job comes to. The files of its path alone are opened, or the system refuses to open them: then nothing else is done. A registry in
  -- memory needs none.
  abbrev pub Performs : Job → Type 0
  Performs (job.Make path opening) =
      (Declines (refuses (OpenNew path.now)) told old new × IsIdle before after had has from now)
      ⊎ Uses g (OpenNew path.now) path.now (held path.now) old new (MakesIn g (created opening.code opening.today opening.next_serial) opening.code had has told)
  Performs (job.InFile path work) =
      (Declines (refuses (OpenKept path.now)) told old new × IsIdle before after had has from now)
      ⊎ Uses g (OpenKept path.now) path.now (held path.now) old new (WorksIn g before after had has told from now work)
  Performs (job.InMemory opening work) =
      (new ≡ old) × IsWorkedInMemory (created opening.code opening.today opening.next_serial) before after had has told from now work

  -- the words ask for nothing that the program does: why is told, and nothing is done
  pub record Refuses (words : List (List ℕ)) : Type 0 where
    pub fault : LineFault
    pub tells : TellsLine fault told
    pub none : NoTask (task_in words) fault
    pub right : FaultIn words fault
    pub did : new ≡ old
    pub idle : IsIdle before after had has from now

  -- the program does what its words ask for, or refuses them
  abbrev pub IsPerformed : List (List ℕ) → Type 0
  IsPerformed words =
      ((asked : Asked) × (task_in words ≡ Some asked) × (job : Job) × (asked_for job ≡ asked) × Performs job)
      ⊎ Refuses words
