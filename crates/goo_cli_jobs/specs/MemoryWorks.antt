-- What is done with a new registry in memory.
use Rattle.std.specs.Prelude.{◌≡◌, ◌⊎◌, ℕ, List, Option, ⊤}
use Rattle.goo_spec.specs.State.{State}
use Rattle.goo_spec.specs.Sound.{IsSound}
use Rattle.goo_cli.specs.Asked.{Asked, InMemory, Run, Serve}
use Rattle.goo_cli.specs.declared.task.Opening.{Opening}
use Rattle.goo_cli_ending.specs.declared.ending.Ending.{Ending}
use Rattle.goo_cli_ending.specs.Endings.{IsOfLines, status_of}
use Rattle.goo_cli_ending.specs.Runs.{RunsInput}
use Rattle.goo_desk_listener.specs.Clients.{Clients}
use Rattle.goo_cli_registry.specs.Durable.{IsUnbegun}
use Rattle.goo_cli_files.specs.ServerEndings.{IsCounted, IsOfServer}
use Rattle.goo_cli_files.specs.ServesConnections.{IsAnnounced, ServesNew}
use Rattle.goo_cli_jobs.specs.declared.memory_work.MemoryWork.{MemoryWork}
use Rattle.goo_cli_jobs.specs.declared.memory_work.MemoryWork.TheVariants as work

-- what a command line asks for, of which this is the work
abbrev pub asked_in_memory : Opening → MemoryWork → Asked
asked_in_memory opening work.Run = Run (InMemory opening)
asked_in_memory opening (work.Serve serving) = Serve (InMemory opening) serving

module _ (s : State) (before after had has : Option (List ℕ)) (told : Ending) where
  -- the lines of an input were answered from this state on, or no registry was made; the words of lines are told
  pub record AreAnsweredInMemory : Type 0 where
    pub runs : RunsInput told s had has (λ _. ⊤) (λ _ _. ⊤) before after ⊎ IsUnbegun told had has before after
    pub sound : IsSound s
    pub words : IsOfLines told

  -- it was told at which port, as many connections were accepted as asked for, and a new registry served them
  pub record IsServedInMemory (from now : Clients) (port count : ℕ) : Type 0 where
    pub announced : status_of told ≡ 0 → IsAnnounced port now.at had has
    pub counted : IsCounted told from.accepted now.accepted count
    pub serves : ServesNew from now s
    pub words : IsOfServer told

  -- what this work comes to, with the connections that were accepted meanwhile
  abbrev pub IsWorkedInMemory : Clients → Clients → MemoryWork → Type 0
  IsWorkedInMemory from now work.Run = AreAnsweredInMemory
  IsWorkedInMemory from now (work.Serve serving) = IsServedInMemory from now serving.port serving.count
