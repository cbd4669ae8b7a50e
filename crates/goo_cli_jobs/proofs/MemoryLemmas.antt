-- What is done with a registry in memory.
use Rattle.std.proofs.Common.{◌≡◌, ◌⊎◌, List, ℕ, Option}
use Rattle.std.specs.Prelude.{⊤}
use Rattle.goo_spec.specs.State.{State}
use Rattle.goo_spec.specs.Sound.{IsSound}
use Rattle.goo_cli_ending.specs.declared.ending.Ending.{Ending}
use Rattle.goo_cli_ending.specs.Endings.{IsOfLines, status_of}
use Rattle.goo_cli_ending.specs.Runs.{RunsInput}
use Rattle.goo_cli_registry.specs.Durable.{IsUnbegun}
use Rattle.goo_desk_listener.specs.Clients.{Clients}
use Rattle.goo_cli_files.specs.ServerEndings.{IsCounted, IsOfServer}
use Rattle.goo_cli_files.specs.ServesConnections.{IsAnnounced, ServesNew}
use Rattle.goo_cli_jobs.specs.MemoryWorks.{AreAnsweredInMemory, IsServedInMemory}

pub answered_in_memory : (s : State) (before after had has : Option (List ℕ)) (told : Ending) → RunsInput told s had has (λ _. ⊤) (λ _ _. ⊤) before after ⊎ IsUnbegun told had has before after → IsSound s → IsOfLines told
    → AreAnsweredInMemory s before after had has told
answered_in_memory s before after had has told runs sound words = record { runs = runs; sound = sound; words = words }

pub served_in_memory : (s : State) (before after had has : Option (List ℕ)) (told : Ending) (from now : Clients) (port count : ℕ) → (status_of told ≡ 0 → IsAnnounced port now.at had has) → IsCounted told from.accepted now.accepted count → ServesNew from now s → IsOfServer told
    → IsServedInMemory s before after had has told from now port count
served_in_memory s before after had has told from now port count announced counted serves words = record { announced = announced; counted = counted; serves = serves; words = words }
