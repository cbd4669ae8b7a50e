-- What the connections of a registry come to.
use Rattle.std.specs.Prelude.{◌≡◌, ◌⊎◌, ℕ, List, Option, Some}
use Rattle.std.specs.Io.KnownBytes.{Appends}
use Rattle.goo_spec.specs.State.{State}
use Rattle.goo_core_shelf.specs.Desk.{Seen}
use Rattle.goo_desk_backend.specs.Showing.{begun_by, imported_by, shown_by}
use Rattle.goo_desk_listener.specs.Clients.{Address, Clients, loopback}
use Rattle.goo_desk_server.specs.Serving as server
use Rattle.goo_cli_ending.specs.declared.ending.Ending.{Ending}
use Rattle.goo_cli_registry.specs.Durable.{IsUnopened}
use Rattle.goo_cli_files.specs.ServerEndings.{listening_text}

-- what connections of a registry leave and are sent, and what a crash finds
abbrev pub ServesTo : Clients → Clients → Seen → Seen → (Option State → Type 0) → Type 0
ServesTo from now first last leaves = server.ServesTo shown_by imported_by begun_by from now first last leaves

-- from this state on, where nothing was corrupted, and there was no defect at first
pub record ServesConnections (from now : Clients) (s : State) (leaves : Option State → Type 0) : Type 0 where
  pub first : Seen
  pub last : Seen
  pub begun : first.state ≡ s
  pub sure : first.defects ≡ 0
  pub honest : last.corruptions ≡ 0
  pub serves : ServesTo from now first last leaves

-- of a registry that no file keeps a crash finds nothing
abbrev pub nothing_kept : Option State → Type 0
nothing_kept found = ⊥

-- connections were served by a new registry, or none was accepted
abbrev pub ServesNew : Clients → Clients → State → Type 0
ServesNew from now s = (now ≡ from) ⊎ ServesConnections from now s nothing_kept

-- no registry was opened, for a reason that is told: nothing was written, and the listener was asked for nothing
pub record IsUnserved (told : Ending) (had has : Option (List ℕ)) (from now : Clients) : Type 0 where
  pub unopened : IsUnopened told had has
  pub unheard : now ≡ from

-- it listens at this port of this machine, and the line that tells so is written
pub record IsAnnounced (port : ℕ) (at : Option Address) (had has : Option (List ℕ)) : Type 0 where
  pub at_is : at ≡ Some (record { host = loopback; port = port })
  pub line : Appends had has (listening_text port)
