-- How a server ends.
use Rattle.std.specs.Prelude.{◌≡◌, ◌≢◌, ◌≤◌, ◌<◌, ◌+◌, ℕ, List, ◌++◌, codes, decimal, Result, Ok, Err}
use Rattle.goo_cli_ending.specs.Endings.{status_of}
use Rattle.goo_cli_ending.specs.declared.ending.Ending.{Ending}
use Rattle.goo_cli_ending.specs.declared.ending.Ending.TheVariants as ending
use Rattle.goo_cli_ending.specs.declared.ending.Failure.TheVariants as failure
use Rattle.goo_desk_server.specs.declared.server_fault.ServerFault.{ServerFault}
use Rattle.goo_desk_server.specs.declared.server_fault.ServerFault.TheVariants as server

-- a connection that can't be accepted is a fault of what is read
abbrev pub ending_of_server : Result (Unit {0}) ServerFault → Ending
ending_of_server (Ok done) = ending.Done
ending_of_server (Err server.Write) = ending.Failed failure.Write
ending_of_server (Err server.Accept) = ending.Failed failure.Read
ending_of_server (Err server.Store) = ending.Failed failure.Store
ending_of_server (Err server.Memory) = ending.Failed failure.Memory

-- how a server may end
abbrev pub IsOfServer : Ending → Type 0
IsOfServer ending.Done = Unit {0}
IsOfServer ending.PartlyDone = ⊥
IsOfServer (ending.Denied denial) = ⊥
IsOfServer (ending.Words error) = ⊥
IsOfServer (ending.Misused reason) = ⊥
IsOfServer (ending.Failed failure.Store) = Unit {0}
IsOfServer (ending.Failed failure.Memory) = Unit {0}
IsOfServer (ending.Failed failure.Read) = Unit {0}
IsOfServer (ending.Failed failure.Write) = Unit {0}
IsOfServer (ending.Failed failure.NotARegistry) = ⊥
IsOfServer (ending.Failed (failure.Version version)) = ⊥
IsOfServer (ending.Failed failure.Damaged) = ⊥

-- the line that tells at which port it listens
abbrev pub listening_text : ℕ → List ℕ
listening_text port = codes "listening 127.0.0.1:" ++ (decimal port ++ codes "\n")

-- of the connections that were asked for all were accepted where all was done; after a fault fewer were, unless the records failed at the last one
pub record IsCounted (told : Ending) (was now asked : ℕ) : Type 0 where
  pub all : status_of told ≡ 0 → now ≡ was + asked
  pub grown : was ≤ now
  pub few : now ≤ was + asked
  pub fewer : status_of told ≢ 0 → told ≢ ending.Failed failure.Store → 0 < asked → now < was + asked
