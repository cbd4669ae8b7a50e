-- What holds besides of requests of which a registry's promise holds.
use Rattle.std.specs.Prelude.{ℕ, List, All}
use Rattle.goo_types.specs.declared.request.Request.{Request}
use Rattle.goo_spec.specs.Obeys.{AllObey}
use Rattle.goo_spec.specs.Promise.{IsPromised}
use Rattle.goo_spec.specs.Run.{outcomes}
use Rattle.goo_spec.specs.Sound.{IsSound}
use Rattle.goo_spec.specs.State.{State}
use Rattle.goo_spec_laws.specs.Authority.{IsMovedByRight}
use Rattle.goo_spec_laws.specs.Classes.{AddsUp}
use Rattle.goo_spec_laws.specs.Deadlines.{IsInTime}
use Rattle.goo_spec_laws.specs.Final.{IsForGood}
use Rattle.goo_spec_laws.specs.Independent.{IsIndependent}
use Rattle.goo_files_import.specs.Import as rows
use Rattle.goo_desk_lines.specs.Requests as lines
use Rattle.goo_desk_answers.specs.Brought.{AreLeft}
use Rattle.goo_desk_server.specs.Runs.{Connection, requests_of}

-- A registry in the state s answered the requests qs, and came to the state t
pub record HoldsBesides (s : State) (qs : List Request) (t : State) : Type 0 where
  -- no certificate moved but by right
  pub moved_by_right : IsMovedByRight s qs t
  -- what is final stays so
  pub for_good : IsForGood s qs (outcomes s qs) t
  -- nothing was done past its date
  pub in_time : IsInTime s qs t
  -- each class adds up
  pub adds_up : AddsUp s qs (outcomes s qs) t
  -- an account of which they named nothing is as the date alone makes it
  pub independent : IsIndependent s qs t

-- what is promised of requests, from a sound registry on, is so besides
abbrev pub Also : State → List Request → State → Type 0
Also s qs t = IsSound s → IsPromised s qs t → HoldsBesides s qs t

-- of requests within their limits
abbrev pub OfRequests : Type 0
OfRequests = (s t : State) (qs : List Request) → AllObey qs → Also s qs t

-- of those that lines of text state
abbrev pub OfLines : Type 0
OfLines = (s t : State) (some : List (List ℕ)) → Also s (lines.requests_of some) t

-- of those of a caller's rows of declarations
abbrev pub OfRows : Type 0
OfRows = (s t : State) (caller : List ℕ) (some : List (List (List ℕ))) → Also s (rows.requests_of caller some) t

-- of those that connections left applied
abbrev pub OfConnections : Type 0
OfConnections = (s t : State) (some : List Connection) → All (λ c. AreLeft c.0 c.1) some → Also s (requests_of some) t
