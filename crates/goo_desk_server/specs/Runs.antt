-- Connections are a run of the requests that they left applied.
use Rattle.std.specs.Prelude.{◌≡◌, ◌+◌, ℕ, suc, List, [], ◌∷◌, All, Option, length}
use Rattle.std.specs.List.{flat_map}
use Rattle.goo_files_streams.specs.Streams.{IsWholeOf}
use Rattle.goo_types.specs.declared.request.Request.{Request}
use Rattle.goo_spec.specs.Promise.{IsPromised}
use Rattle.goo_spec.specs.Run.{final}
use Rattle.goo_spec.specs.State.{State}
use Rattle.goo_core_shelf.specs.Desk.{Seen}
use Rattle.goo_desk_listener.specs.Clients.{Clients}
use Rattle.goo_desk_backend.specs.Backends.{Showing, Importing, Beginning}
use Rattle.goo_desk_answers.specs.Brought.{AreLeft}
use Rattle.goo_desk_server.specs.Serving.{Steps}

-- a connection: the bytes that were answered, and those of their requests that it left applied
abbrev pub Connection : Type 0
Connection = List ℕ × List Request

abbrev pub requests_of : List Connection → List Request
requests_of = flat_map (λ c. c.1)

-- the bytes of each are those that its client sent, where that is known of the connection of its number
abbrev pub AreHeard : (ℕ → Option (List ℕ)) → ℕ → List Connection → Type 0
AreHeard sends was [] = Unit {0}
AreHeard sends was (c ∷ rest) = IsWholeOf (sends was) c.0 × AreHeard sends (suc was) rest

-- so many connections came to the state of a run of their requests
pub record IsRunOf (sends : ℕ → Option (List ℕ)) (was count : ℕ) (old new : State) : Type 0 where
  pub connections : List Connection
  pub count_is : length connections ≡ count
  pub heard : AreHeard sends was connections
  pub brought : All (λ c. AreLeft c.0 c.1) connections
  pub state : new ≡ final old (requests_of connections)

-- where nothing was corrupted, and while there is no defect
abbrev pub StepsAreARun : Showing → Importing → Beginning → Type 0
StepsAreARun shows imports begins = (clients : Clients) (was count : ℕ) (old new : Seen) → Steps shows imports begins clients was count old new → new.corruptions ≡ 0 → new.defects ≡ 0 → IsRunOf clients.sends was count old.state new.state

-- the connections that were accepted meanwhile: what is promised of their requests
pub record KeepsPromise (sends : ℕ → Option (List ℕ)) (was now : ℕ) (old new : State) : Type 0 where
  pub connections : List Connection
  pub count_is : now ≡ was + length connections
  pub heard : AreHeard sends was connections
  pub brought : All (λ c. AreLeft c.0 c.1) connections
  pub promised : IsPromised old (requests_of connections) new
