-- What a connection of a server comes to, from its first byte until it is closed.
use Rattle.std.specs.Prelude.{◌≡◌, ◌≢◌, ◌⊎◌, ℕ, List, Option}
use Rattle.goo_files_streams.specs.Streams.{IsWholeOf}
use Rattle.goo_spec.specs.State.{State}
use Rattle.goo_core_shelf.specs.Crash.{FindsNoMore}
use Rattle.goo_core_shelf.specs.Desk.{Seen, StaysSure}
use Rattle.goo_desk_listener.specs.Clients.{Closed}
use Rattle.goo_desk_responses.specs.declared.status.Status.{Status}
use Rattle.goo_desk_backend.specs.Backends.{Showing, Importing, Beginning}
use Rattle.goo_desk_backend.specs.Tables.{ImportsAreRuns}
use Rattle.goo_desk_answers.specs.Brought.{FindsLeft}
use Rattle.goo_desk_server.specs.ConnectionEnds.{IsSent}
use Rattle.goo_desk_server.specs.ConnectionServed.{IsServed, unread_text}

module _ (shows : Showing) (imports : Importing) (begins : Beginning) (known fresh : Option (List ℕ)) (closed : Closed) (old new : Seen) where
  -- There are bytes that the client sent, all of them where the listener tells them. These were answered, or a fault was told in place of the answer,
  -- and the registry is as that leaves it; or they were not read, and it is as it was. The client was sent the whole reply, and nothing else, unless a
  -- call failed: then a beginning of it.
  pub record Connects : Type 0 where
    pub bytes : List ℕ
    pub whole : IsWholeOf known bytes
    pub status : Status
    pub text : List ℕ
    pub replied : IsServed shows imports begins old bytes status text new ⊎ ((new ≡ old) × (text ≡ unread_text))
    pub sent : IsSent fresh closed.held closed.failed text
    -- no defect and no corruption is forgotten, and only a failed call brings a defect
    pub defects_stay : new.defects ≡ 0 → old.defects ≡ 0
    pub corruptions_stay : new.corruptions ≡ 0 → old.corruptions ≡ 0
    pub stays : new.corruptions ≡ 0 → old.defects ≡ 0 → StaysSure old new

  -- this was the latest connection, between what a crash would have found before and what it finds now
  pub record IsLatest (before after : Option State → Type 0) : Type 0 where
    pub one : Connects
    -- it finds the state that some of its client's requests lead to
    pub crash : ImportsAreRuns imports begins → new.corruptions ≡ 0 → old.defects ≡ 0 → FindsLeft after old.state one.bytes
    -- where a call had failed before, nothing is put where a crash finds it
    pub shut : new.corruptions ≡ 0 → old.defects ≢ 0 → FindsNoMore before after
