-- What serving a connection comes to.
use Rattle.std.specs.Prelude.{◌≡◌, ◌≢◌, ◌⊎◌, ℕ, Bool, IsTrue, List, Option, Result, Ok, Err}
use Rattle.std.specs.Io.KnownBytes.{Appends, Keeps}
use Rattle.goo_files_streams.specs.Streams.{AppendsPrefix, IsWholeOf}
use Rattle.goo_spec.specs.State.{State}
use Rattle.goo_core_shelf.specs.Crash.{FindsNoMore}
use Rattle.goo_core_shelf.specs.Desk.{Seen, StaysSure}
use Rattle.goo_desk_responses.specs.declared.status.Status.{Status}
use Rattle.goo_desk_responses.specs.declared.status.Status.TheVariants.{Unavailable}
use Rattle.goo_desk_backend.specs.Backends.{Showing, Importing, Beginning}
use Rattle.goo_desk_backend.specs.Tables.{ImportsAreRuns}
use Rattle.goo_desk_answers.specs.Brought.{FindsLeft}
use Rattle.goo_desk_server.specs.ConnectionFaults.{IsToldIn}
use Rattle.goo_desk_server.specs.ConnectionServed.{IsExcused, IsServed}
use Rattle.goo_desk_server.specs.declared.connection.Served.{Served}
use Rattle.goo_desk_server.specs.declared.serve_fault.ServeFault.{ServeFault}
use Rattle.goo_desk_server.specs.declared.serve_fault.ServeFault.TheVariants as fault

module _ (had has : Option (List ℕ)) (failed : Bool) where
  -- a call failed, and a beginning of the text was sent
  abbrev pub IsCut : List ℕ → Type 0
  IsCut text = IsTrue failed × AppendsPrefix had has text

  -- the whole text was sent, or a call failed
  abbrev pub IsSent : List ℕ → Type 0
  IsSent text = Appends had has text ⊎ IsCut text

  -- a reply of this status was sent, by how that ended
  abbrev pub SendsReply : Status → List ℕ → Result Served ServeFault → Type 0
  SendsReply status text (Ok served) = (served.status ≡ status) × Appends had has text
  SendsReply status text (Err fault.Write) = IsCut text
  SendsReply status text (Err fault.Store) = ⊥
  SendsReply status text (Err fault.Read) = ⊥
  SendsReply status text (Err fault.Memory) = ⊥

module _ (shows : Showing) (imports : Importing) (begins : Beginning) (bytes : List ℕ) (old new : Seen) (had has : Option (List ℕ)) (failed : Bool) where
  -- What these bytes were sent, by how that ended: the whole answer or excuse; a beginning of it, as a call failed; the excuse of records that failed;
  -- or nothing, and the registry is as it was, as a call failed or there was no room before the request was read.
  abbrev pub Ends : Result Served ServeFault → Type 0
  Ends (Ok served) = (text : List ℕ) × IsServed shows imports begins old bytes served.status text new × Appends had has text
  Ends (Err fault.Write) = (status : Status) × (text : List ℕ) × IsServed shows imports begins old bytes status text new × IsCut had has failed text
  Ends (Err fault.Store) = (text : List ℕ) × IsExcused shows imports begins old bytes Unavailable text new × IsSent had has failed text
  Ends (Err fault.Read) = (new ≡ old) × IsTrue failed × Keeps had has
  Ends (Err fault.Memory) = (new ≡ old) × Keeps had has

  -- These bytes were served, between what a crash would have found before and what it finds now
  pub record Serves (before after : Option State → Type 0) (result : Result Served ServeFault) : Type 0 where
    pub ends : Ends result
    -- no defect and no corruption is forgotten, and only a failed call brings a defect
    pub defects_stay : new.defects ≡ 0 → old.defects ≡ 0
    pub corruptions_stay : new.corruptions ≡ 0 → old.corruptions ≡ 0
    pub stays : new.corruptions ≡ 0 → old.defects ≡ 0 → StaysSure old new
    -- a crash finds the state that some of the bytes' requests lead to
    pub crash : ImportsAreRuns imports begins → new.corruptions ≡ 0 → old.defects ≡ 0 → FindsLeft after old.state bytes
    -- where a call had failed before, nothing is put where a crash finds it
    pub shut : new.corruptions ≡ 0 → old.defects ≢ 0 → FindsNoMore before after
    -- a fault of the store is told just where a call was refused
    pub told : old.refusals ≡ 0 → IsToldIn result new.refusals

-- there are bytes that the reader gave, all of them where it tells them, and these were served
abbrev pub ServesHeard : Showing → Importing → Beginning → Option (List ℕ) → Seen → Seen → Option (List ℕ) → Option (List ℕ) → Bool → (Option State → Type 0) → (Option State → Type 0) → Result Served ServeFault → Type 0
ServesHeard shows imports begins known old new had has failed before after result =
    (bytes : List ℕ) × IsWholeOf known bytes × Serves shows imports begins bytes old new had has failed before after result
