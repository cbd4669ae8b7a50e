-- What a server's connections leave and are sent, and what it tells of what keeps the records.
use Rattle.std.specs.Prelude.{◌≡◌, ◌≢◌, ◌⊎◌, ◌≤◌, ◌<◌, ◌+◌, ℕ, zero, suc, Option, Result, Ok, Err}
use Rattle.goo_spec.specs.State.{State}
use Rattle.goo_core_shelf.specs.Crash.{FindsOnly, FindsNoMore}
use Rattle.goo_core_shelf.specs.Desk.{Seen}
use Rattle.goo_desk_listener.specs.Clients.{Clients, GoesOn}
use Rattle.goo_desk_backend.specs.Backends.{Showing, Importing, Beginning}
use Rattle.goo_desk_backend.specs.Tables.{ImportsAreRuns}
use Rattle.goo_desk_answers.specs.Brought.{FindsLeft}
use Rattle.goo_desk_server.specs.Connects.{Connects, IsLatest}
use Rattle.goo_desk_server.specs.declared.server_fault.ServerFault.{ServerFault}
use Rattle.goo_desk_server.specs.declared.server_fault.ServerFault.TheVariants.{Write, Accept, Store, Memory}

-- a connection that was accepted was served, whatever its client did, or the records failed
abbrev pub IsServed : {T : Type 0} → Result T ServerFault → Type 0
IsServed (Ok x) = Unit {0}
IsServed (Err Accept) = ⊥
IsServed (Err Store) = Unit {0}
IsServed (Err Write) = ⊥
IsServed (Err Memory) = ⊥

-- as many were accepted as were asked for, and after a fault fewer, or the records failed at the last one; none before it was told where it listens
abbrev pub IsCounted : {T : Type 0} → Result T ServerFault → ℕ → ℕ → ℕ → Type 0
IsCounted (Ok x) was now asked = now ≡ was + asked
IsCounted (Err Accept) was now asked = (was ≤ now) × (now < was + asked)
IsCounted (Err Store) was now asked = (was < now) × (now ≤ was + asked)
IsCounted (Err Write) was now asked = now ≡ was
IsCounted (Err Memory) was now asked = now ≡ was

-- a fault of the store is told just where a call was refused
abbrev pub IsToldBy : ServerFault → ℕ → Type 0
IsToldBy Write refusals = refusals ≡ 0
IsToldBy Accept refusals = refusals ≡ 0
IsToldBy Store refusals = refusals ≡ 1
IsToldBy Memory refusals = refusals ≡ 0

abbrev pub IsToldIn : {T : Type 0} → Result T ServerFault → ℕ → Type 0
IsToldIn (Ok x) refusals = refusals ≡ 0
IsToldIn (Err fault) refusals = IsToldBy fault refusals

-- a connection that was accepted ended, and a fault of the store is told so
pub record IsEnded (result : Result (Unit {0}) ServerFault) (old new : Seen) : Type 0 where
  pub served : IsServed result
  pub told : old.refusals ≡ 0 → IsToldIn result new.refusals

module _ (shows : Showing) (imports : Importing) (begins : Beginning) where
  module _ (clients : Clients) where
    -- the connection of this number
    abbrev pub ConnectsAs : ℕ → Seen → Seen → Type 0
    ConnectsAs number old new = Connects shows imports begins (clients.sends number) clients.fresh (clients.closed number) old new

    -- it, and a crash finds the state that some of its client's requests lead to
    abbrev pub IsFoundAs : ℕ → Seen → Seen → (Option State → Type 0) → Type 0
    IsFoundAs number old new leaves = (one : ConnectsAs number old new) × FindsLeft leaves old.state one.bytes

    module _ (was : ℕ) where
      -- so many connections, one after another, behind those that were before: each goes on from what the one before left
      abbrev pub Steps : ℕ → Seen → Seen → Type 0
      Steps zero old new = new ≡ old
      Steps (suc count) old new = (mid : Seen) × Steps count old mid × ConnectsAs (was + count) mid new

      -- A crash after so many connections finds what all of them leave, but of the last one's requests perhaps those alone that stand after a fault.
      -- Where a call had failed before the last one and left a defect, that one put nothing where a crash finds it: what the others leave is found.
      abbrev pub FindsAfter : ℕ → Seen → Seen → (Option State → Type 0) → Type 0
      FindsAfter zero first last leaves = FindsOnly leaves first.state
      FindsAfter (suc count) first last leaves =
          (mid : Seen) × Steps count first mid
          × (((mid.defects ≢ 0) × ConnectsAs (was + count) mid last × FindsAfter count first mid leaves) ⊎ ((mid.defects ≡ 0) × IsFoundAs (was + count) mid last leaves))

  -- A server went on from the clients `from` to the clients `now`, and from one moment of its registry to another: what its connections leave and are
  -- sent. A crash finds it, where nothing was corrupted, and there was no defect at first.
  pub record ServesTo (from now : Clients) (first last : Seen) (leaves : Option State → Type 0) : Type 0 where
    pub count : ℕ
    pub counted : now.accepted ≡ from.accepted + count
    pub goes_on : GoesOn from now
    pub steps : Steps now from.accepted count first last
    pub found : ImportsAreRuns imports begins → last.corruptions ≡ 0 → first.defects ≡ 0 → FindsAfter now from.accepted count first last leaves

  module _ (from now : Clients) (old new : Seen) (before after : Option State → Type 0) where
    -- one more connection was accepted, served and taken back
    pub record ServesNext : Type 0 where
      pub counted : now.accepted ≡ from.accepted + 1
      pub goes_on : GoesOn from now
      pub latest : IsLatest shows imports begins (now.sends from.accepted) now.fresh (now.closed from.accepted) old new before after

    -- one more was, whatever its client did, or the records failed; or none could be accepted
    abbrev pub NextBy : Result (Unit {0}) ServerFault → Type 0
    NextBy (Ok x) = ServesNext
    NextBy (Err Store) = ServesNext
    NextBy (Err Accept) = (now ≡ from) × (new ≡ old) × FindsNoMore before after
    NextBy (Err Write) = ⊥
    NextBy (Err Memory) = ⊥

    pub record IsNext (result : Result (Unit {0}) ServerFault) : Type 0 where
      pub next : NextBy result
      pub at : now.at ≡ from.at
      pub told : old.refusals ≡ 0 → IsToldIn result new.refusals

  -- So many connections were asked for: what those that were accepted came to, where it listens is what it was, and a fault of the store is told just
  -- where a call was refused.
  pub record ServesAll (from now : Clients) (first last : Seen) (leaves : Option State → Type 0) (asked : ℕ) (result : Result (Unit {0}) ServerFault) : Type 0 where
    pub serves : ServesTo from now first last leaves
    pub counted : IsCounted result from.accepted now.accepted asked
    pub at : now.at ≡ from.at
    pub told : first.refusals ≡ 0 → IsToldIn result last.refusals
