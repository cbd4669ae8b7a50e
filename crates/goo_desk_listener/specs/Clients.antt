-- What is known of a server's clients, and what a listener's calls do to it.
use Rattle.std.specs.Prelude.{◌≡◌, ◌+◌, ◌<◌, ℕ, suc, Bool, true, List, Option, Some, None}

-- A connection that was taken back: what its client then held, where that is told, and whether a call of its streams had failed
pub record Closed : Type 0 where
  pub held : Option (List ℕ)
  pub failed : Bool

-- an IPv4 address as a number, and a port
pub record Address : Type 0 where
  pub host : ℕ
  pub port : ℕ

pub record Clients : Type 0 where
  -- how many connections were accepted so far
  pub accepted : ℕ
  -- what the client of each connection sends in all, where that is known; connections are numbered from 0
  pub sends : ℕ → Option (List ℕ)
  -- what each client holds before it is sent anything, where that is known
  pub fresh : Option (List ℕ)
  -- what became of each connection that was taken back, by its number
  pub closed : ℕ → Closed
  -- where clients find the listener, if it listens
  pub at : Option Address

-- 127.0.0.1, which this machine alone reaches
abbrev pub loopback : ℕ
loopback = 2130706433

-- it listens here from now on
abbrev pub listening_at : ℕ → ℕ → Clients → Clients
listening_at host port c = record { accepted = c.accepted; sends = c.sends; fresh = c.fresh; closed = c.closed; at = Some (record { host = host; port = port }) }

-- nothing but where it listens has changed
abbrev pub KeepsClients : Clients → Clients → Type 0
KeepsClients old new = new ≡ record { accepted = old.accepted; sends = old.sends; fresh = old.fresh; closed = old.closed; at = new.at }

-- one more was accepted: from its input comes what its client sends, and its output begins as each does
pub record Accepts (old new : Clients) (input output : Option (List ℕ)) : Type 0 where
  pub counted : new ≡ record { accepted = old.accepted + 1; sends = old.sends; fresh = old.fresh; closed = old.closed; at = old.at }
  pub heard : input ≡ old.sends old.accepted
  pub unsent : output ≡ old.fresh

-- the latest one was taken back, and so became of it
pub record GivesBack (one : Closed) (old new : Clients) : Type 0 where
  pub kept : new ≡ record { accepted = old.accepted; sends = old.sends; fresh = old.fresh; closed = new.closed; at = old.at }
  pub closed : (number : ℕ) → old.accepted ≡ suc number → new.closed number ≡ one
  pub others : (number : ℕ) → suc number < old.accepted → new.closed number ≡ old.closed number

-- what any number of calls leaves: what clients send and hold at first is as it was, and so is what became of those before
pub record GoesOn (old new : Clients) : Type 0 where
  pub kept : new ≡ record { accepted = new.accepted; sends = old.sends; fresh = old.fresh; closed = new.closed; at = new.at }
  pub earlier : (number : ℕ) → number < old.accepted → new.closed number ≡ old.closed number

-- nothing is known of what any client sends
abbrev pub untold : ℕ → Option (List ℕ)
untold number = None

-- nothing is known of what a client held, nor whether a call failed
abbrev pub unseen : Closed
unseen = record { held = None; failed = true }

-- the address of a host and a port
abbrev pub address_of : Option (ℕ × ℕ) → Option Address
address_of None = None
address_of (Some (host, port)) = Some (record { host = host; port = port })
