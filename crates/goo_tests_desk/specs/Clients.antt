-- What clients send.
use Rattle.std.specs.Prelude.{ℕ, true, List, Option, None, Some}
use Rattle.goo_desk_listener.specs.Clients.{Address, Closed, loopback}

-- each sends the same text
abbrev pub each_sends : List ℕ → ℕ → Option (List ℕ)
each_sends text number = Some text

-- what a client took is lost
abbrev pub lost : Closed
lost = record { held = None; failed = true }

abbrev pub at_port : Option ℕ → Option Address
at_port None = None
at_port (Some port) = Some (record { host = loopback; port = port })
