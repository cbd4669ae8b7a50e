-- What holders are sent.
use Rattle.std.specs.Prelude.{◌≡◌, ◌⊎◌, ℕ, Bool, false, List, None, Option}
use Rattle.goo_spec.specs.Checks.{is_issuer}
use Rattle.goo_core_shelf.specs.Desk.{Seen}
use Rattle.goo_desk_responses.specs.Responses.{response_text, fixed}
use Rattle.goo_desk_responses.specs.declared.status.Status.TheVariants.{Unavailable}
use Rattle.goo_desk_routes.specs.declared.task.Subject.{Subject}
use Rattle.goo_desk_backend.specs.Showing.{shown_by, imported_by, begun_by}
use Rattle.goo_desk_independent.specs.Asking.{Asks}
use Rattle.goo_desk_independent.specs.Holder.{AgreeOnHolder}
use Rattle.goo_desk_listener.specs.Clients.{Closed}
use Rattle.goo_desk_server.specs.Connects.{Connects}

-- that a fault came, which says no more
abbrev pub IsUnavailable : List ℕ → Type 0
IsUnavailable text = (for_head : Bool) × (text ≡ response_text for_head (fixed Unavailable None))

-- one text, unless a fault is told in place of it
abbrev pub IsAlike : List ℕ → List ℕ → Type 0
IsAlike one other = (one ≡ other) ⊎ (IsUnavailable one ⊎ IsUnavailable other)

-- Two connections send the same bytes, by which a holder asks to be shown something, of registries that agree on its accounts, on one date: their
-- replies are alike, so nothing that a client is sent, of a reply or a beginning of it (`sent` of both), tells it what others have
abbrev pub OwnAloneIsSent : Type 0
OwnAloneIsSent =
    (known fresh : Option (List ℕ)) (closed : Closed) (old new : Seen) (one : Connects shown_by imported_by begun_by known fresh closed old new)
    (heard blank : Option (List ℕ)) (end : Closed) (from to : Seen) (other : Connects shown_by imported_by begun_by heard blank end from to) (holder : List ℕ) (subject : Subject)
    → is_issuer holder ≡ false → from.state.today ≡ old.state.today → AgreeOnHolder holder old.state from.state → other.bytes ≡ one.bytes → Asks one.bytes holder subject → new.corruptions ≡ 0 → to.corruptions ≡ 0
    → IsAlike one.text other.text
