-- Refused and repeated requests, left out of a list.
use Rattle.std.specs.Prelude.{◌≡◌, List}
use Rattle.std.specs.List.{filter}
use Rattle.goo_types.specs.declared.outcome.Outcome.{Outcome}
use Rattle.goo_types.specs.declared.request.Request.{Request}
use Rattle.goo_spec.specs.State.{State}
use Rattle.goo_spec.specs.Run.{outcomes, final, accepted}
use Rattle.goo_spec.specs.Known.{is_accepted}

-- A registry in the state s gave the requests qs these outcomes, and came to the state t. Without the refused and the repeated requests
-- it comes to the same state, and the others have the same outcomes.
pub record OthersMakeNoDifference (s : State) (qs : List Request) (given : List Outcome) (t : State) : Type 0 where
  pub state : t ≡ final s (accepted s qs)
  pub outcomes_are : filter is_accepted given ≡ outcomes s (accepted s qs)

-- so it is of every list of requests and of every state
abbrev pub OthersNeverMakeADifference : Type 0
OthersNeverMakeADifference = (s : State) (qs : List Request) → OthersMakeNoDifference s qs (outcomes s qs) (final s qs)
