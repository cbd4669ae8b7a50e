-- The promise, of lines that were answered.
use Rattle.std.proofs.Common.{ℕ, List}
use Rattle.goo_spec.specs.State.{State}
use Rattle.goo_spec.specs.Sound.{IsSound}
use Rattle.goo_spec.specs.Promise.{IsPromised}
use Rattle.goo_spec.proofs.Promising.{promised}
use Rattle.goo_desk_lines.specs.Fold.{answering}
use Rattle.goo_desk_lines.specs.Requests.{requests_of}
use Rattle.goo_desk_lines.proofs.Obeying.{lines_obey}
use Rattle.goo_desk_lines.proofs.Runs.{lines_are_a_run}

-- after some lines, what is promised of their requests
pub lines_promised : (s : State) (some : List (List ℕ)) → IsSound s → IsPromised s (requests_of some) (answering s some).state
lines_promised s some sound = promised s (answering s some).state (requests_of some) (lines_obey some) sound (lines_are_a_run s some).state
