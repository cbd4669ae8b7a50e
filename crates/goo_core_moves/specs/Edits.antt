-- How many edits of the rows a command takes, and for which numbers.
use Rattle.std.specs.Prelude.{ℕ, List, [], ◌∷◌, length, map}
use Rattle.std.specs.Option.{option_to_list}
use Rattle.std.specs.FinMap.{get}
use Rattle.goo_types.specs.declared.command.Command.{Command}
use Rattle.goo_types.specs.declared.command.Command.TheVariants.{Declare, Correct, Transfer, Cancel, Withdraw, Advance, Export, Import}
use Rattle.goo_types.specs.declared.piece.Piece.{Piece}
use Rattle.goo_core_shelf.specs.Rows.{expiring_on}
use Rattle.goo_types.specs.Range.{Numbers}
use Rattle.goo_spec.specs.Declare.{range_of, next_number, earned}
use Rattle.goo_spec.specs.State.{State}
use Rattle.goo_core_moves.specs.AccountRuns.{account_runs, runs_in}

-- at most: one, but one for each run of one account that is withdrawn, for each row that expires, and for each part that is taken in
abbrev pub most_edits : State → List Piece → Command → ℕ
most_edits s rows (Declare x) = 1
most_edits s rows (Correct x) = runs_in (get s.at) x.range
most_edits s rows (Transfer x) = 1
most_edits s rows (Cancel x) = 1
most_edits s rows (Withdraw x) = account_runs (get s.at) x.range
most_edits s rows (Advance x) = length (expiring_on x.day rows)
most_edits s rows (Export x) = 1
most_edits s rows (Import x) = length x.notice.parts
most_edits s rows _ = 0

-- the numbers of the certificates that a command issues, moves or takes in; the date moves on by rows and not by numbers
abbrev pub edited_ranges : State → Command → List Numbers
edited_ranges s (Declare x) = option_to_list (range_of (next_number s) (earned s x))
edited_ranges s (Correct x) = option_to_list x.range
edited_ranges s (Transfer x) = x.range ∷ []
edited_ranges s (Cancel x) = x.range ∷ []
edited_ranges s (Withdraw x) = x.range ∷ []
edited_ranges s (Export x) = x.range ∷ []
edited_ranges s (Import x) = map (λ p. p.range) x.notice.parts
edited_ranges s _ = []
