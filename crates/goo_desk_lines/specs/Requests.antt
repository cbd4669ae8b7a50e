-- The requests of some lines, and the answers to all of them.
use Rattle.std.specs.Prelude.{ℕ, Bool, true, false, List, [], ◌∷◌, map, Result, Ok, Err}
use Rattle.std.specs.List.{filter}
use Rattle.goo_types.specs.declared.outcome.Outcome.{Outcome}
use Rattle.goo_types.specs.declared.request.Request.{Request}
use Rattle.goo_spec.specs.State.{State}
use Rattle.goo_spec.specs.Run.{outcomes}
use Rattle.goo_desk_outcome.specs.declared.unreadable.Unreadable.{Unreadable}
use Rattle.goo_desk_lines.specs.Lines.{lines_of, request_in}
use Rattle.goo_desk_lines.specs.declared.answer.LineAnswer.{LineAnswer}
use Rattle.goo_desk_lines.specs.declared.answer.LineAnswer.TheVariants as answer

abbrev pub is_filled : List ℕ → Bool
is_filled [] = false
is_filled (b ∷ line) = true

-- what the lines state that aren't empty: a request each, or why there is none
abbrev pub stated : List (List ℕ) → List (Result Request Unreadable)
stated lines = map request_in (filter is_filled lines)

abbrev pub requests_among : List (Result Request Unreadable) → List Request
requests_among [] = []
requests_among (Ok q ∷ rest) = q ∷ requests_among rest
requests_among (Err reason ∷ rest) = requests_among rest

-- the requests of some lines
abbrev pub requests_of : List (List ℕ) → List Request
requests_of lines = requests_among (stated lines)

-- the requests of an input
abbrev pub requests_in : List ℕ → List Request
requests_in input = requests_of (lines_of input)

-- the outcomes of the requests, and in its place the reason of each line that states none
abbrev pub in_place : List (Result Request Unreadable) → List Outcome → List LineAnswer
in_place [] os = []
in_place (Err reason ∷ rest) os = answer.Unreadable reason ∷ in_place rest os
in_place (Ok q ∷ rest) [] = []
in_place (Ok q ∷ rest) (o ∷ os) = answer.Decided o ∷ in_place rest os

-- the answers to some lines
abbrev pub answers_of : State → List (List ℕ) → List LineAnswer
answers_of s lines = in_place (stated lines) (outcomes s (requests_of lines))
