-- Lines are a run of the requests that they state.
use Rattle.std.specs.Prelude.{◌≡◌, ℕ, List, not}
use Rattle.std.specs.List.{count_by, flat_map}
use Rattle.goo_spec.specs.State.{State}
use Rattle.goo_spec.specs.Run.{final}
use Rattle.goo_desk_lines.specs.Answers.{answer_line, is_good}
use Rattle.goo_desk_lines.specs.Fold.{Answered, answering}
use Rattle.goo_desk_lines.specs.Requests.{requests_of, answers_of}

-- lines came to the state of a run of their requests, to the text of its outcomes, each other line answered in its place, and to their counts
pub record IsRunOf (s : State) (lines : List (List ℕ)) (all : Answered) : Type 0 where
  pub state : all.state ≡ final s (requests_of lines)
  pub text : all.text ≡ flat_map answer_line (answers_of s lines)
  pub good : all.good ≡ count_by is_good (answers_of s lines)
  pub bad : all.bad ≡ count_by (λ a. not (is_good a)) (answers_of s lines)

-- for every state and all lines: those of an input, or its first ones
abbrev pub LinesAreARun : Type 0
LinesAreARun = (s : State) (lines : List (List ℕ)) → IsRunOf s lines (answering s lines)
