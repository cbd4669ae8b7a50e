-- What answering lines in turn comes to.
use Rattle.std.specs.Prelude.{ℕ, ◌+◌, List, [], ◌∷◌, ◌++◌, if◌then◌else◌}
use Rattle.goo_spec.specs.State.{State}
use Rattle.goo_desk_lines.specs.Lines.{lines_of}
use Rattle.goo_desk_lines.specs.Answers.{answer_to, state_after, answer_line, is_good}
use Rattle.goo_desk_lines.specs.declared.answer.LineAnswer.{LineAnswer}
use Rattle.goo_desk_lines.specs.declared.tally.Tally.{Tally}

-- the text that is written, the state, and how many lines were carried out and how many were not
pub record Answered : Type 0 where
  pub text : List ℕ
  pub state : State
  pub good : ℕ
  pub bad : ℕ

abbrev pub nothing_answered : State → Answered
nothing_answered s = record { text = []; state = s; good = 0; bad = 0 }

-- one more answer, and the state that it leaves
abbrev pub with_answer : Answered → LineAnswer → State → Answered
with_answer a given after = record {
  text = a.text ++ answer_line given;
  state = after;
  good = if is_good given then a.good + 1 else a.good;
  bad = if is_good given then a.bad else a.bad + 1;
}

-- a line is answered, or passed over where it is empty
abbrev pub with_line : Answered → List ℕ → Answered
with_line a [] = a
with_line a (b ∷ line) = with_answer a (answer_to a.state (b ∷ line)) (state_after a.state (b ∷ line))

unfoldable pub with_lines : Answered → List (List ℕ) → Answered
with_lines a [] = a
with_lines a (line ∷ lines) = with_lines (with_line a line) lines

-- these lines in turn, from a state
abbrev pub answering : State → List (List ℕ) → Answered
answering s lines = with_lines (nothing_answered s) lines

-- the lines of an input in turn
abbrev pub lines : State → List ℕ → Answered
lines s input = answering s (lines_of input)

-- the state and the counts so far, with no text
abbrev pub counted : State → Tally → Answered
counted s t = record { text = []; state = s; good = t.good; bad = t.bad }

-- the state that a line leaves, and the text of its answer: the empty one where it is passed over
abbrev pub state_with : State → List ℕ → State
state_with s line = (with_line (nothing_answered s) line).state

abbrev pub text_with : State → List ℕ → List ℕ
text_with s line = (with_line (nothing_answered s) line).text

-- some lines, and the next one as well
abbrev pub with_next : List (List ℕ) → List (List ℕ) → List (List ℕ)
with_next done [] = done
with_next done (line ∷ left) = done ++ line ∷ []
