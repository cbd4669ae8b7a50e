-- Answering some lines is a run of the requests that they state.
use Rattle.std.proofs.Common.{◌≡◌, ◌∙◌, ℕ, ◌+◌, Bool, true, false, not, cond, if◌then◌else◌, List, [], ◌∷◌, ◌++◌, append_assoc, Result, Ok, Err, refl, ap, sym, arith}
use Rattle.std.proofs.lemmas.List.{append-nil}
use Rattle.std.proofs.lemmas.List.Sums.{sum_by-cons}
use Rattle.std.specs.List.{count_by, flat_map}
use Rattle.goo_types.specs.declared.request.Request.{Request}
use Rattle.goo_spec.specs.State.{State}
use Rattle.goo_spec.specs.Run.{outcomes, final}
use Rattle.goo_desk_outcome.specs.declared.unreadable.Unreadable.{Unreadable}
use Rattle.goo_desk_lines.specs.Lines.{request_in}
use Rattle.goo_desk_lines.specs.Answers.{answer_by, state_by, answer_to, state_after, answer_line, is_good}
use Rattle.goo_desk_lines.specs.Fold.{Answered, with_answer, with_lines, nothing_answered}
use Rattle.goo_desk_lines.specs.Requests.{requests_among, in_place, stated}
use Rattle.goo_desk_lines.specs.Laws.{LinesAreARun}
use Rattle.goo_desk_lines.specs.declared.answer.LineAnswer.{LineAnswer}

abbrev is_bad : LineAnswer → Bool
is_bad a = not (is_good a)

-- the answers to what some lines state
abbrev answered : State → List (Result Request Unreadable) → List LineAnswer
answered s some = in_place some (outcomes s (requests_among some))

-- what is answered behind so much
record GoesOn (a : Answered) (some : List (Result Request Unreadable)) (all : Answered) : Type 0 where
  state : all.state ≡ final a.state (requests_among some)
  text : all.text ≡ a.text ++ flat_map answer_line (answered a.state some)
  good : all.good ≡ a.good + count_by is_good (answered a.state some)
  bad : all.bad ≡ a.bad + count_by is_bad (answered a.state some)

-- one more that is counted, or not
counts : (b : Bool) (n m k : ℕ) → m ≡ (if b then n + 1 else n) + k → m ≡ n + (cond b 1 0 + k)
counts true n m k is = omega (arith, is)
counts false n m k is = omega (arith, is)

counts_not : (b : Bool) (n m k : ℕ) → m ≡ (if b then n else n + 1) + k → m ≡ n + (cond (not b) 1 0 + k)
counts_not true n m k is = omega (arith, is)
counts_not false n m k is = omega (arith, is)

-- one answer, and then the others
with_first : (a : Answered) (given : LineAnswer) (after : State) (rest : List LineAnswer) (text : List ℕ) (good bad : ℕ) (some : List LineAnswer) → some ≡ given ∷ rest
    → text ≡ (with_answer a given after).text ++ flat_map answer_line rest → good ≡ (with_answer a given after).good + count_by is_good rest → bad ≡ (with_answer a given after).bad + count_by is_bad rest
    → (text ≡ a.text ++ flat_map answer_line some) × (good ≡ a.good + count_by is_good some) × (bad ≡ a.bad + count_by is_bad some)
with_first a given after rest text good bad some is texts goods bads = (
  texts ∙ append_assoc a.text (answer_line given) (flat_map answer_line rest) ∙ ap (λ l. a.text ++ flat_map answer_line l) (sym is),
  counts (is_good given) a.good good (count_by is_good rest) goods ∙ ap (λ k. a.good + k) (sym (sum_by-cons (λ x. cond (is_good x) 1 0) given rest)) ∙ ap (λ l. a.good + count_by is_good l) (sym is),
  counts_not (is_good given) a.bad bad (count_by is_bad rest) bads ∙ ap (λ k. a.bad + k) (sym (sum_by-cons (λ x. cond (is_bad x) 1 0) given rest)) ∙ ap (λ l. a.bad + count_by is_bad l) (sym is),
)

one_more : (a : Answered) (r : Result Request Unreadable) (some : List (Result Request Unreadable)) (all : Answered) → GoesOn (with_answer a (answer_by a.state r) (state_by a.state r)) some all → GoesOn a (r ∷ some) all
one_more a (Ok q) some all on =
    let first = with_first a (answer_by a.state (Ok q)) (state_by a.state (Ok q)) (answered (state_by a.state (Ok q)) some) all.text all.good all.bad (answered a.state (Ok q ∷ some)) refl on.text on.good on.bad in
    record { state = on.state; text = first.0; good = first.1; bad = first.2 }
one_more a (Err reason) some all on =
    let first = with_first a (answer_by a.state (Err reason)) (state_by a.state (Err reason)) (answered a.state some) all.text all.good all.bad (answered a.state (Err reason ∷ some)) refl on.text on.good on.bad in
    record { state = on.state; text = first.0; good = first.1; bad = first.2 }

goes_on : (a : Answered) (lines : List (List ℕ)) → GoesOn a (stated lines) (with_lines a lines)
unfolding with_lines answer_to state_after
goes_on a [] = record { state = refl; text = sym (append-nil a.text); good = omega arith; bad = omega arith }
goes_on a ([] ∷ lines) = goes_on a lines
goes_on a ((b ∷ line) ∷ lines) =
    let r = request_in (b ∷ line) in
    one_more a r (stated lines) (with_lines a ((b ∷ line) ∷ lines)) (goes_on (with_answer a (answer_by a.state r) (state_by a.state r)) lines)

from_none : (n k : ℕ) → n ≡ 0 + k → n ≡ k
from_none n k is = omega (arith, is)

pub lines_are_a_run : LinesAreARun
lines_are_a_run s lines =
    let on = goes_on (nothing_answered s) lines in
    record { state = on.state; text = on.text; good = from_none _ _ on.good; bad = from_none _ _ on.bad }
