-- Lines behind lines.
use Rattle.std.proofs.Common.{◌≡◌, ◌∙◌, ℕ, List, [], ◌∷◌, ◌++◌, append_assoc, append-nil, Option, refl, sym, ap, subst, inl, inr}
use Rattle.std.specs.Prelude.{◌⊎◌}
use Rattle.goo_types.specs.declared.request.Request.{Request}
use Rattle.goo_spec.specs.Run.{final}
use Rattle.goo_spec.specs.Step.{next}
use Rattle.goo_spec.specs.State.{State}
use Rattle.goo_spec_again.specs.Whole.{OthersStay}
use Rattle.goo_spec_again.proofs.Whole.{lists_again}
use Rattle.goo_desk_lines.specs.Fold.{Answered, answering, nothing_answered, with_line, with_lines, with_next}
use Rattle.goo_desk_lines.specs.Requests.{requests_of}
use Rattle.goo_desk_lines.proofs.PromiseFacts.{lines_promised}
use Rattle.goo_desk_lines.proofs.Runs.{lines_are_a_run}
use Rattle.goo_cli_ending.specs.Runs.{RunsInput}
use Rattle.goo_cli_ending.specs.declared.ending.Ending.{Ending}
use Rattle.goo_cli_twice.specs.Lines.{AreHeld, AreSentAgain, GoesOn, Lines}

-- ---- the state and the text of lines behind lines

with-more : (a : Answered) (xs ys : Lines) → with_lines a (xs ++ ys) ≡ with_lines (with_lines a xs) ys
unfolding with_lines
with-more a [] ys = refl
with-more a (x ∷ xs) ys = with-more (with_line a x) xs ys

state_of_line : (a : Answered) (line : List ℕ) → (with_line a line).state ≡ (with_line (nothing_answered a.state) line).state
state_of_line a [] = refl
state_of_line a (b ∷ line) = refl

text_of_line : (a : Answered) (line : List ℕ) → (with_line a line).text ≡ a.text ++ (with_line (nothing_answered a.state) line).text
text_of_line a [] = sym (append-nil a.text)
text_of_line a (b ∷ line) = refl

state_from : (a b : Answered) (ys : Lines) → a.state ≡ b.state → (with_lines a ys).state ≡ (with_lines b ys).state
unfolding with_lines
state_from a b [] is = is
state_from a b (y ∷ ys) is = state_from (with_line a y) (with_line b y) ys (state_of_line a y ∙ ap (λ s. (with_line (nothing_answered s) y).state) is ∙ sym (state_of_line b y))

text_from : (a : Answered) (ys : Lines) → (with_lines a ys).text ≡ a.text ++ (answering a.state ys).text
unfolding with_lines
text_from a [] = sym (append-nil a.text)
text_from a (y ∷ ys) =
    let b = with_line (nothing_answered a.state) y in
    let later = ap (λ s. (answering s ys).text) (state_of_line a y) in
    text_from (with_line a y) ys
    ∙ (λ i. text_of_line a y i ++ later i)
    ∙ append_assoc a.text b.text (answering b.state ys).text
    ∙ ap (λ l. a.text ++ l) (sym (text_from b ys))

pub state_on : (s : State) (xs ys : Lines) → (answering s (xs ++ ys)).state ≡ (answering (answering s xs).state ys).state
state_on s xs ys = ap (λ (a : Answered). a.state) (with-more (nothing_answered s) xs ys) ∙ state_from (answering s xs) (nothing_answered (answering s xs).state) ys refl

pub text_on : (s : State) (xs ys : Lines) → (answering s (xs ++ ys)).text ≡ (answering s xs).text ++ (answering (answering s xs).state ys).text
text_on s xs ys = ap (λ (a : Answered). a.text) (with-more (nothing_answered s) xs ys) ∙ text_from (answering s xs) ys

next_on : (xs done left : Lines) → xs ++ with_next done left ≡ with_next (xs ++ done) left
next_on xs done [] = refl
next_on xs done (line ∷ left) = sym (append_assoc xs done (line ∷ []))

-- ---- lines that are sent again

final_on : (s : State) (part rest : List Request) → final s (part ++ rest) ≡ final (final s part) rest
final_on s [] rest = refl
final_on s (q ∷ part) rest = final_on (next s q) part rest

pub sent_again : (s : State) (part rest : Lines) → OthersStay s (requests_of part) (final s (requests_of part)) → AreSentAgain s part rest
sent_again s part rest others =
    let first = lines_are_a_run s part in
    let law = lists_again s (requests_of part) (requests_of rest) others in
    let mid = (answering s part).state in
    record {
      state =
          state_on mid part rest
          ∙ (lines_are_a_run (answering mid part).state rest).state
          ∙ ap (λ t. final t (requests_of rest)) ((lines_are_a_run mid part).state ∙ ap (λ t. final t (requests_of part)) first.state)
          ∙ sym (final_on (final s (requests_of part)) (requests_of part) (requests_of rest)) ∙ law.state ∙ final_on s (requests_of part) (requests_of rest)
          ∙ ap (λ t. final t (requests_of rest)) (sym first.state) ∙ sym (lines_are_a_run mid rest).state ∙ sym (state_on s part rest);
      requests = law;
    }

-- ---- a run that goes on

module _ (old : State) (done left : Lines) (told : Ending) (had has : Option (List ℕ)) (Holds : State → Type 0) (Finds : State → State → Type 0) (before after : Option (List ℕ)) where
  goes_on_from : (held : Lines) → AreHeld held done left → RunsInput told (answering old held).state had has Holds Finds before after → GoesOn old done left told had has Holds Finds before after
  goes_on_from held are second =
      let mid = (answering old held).state in
      record {
        held = held;
        are = are;
        second = second;
        text = text_on old held second.done;
        holds = subst Holds (sym (state_on old held second.done)) second.holds;
        promised = lines_promised old (held ++ second.done);
        found = subst (λ t. Finds (answering old (held ++ second.done)).state t) (sym (state_on old held (with_next second.done second.left)))
            (subst (λ s. Finds s (answering mid (with_next second.done second.left)).state) (sym (state_on old held second.done)) second.found);
        again = λ rest is others.
            let all = sent_again old held rest others in
            (all, subst Holds all.state (subst (λ l. Holds (answering mid l).state) is second.holds));
      }

  -- from the one state or the other
  pub goes_on : (middle : State) → (middle ≡ (answering old done).state) ⊎ (middle ≡ (answering old (with_next done left)).state) → RunsInput told middle had has Holds Finds before after → GoesOn old done left told had has Holds Finds before after
  goes_on middle (inl is) second = goes_on_from done (inl refl) (subst (λ s. RunsInput told s had has Holds Finds before after) is second)
  goes_on middle (inr is) second = goes_on_from (with_next done left) (inr refl) (subst (λ s. RunsInput told s had has Holds Finds before after) is second)
