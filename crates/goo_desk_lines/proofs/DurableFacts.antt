-- What a line leaves and what a crash finds of it, alone and after others.
use Rattle.std.proofs.Common.{◌≡◌, ◌∙◌, ℕ, List, [], ◌∷◌, ◌++◌, append_assoc, append-nil, length, ◌<◌, Option, Result, Ok, Err, IsErrAnd, OnOk, inl, refl, sym, ap, subst, arith}
use Rattle.goo_files_streams.proofs.AppendsFacts.{appends-kept, prefix-more}
use Rattle.goo_files_streams.specs.Streams.{AppendsPrefix}
use Rattle.goo_types.specs.declared.fault.Fault.{Fault}
use Rattle.goo_types.specs.declared.fault.Fault.TheVariants as desk
use Rattle.goo_spec.specs.State.{State}
use Rattle.goo_core_shelf.specs.Crash.{FindsOnly, FindsEither}
use Rattle.goo_core_shelf.specs.Desk.{Seen}
use Rattle.goo_desk_lines.specs.Answers.{answer_line, answer_text, answer_to, state_after}
use Rattle.goo_desk_lines.specs.Faults.{of_desk}
use Rattle.goo_desk_lines.specs.Fold.{Answered, answering, nothing_answered, state_with, text_with, with_line}
use Rattle.goo_desk_lines.specs.Runs.{AnswersFirst, BreaksOff}
use Rattle.goo_desk_lines.specs.Stops.{AnswersNext, FindsNext}
use Rattle.goo_desk_lines.specs.declared.answer.LineAnswer.{LineAnswer}
use Rattle.goo_desk_lines.specs.declared.lines_fault.LinesFault.{LinesFault}
use Rattle.goo_desk_lines.specs.declared.lines_fault.LinesFault.TheVariants.{Read, Write, Store, Memory}
use Rattle.goo_desk_lines.specs.declared.tally.Tally.{Tally}
use Rattle.goo_desk_lines.proofs.AnswerFacts.{Stands, keeps-same, with-last}
use Rattle.goo_desk_lines.proofs.PromiseFacts.{lines_promised}

abbrev Unit0 : Type 0
Unit0 = Unit {0}

-- a line that isn't empty
state-on : (s : State) (line : List ℕ) → 0 < length line → state_with s line ≡ state_after s line
state-on s [] some = absurd (omega (arith, some))
state-on s (b ∷ line) some = refl

text-on : (s : State) (line : List ℕ) (a : LineAnswer) → 0 < length line → a ≡ answer_to s line → answer_text a ++ 10 ∷ [] ≡ text_with s line
unfolding answer_line
text-on s [] a some is = absurd (omega (arith, some))
text-on s (b ∷ line) a some is = rw is refl

-- the desk failed, so nothing was written
pub passed_over : (r : Result Unit0 LinesFault) (f : Fault) (line : List ℕ) (s : State) (new : Seen) (t after : Tally) (w : Option (List ℕ)) → IsErrAnd r (λ e. e ≡ of_desk f) → (new.defects ≡ 0 → new.state ≡ s) → AnswersNext line s new t after w w r
passed_over (Ok x) f line s new t after w is same = absurd is
passed_over (Err e) desk.Store line s new t after w is same = subst (λ g. AnswersNext line s new t after w w (Err g)) (sym is) (record { state = same; silent = keeps-same w })
passed_over (Err e) desk.Memory line s new t after w is same = subst (λ g. AnswersNext line s new t after w w (Err g)) (sym is) (record { state = same; silent = keeps-same w })

pub found_failed : (r : Result Unit0 LinesFault) (f : Fault) (line : List ℕ) (s : State) (leaves : Option State → Type 0) → IsErrAnd r (λ e. e ≡ of_desk f) → 0 < length line → FindsEither leaves s (state_after s line) → FindsNext line s leaves r
found_failed (Ok x) f line s leaves is some either = absurd is
found_failed (Err e) desk.Store line s leaves is some either = subst (λ g. FindsNext line s leaves (Err g)) (sym is) (subst (FindsEither leaves s) (sym (state-on s line some)) either)
found_failed (Err e) desk.Memory line s leaves is some either = subst (λ g. FindsNext line s leaves (Err g)) (sym is) (subst (FindsEither leaves s) (sym (state-on s line some)) either)

-- the writer failed
pub begun_next : (r : Result Unit0 LinesFault) (line : List ℕ) (s : State) (new : Seen) (a : LineAnswer) (t after : Tally) (had has : Option (List ℕ)) → IsErrAnd r (λ e. e ≡ Write) → 0 < length line → a ≡ answer_to s line → new.state ≡ state_after s line
    → AppendsPrefix had has (answer_text a ++ 10 ∷ []) → AnswersNext line s new t after had has r
begun_next (Ok x) line s new a t after had has is some told state text = absurd is
begun_next (Err e) line s new a t after had has is some told state text =
    subst (λ g. AnswersNext line s new t after had has (Err g)) (sym is) (record { state = state ∙ sym (state-on s line some); begun = subst (AppendsPrefix had has) (text-on s line a some told) text })

pub found_begun : (r : Result Unit0 LinesFault) (line : List ℕ) (s new : State) (leaves : Option State → Type 0) → IsErrAnd r (λ e. e ≡ Write) → 0 < length line → new ≡ state_after s line → FindsOnly leaves new → FindsNext line s leaves r
found_begun (Ok x) line s new leaves is some state only = absurd is
found_begun (Err e) line s new leaves is some state only = subst (λ g. FindsNext line s leaves (Err g)) (sym is) (subst (FindsOnly leaves) (state ∙ sym (state-on s line some)) only)

-- the line was passed over
pub found_empty : (line : List ℕ) (s : State) (leaves : Option State → Type 0) → length line ≡ 0 → FindsOnly leaves s → FindsOnly leaves (state_with s line)
found_empty [] s leaves none only = only
found_empty (b ∷ line) s leaves none only = absurd (omega (arith, none))

-- the line was answered
pub found_done : (line : List ℕ) (s new : State) (leaves : Option State → Type 0) → 0 < length line → new ≡ state_after s line → FindsOnly leaves new → FindsOnly leaves (state_with s line)
found_done line s new leaves some state only = subst (FindsOnly leaves) (state ∙ sym (state-on s line some)) only

pub on_ok_failed : {T : Type 0} (r : Result T LinesFault) (P : LinesFault → Type 0) (Q : Type 0) → IsErrAnd r P → OnOk r Q
on_ok_failed (Ok x) P Q is = absurd is
on_ok_failed (Err e) P Q is = tt

state-more : (a : Answered) (line : List ℕ) → (with_line a line).state ≡ state_with a.state line
state-more a [] = refl
state-more a (b ∷ line) = refl

-- what the lines so far and this one leave
state-next : (first s : State) (done : List (List ℕ)) (line : List ℕ) → s ≡ (answering first done).state → state_with s line ≡ (answering first (done ++ line ∷ [])).state
state-next first s done line same =
    ap (λ u. state_with u line) same ∙ sym (state-more (answering first done) line) ∙ ap (λ (b : Answered). b.state) (sym (with-last (nothing_answered first) done line))

module _ (first new : Seen) (s : State) (had mid has : Option (List ℕ)) (leaves : Option State → Type 0) (lines done left : List (List ℕ)) (line : List ℕ) (t after : Tally) (order : lines ≡ done ++ line ∷ left) (stood : Stands first.state s had mid done t) where
  -- the next line stopped it
  pub stopped_at : (r : Result Tally LinesFault) (e : LinesFault) → IsErrAnd r (λ f. f ≡ e) → AnswersNext line s new t after mid has (Err e) → (first.defects ≡ 0 → FindsNext line s leaves (Err e)) → AnswersFirst first new had has leaves r lines
  stopped_at (Ok x) e is next find = absurd is
  stopped_at (Err f) Store is next find = subst (λ g. AnswersFirst first new had has leaves (Err g) lines) (sym is) (record {
    done = done;
    left = line ∷ left;
    order = order;
    all = tt;
    tally = tt;
    written = appends-kept had mid has (answering first.state done).text stood.text next.silent;
    state = λ sure. next.state sure ∙ stood.state;
    promised = lines_promised first.state done;
    found = λ sure. subst (λ u. FindsEither leaves u (answering first.state (done ++ line ∷ [])).state) stood.state (subst (FindsEither leaves s) (state-next first.state s done line stood.state) (find sure));
  })
  stopped_at (Err f) Memory is next find = subst (λ g. AnswersFirst first new had has leaves (Err g) lines) (sym is) (record {
    done = done;
    left = line ∷ left;
    order = order;
    all = tt;
    tally = tt;
    written = appends-kept had mid has (answering first.state done).text stood.text next.silent;
    state = λ sure. next.state sure ∙ stood.state;
    promised = lines_promised first.state done;
    found = λ sure. subst (λ u. FindsEither leaves u (answering first.state (done ++ line ∷ [])).state) stood.state (subst (FindsEither leaves s) (state-next first.state s done line stood.state) (find sure));
  })
  stopped_at (Err f) Write is next find = subst (λ g. AnswersFirst first new had has leaves (Err g) lines) (sym is) (record {
    done = done ++ line ∷ [];
    left = left;
    order = order ∙ sym (append_assoc done (line ∷ []) left);
    all = tt;
    tally = tt;
    written = record { first = done; last = line; are = refl; mid = mid; whole = stood.text; begun = subst (λ u. AppendsPrefix mid has (text_with u line)) stood.state next.begun };
    state = next.state ∙ state-next first.state s done line stood.state;
    promised = lines_promised first.state (done ++ line ∷ []);
    found = λ sure o may. inl (subst (FindsOnly leaves) (state-next first.state s done line stood.state) (find sure) o may);
  })
  stopped_at (Err f) Read is next find = absurd next

-- all were answered
pub answered_all : (first new : Seen) (had has : Option (List ℕ)) (leaves : Option State → Type 0) (lines done : List (List ℕ)) (t : Tally) → lines ≡ done ++ [] → Stands first.state new.state had has done t → (first.defects ≡ 0 → FindsOnly leaves new.state)
    → AnswersFirst first new had has leaves (Ok t) lines
answered_all first new had has leaves lines done t order stood only = record {
  done = done;
  left = [];
  order = order;
  all = refl;
  tally = record { good = stood.good; bad = stood.bad };
  written = stood.text;
  state = stood.state;
  promised = lines_promised first.state done;
  found = λ sure o may. inl (subst (FindsOnly leaves) stood.state (only sure) o may);
}

text-more : (a : Answered) (line : List ℕ) → (with_line a line).text ≡ a.text ++ text_with a.state line
text-more a [] = sym (append-nil a.text)
text-more a (b ∷ line) = refl

-- what was written of an answer that broke off is a beginning of all answers
pub broken_begins : (s : State) (done : List (List ℕ)) (had has : Option (List ℕ)) → BreaksOff s done had has → AppendsPrefix had has (answering s done).text
broken_begins s done had has it =
    let first = answering s it.first in
    let same : first.text ++ text_with first.state it.last ≡ (answering s done).text =
    sym (text-more first it.last) ∙ ap (λ (b : Answered). b.text) (sym (with-last (nothing_answered s) it.first it.last)) ∙ ap (λ d. (answering s d).text) (sym it.are) in
    subst (AppendsPrefix had has) same (prefix-more had it.mid has first.text (text_with first.state it.last) it.whole it.begun)
