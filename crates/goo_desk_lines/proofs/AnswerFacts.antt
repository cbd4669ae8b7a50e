-- Answering one more line.
use Rattle.std.proofs.Common.{◌≡◌, ◌==◌, ◌≤◌, ◌+◌, ℕ, List, [], ◌∷◌, ◌++◌, refl, sym, arith, Option, ◌∙◌, length, length-append, ap, ◌<◌, true, false, Result, Ok, Err, IfErr, IsErrAnd, OnErr, Some, None, subst, inr}
use Rattle.std.proofs.lemmas.List.{append-nil}
use Rattle.std.proofs.lemmas.List.Splits.{length-slice_split}
use Rattle.std.proofs.lemmas.List.Sums.{count_by-le-length}
use Rattle.std.specs.Io.KnownBytes.{Appends, Keeps}
use Rattle.goo_files_streams.proofs.AppendsFacts.{appends-more, appends-none}
use Rattle.goo_files_streams.specs.declared.InputFault.{InputFault}
use Rattle.goo_files_streams.specs.declared.InputFault.TheVariants as reading
use Rattle.goo_types.specs.declared.fault.Fault.{Fault}
use Rattle.goo_types.specs.declared.fault.Fault.TheVariants as desk
use Rattle.goo_core_shelf.specs.Shelf.{IsTold}
use Rattle.goo_spec.specs.State.{State}
use Rattle.goo_desk_lines.specs.Faults.{of_reading, of_desk}
use Rattle.goo_desk_lines.specs.Lines.{lines_of}
use Rattle.goo_files_streams.specs.Streams.{IsBroken}
use Rattle.goo_desk_lines.specs.Answers.{answer_line, answer_text, answer_to, is_good, state_after}
use Rattle.goo_desk_lines.specs.Runs.{RunsLines}
use Rattle.goo_desk_lines.specs.Stops.{AnswersLine, IsToldIn, IsTurnedDown}
use Rattle.goo_core_shelf.specs.Desk.{Seen}
use Rattle.goo_desk_lines.specs.declared.answer.LineAnswer.{LineAnswer}
use Rattle.goo_desk_lines.specs.Fold.{Answered, answering, counted, nothing_answered, with_answer, with_line, with_lines}
use Rattle.goo_desk_lines.specs.declared.lines_fault.LinesFault.{LinesFault}
use Rattle.goo_desk_lines.specs.declared.tally.Tally.{Tally}

pub with-last : (a : Answered) (lines : List (List ℕ)) (line : List ℕ) → with_lines a (lines ++ line ∷ []) ≡ with_line (with_lines a lines) line
unfolding with_lines
with-last a [] line = refl
with-last a (first ∷ lines) line = with-last (with_line a first) lines line

-- the same answers, with no text so far
abbrev untold : Answered → Answered
untold a = record a { text = [] }

text-parts : (a : Answered) (line : List ℕ) → (with_line a line).text ≡ a.text ++ (with_line (untold a) line).text
text-parts a [] = sym (append-nil a.text)
text-parts a (b ∷ line) = refl

state-parts : (a : Answered) (line : List ℕ) → (with_line a line).state ≡ (with_line (untold a) line).state
state-parts a [] = refl
state-parts a (b ∷ line) = refl

good-parts : (a : Answered) (line : List ℕ) → (with_line a line).good ≡ (with_line (untold a) line).good
good-parts a [] = refl
good-parts a (b ∷ line) = refl

bad-parts : (a : Answered) (line : List ℕ) → (with_line a line).bad ≡ (with_line (untold a) line).bad
bad-parts a [] = refl
bad-parts a (b ∷ line) = refl

counted-is : (s : State) (t : Tally) (a : Answered) → s ≡ a.state → t.good ≡ a.good → t.bad ≡ a.bad → counted s t ≡ untold a
counted-is s t a state good bad = rw (state, good, bad) refl

-- what was answered so far, as the machine has it
pub record Stands (old new : State) (had has : Option (List ℕ)) (done : List (List ℕ)) (tally : Tally) : Type 0 where
  pub state : new ≡ (answering old done).state
  pub text : Appends had has (answering old done).text
  pub good : tally.good ≡ (answering old done).good
  pub bad : tally.bad ≡ (answering old done).bad

pub on_err : {T E P : Type 0} (r : Result T E) → P → OnErr r P
on_err (Ok x) p = tt
on_err (Err e) p = p

on-line : (s : State) (t : Tally) (line : List ℕ) → 0 < length line → with_line (counted s t) line ≡ with_answer (counted s t) (answer_to s line) (state_after s line)
on-line s t [] some = absurd (omega (arith, some))
on-line s t (b ∷ line) some = refl

-- a line that isn't empty, by its answer and the state after it
pub on-answer : (s new : State) (t : Tally) (line : List ℕ) (a : LineAnswer) → 0 < length line → a ≡ answer_to s line → new ≡ state_after s line → with_line (counted s t) line ≡ with_answer (counted s t) a new
on-answer s new t line a some answer state = rw (answer, state) (on-line s t line some)

pub answers-good : (s new : State) (t : Tally) (line : List ℕ) (a : LineAnswer) (had has : Option (List ℕ)) → 0 < length line → a ≡ answer_to s line → new ≡ state_after s line → is_good a ≡ true
    → Appends had has (answer_text a ++ 10 ∷ []) → AnswersLine line s new t (record { good = t.good + 1; bad = t.bad }) had has
unfolding answer_line
answers-good s new t line a had has some answer state good text =
    let whole = on-answer s new t line a some answer state in
    record { state = rw whole refl; text = rw whole text; good = rw (whole, good) refl; bad = rw (whole, good) refl }

pub answers-bad : (s new : State) (t : Tally) (line : List ℕ) (a : LineAnswer) (had has : Option (List ℕ)) → 0 < length line → a ≡ answer_to s line → new ≡ state_after s line → is_good a ≡ false
    → Appends had has (answer_text a ++ 10 ∷ []) → AnswersLine line s new t (record { good = t.good; bad = t.bad + 1 }) had has
unfolding answer_line
answers-bad s new t line a had has some answer state good text =
    let whole = on-answer s new t line a some answer state in
    record { state = rw whole refl; text = rw whole text; good = rw (whole, good) refl; bad = rw (whole, good) refl }

pub on-any-err : {T E : Type 0} (r : Result T E) (P : E → Type 0) → ((e : E) → P e) → IfErr r P
on-any-err (Ok x) P p = tt
on-any-err (Err e) P p = p e

-- no more lines than bytes, and one
pub lines-bound : (input : List ℕ) (done left : List (List ℕ)) → lines_of input ≡ done ++ left → length done ≤ length input + 1
lines-bound input done left order = omega (arith, length-slice_split (λ b. b == 10) input, count_by-le-length (λ b. b == 10) input, ap length order, length-append done left)

pub none-stand : (s : State) (w : Option (List ℕ)) → Stands s s w w [] (record { good = 0; bad = 0 })
unfolding with_lines
none-stand s w = record { state = refl; text = appends-none w; good = refl; bad = refl }

-- answering the line alone, with the state and the counts so far
alone : (s : State) (t : Tally) (a : Answered) (line : List ℕ) → s ≡ a.state → t.good ≡ a.good → t.bad ≡ a.bad → with_line (counted s t) line ≡ with_line (untold a) line
alone s t a line state good bad = ap (λ b. with_line b line) (counted-is s t a state good bad)

pub stands-next : (first s new : State) (had mid has : Option (List ℕ)) (done : List (List ℕ)) (line : List ℕ) (t after : Tally) → Stands first s had mid done t → AnswersLine line s new t after mid has
    → Stands first new had has (done ++ line ∷ []) after
stands-next first s new had mid has done line t after stood next =
    let a = answering first done in
    let last : answering first (done ++ line ∷ []) ≡ with_line a line = with-last (nothing_answered first) done line in
    let single = alone s t a line stood.state stood.good stood.bad in
    record {
      state = rw (last, state-parts a line) (next.state ∙ ap (λ (b : Answered). b.state) single);
      text = rw (last, text-parts a line) (appends-more had mid has a.text (with_line (untold a) line).text stood.text (rw single at next.text));
      good = rw (last, good-parts a line) (next.good ∙ ap (λ (b : Answered). b.good) single);
      bad = rw (last, bad-parts a line) (next.bad ∙ ap (λ (b : Answered). b.bad) single);
    }

-- a fault of the desk is told as the same fault of the lines
pub told_by_desk : (T : Type 0) {U : Type 0} (f : Fault) (r : Result U LinesFault) (n : ℕ) → IsErrAnd r (λ e. e ≡ of_desk f) → IsTold {T = T} (Err f) n → IsToldIn r n
told_by_desk T f (Ok x) n is told = absurd is
told_by_desk T {U} desk.Store (Err e) n is told = subst (λ (g : LinesFault). IsToldIn {T = U} (Err g) n) (sym is) told
told_by_desk T {U} desk.Memory (Err e) n is told = subst (λ (g : LinesFault). IsToldIn {T = U} (Err g) n) (sym is) told

-- a fault of the reader is none of the store
pub told_by_reader : {U : Type 0} (f : InputFault) (r : Result U LinesFault) (n : ℕ) → IsErrAnd r (λ e. e ≡ of_reading f) → n ≡ 0 → IsToldIn r n
told_by_reader f (Ok x) n is none = absurd is
told_by_reader {U} reading.Read (Err e) n is none = subst (λ (g : LinesFault). IsToldIn {T = U} (Err g) n) (sym is) none
told_by_reader {U} reading.TooLong (Err e) n is none = subst (λ (g : LinesFault). IsToldIn {T = U} (Err g) n) (sym is) none
told_by_reader {U} reading.Memory (Err e) n is none = subst (λ (g : LinesFault). IsToldIn {T = U} (Err g) n) (sym is) none

pub keeps-same : (w : Option (List ℕ)) → Keeps w w
keeps-same None = tt
keeps-same (Some a) = refl

-- nothing was read
turned_down : (f : InputFault) (r : Result Tally LinesFault) (s : Seen) (w : Option (List ℕ)) → IsErrAnd r (λ e. e ≡ of_reading f) → IsTurnedDown r s s w w
turned_down f (Ok x) s w is = absurd is
turned_down reading.Read (Err e) s w is = record { fault = rw is tt; seen = refl; silent = keeps-same w }
turned_down reading.TooLong (Err e) s w is = record { fault = rw is tt; seen = refl; silent = keeps-same w }
turned_down reading.Memory (Err e) s w is = record { fault = rw is tt; seen = refl; silent = keeps-same w }

pub turns_down : (f : InputFault) (r : Result Tally LinesFault) (s : Seen) (w : Option (List ℕ)) (leaves : Option State → Type 0) (before after : Option (List ℕ)) (limit : ℕ) → IsErrAnd r (λ e. e ≡ of_reading f) → IsBroken before after limit f
    → RunsLines s s w w leaves r before after limit
turns_down f r s w leaves before after limit is broken = inr (record { begun = broken.begun; given = broken.given; down = turned_down f r s w is })
