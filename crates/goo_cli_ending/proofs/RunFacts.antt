-- A run of lines, by how it ended.
use Rattle.std.proofs.Common.{arith, ◌≡◌, ◌≢◌, ◌∙◌, ◌==◌, sym, refl, ap, ℕ, zero, suc, List, [], Bool, true, false, true≢false, Option, Some, Result, Ok, Err, inl, inr}
use Rattle.std.specs.Prelude.{if◌then◌else◌}
use Rattle.std.proofs.lemmas.Bool.Decides.{nat_tests}
use Rattle.std.specs.Io.KnownBytes.{IsAtEnd, Keeps}
use Rattle.std.proofs.KnownBytes.{Appends-kept, Appends-nil, Keeps-trans}
use Rattle.goo_files_streams.proofs.AppendsFacts.{prefix-whole}
use Rattle.goo_files_streams.specs.Streams.{AppendsPrefix, IsWhole}
use Rattle.goo_spec.specs.State.{State}
use Rattle.goo_core_shelf.specs.Crash.{FindsOnly}
use Rattle.goo_core_shelf.specs.Desk.{Seen}
use Rattle.goo_desk_lines.specs.Fold.{with_lines}
use Rattle.goo_desk_lines.specs.Lines.{lines_of}
use Rattle.goo_desk_lines.specs.Runs.{AnswersFirst, RunsLines, TurnsDown}
use Rattle.goo_desk_lines.specs.declared.lines_fault.LinesFault.{LinesFault}
use Rattle.goo_desk_lines.specs.declared.lines_fault.LinesFault.TheVariants as fault
use Rattle.goo_desk_lines.specs.declared.tally.Tally.{Tally}
use Rattle.goo_desk_lines.proofs.DurableFacts.{broken_begins}
use Rattle.goo_desk_lines.proofs.PromiseFacts.{lines_promised}
use Rattle.goo_cli_ending.specs.declared.ending.Ending.{Ending}
use Rattle.goo_cli_ending.specs.declared.ending.Ending.TheVariants as ending
use Rattle.goo_cli_ending.specs.Endings.{ending_of, IsAfterInput}
use Rattle.goo_cli_ending.specs.Runs.{HasState, MayFind, RunsInput}

is_none : (n : ℕ) → (n == 0) ≡ true → n ≡ 0
is_none zero is = refl
is_none (suc n) is = let some : (suc n == 0) ≡ false = grind (arith, nat_tests) in absurd (true≢false (sym is ∙ some))

is_some : (n : ℕ) → (n == 0) ≡ false → n ≢ 0
is_some zero is = absurd (true≢false is)
is_some (suc n) is = λ none. omega (arith, none)

prefix-kept : (had mid has : Option (List ℕ)) (text : List ℕ) → AppendsPrefix had mid text → Keeps mid has → AppendsPrefix had has text
prefix-kept had mid has text (count, begun) same = (count, Appends-kept had mid has _ begun same)

module _ (old new : Seen) (had mid has : Option (List ℕ)) (leaves : Option State → Type 0) (before after : Option (List ℕ)) (same : Keeps mid has) where
  abbrev Ended : Ending → Type 0
  Ended told = RunsInput told old.state had has (HasState told new) (MayFind old leaves) before after

  by_counts : (b : Bool) (tally : Tally) → b ≡ (tally.bad == 0) → (input : List ℕ) → IsWhole before after 16777216 input → AnswersFirst old new had mid leaves (Ok tally) (lines_of input) → Ended (if b then ending.Done else ending.PartlyDone)
  by_counts true tally is input whole it = record {
    input = input;
    given = whole.given;
    done = it.done;
    left = it.left;
    lines = inl (tt, whole, it.order);
    all = λ low. it.all;
    tells = sym it.tally.bad ∙ is_none tally.bad (sym is);
    written = Appends-kept had mid has _ it.written same;
    holds = it.state;
    promised = it.promised;
    found = it.found;
  }
  by_counts false tally is input whole it = record {
    input = input;
    given = whole.given;
    done = it.done;
    left = it.left;
    lines = inl (tt, whole, it.order);
    all = λ low. it.all;
    tells = λ none. is_some tally.bad (sym is) (it.tally.bad ∙ none);
    written = Appends-kept had mid has _ it.written same;
    holds = it.state;
    promised = it.promised;
    found = it.found;
  }

  -- the input was read to its end
  ran : (answered : Result Tally LinesFault) (flushed : Bool) (input : List ℕ) → IsWhole before after 16777216 input → AnswersFirst old new had mid leaves answered (lines_of input) → Ended (ending_of answered flushed)
  ran (Ok tally) true input whole it = by_counts (tally.bad == 0) tally refl input whole it
  ran (Ok tally) false input whole it = record {
    input = input;
    given = whole.given;
    done = it.done;
    left = it.left;
    lines = inl (tt, whole, it.order);
    all = λ low. absurd (omega (arith, low));
    tells = tt;
    written = prefix-whole had has _ (Appends-kept had mid has _ it.written same);
    holds = it.state;
    promised = it.promised;
    found = it.found;
  }
  ran (Err fault.Store) flushed input whole it = record {
    input = input;
    given = whole.given;
    done = it.done;
    left = it.left;
    lines = inl (tt, whole, it.order);
    all = λ low. absurd (omega (arith, low));
    tells = tt;
    written = Appends-kept had mid has _ it.written same;
    holds = it.state;
    promised = it.promised;
    found = it.found;
  }
  ran (Err fault.Memory) flushed input whole it = record {
    input = input;
    given = whole.given;
    done = it.done;
    left = it.left;
    lines = inl (tt, whole, it.order);
    all = λ low. absurd (omega (arith, low));
    tells = tt;
    written = Appends-kept had mid has _ it.written same;
    holds = it.state;
    promised = it.promised;
    found = it.found;
  }
  ran (Err fault.Write) flushed input whole it = record {
    input = input;
    given = whole.given;
    done = it.done;
    left = it.left;
    lines = inl (tt, whole, it.order);
    all = λ low. absurd (omega (arith, low));
    tells = tt;
    written = prefix-kept had mid has _ (broken_begins old.state it.done had mid it.written) same;
    holds = it.state;
    promised = it.promised;
    found = it.found;
  }
  ran (Err fault.Read) flushed input whole it = absurd it.written

  -- it was turned down
  down : (answered : Result Tally LinesFault) (flushed : Bool) → TurnsDown old new had mid leaves answered before after 16777216 → (new.defects ≡ 0 → FindsOnly leaves new.state) → Ended (ending_of answered flushed)
  unfolding with_lines
  down (Ok tally) flushed it settled = absurd it.down.fault
  down (Err fault.Store) flushed it settled = absurd it.down.fault
  down (Err fault.Write) flushed it settled = absurd it.down.fault
  down (Err fault.Read) flushed it settled = record {
    input = it.begun;
    given = it.given;
    done = [];
    left = [];
    lines = inr (tt, refl, refl);
    all = λ low. refl;
    tells = tt;
    written = Appends-kept had had has [] (Appends-nil had) (Keeps-trans had mid has it.down.silent same);
    holds = ap (λ (m : Seen). m.state) it.down.seen;
    promised = lines_promised old.state [];
    found = λ sure o may. inl (settled (ap (λ (m : Seen). m.defects) it.down.seen ∙ sure) o may ∙ ap (λ (m : Seen). Some m.state) it.down.seen);
  }
  down (Err fault.Memory) flushed it settled = record {
    input = it.begun;
    given = it.given;
    done = [];
    left = [];
    lines = inr (tt, refl, refl);
    all = λ low. refl;
    tells = tt;
    written = Appends-kept had had has [] (Appends-nil had) (Keeps-trans had mid has it.down.silent same);
    holds = λ none. ap (λ (m : Seen). m.state) it.down.seen;
    promised = lines_promised old.state [];
    found = λ sure o may. inl (settled (ap (λ (m : Seen). m.defects) it.down.seen ∙ sure) o may ∙ ap (λ (m : Seen). Some m.state) it.down.seen);
  }

  pub runs_input : (answered : Result Tally LinesFault) (flushed : Bool) → RunsLines old new had mid leaves answered before after 16777216 → new.corruptions ≡ 0 → (new.defects ≡ 0 → FindsOnly leaves new.state) → Ended (ending_of answered flushed)
  runs_input answered flushed (inl it) honest settled = ran answered flushed it.input it.read (it.answered honest)
  runs_input answered flushed (inr it) honest settled = down answered flushed it settled

  turned_before : (answered : Result Tally LinesFault) (flushed : Bool) (AtEnd : Type 0) → TurnsDown old new had mid leaves answered before after 16777216 → IsAfterInput (ending_of answered flushed) → AtEnd
  turned_before (Ok tally) flushed AtEnd it told = absurd it.down.fault
  turned_before (Err fault.Store) flushed AtEnd it told = absurd it.down.fault
  turned_before (Err fault.Write) flushed AtEnd it told = absurd it.down.fault
  turned_before (Err fault.Read) flushed AtEnd it told = absurd told
  turned_before (Err fault.Memory) flushed AtEnd it told = absurd told

  pub after_input : (answered : Result Tally LinesFault) (flushed : Bool) → RunsLines old new had mid leaves answered before after 16777216 → IsAfterInput (ending_of answered flushed) → IsAtEnd after
  after_input answered flushed (inl it) told = it.read.end
  after_input answered flushed (inr it) told = turned_before answered flushed (IsAtEnd after) it told
