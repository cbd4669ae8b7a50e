-- Where an answering of lines stops, and what stands then.
use Rattle.std.specs.Prelude.{◌≡◌, ℕ, List, Option, Result, Ok, Err, IsErrAnd, OnOk}
use Rattle.std.specs.Io.KnownBytes.{Appends, Keeps}
use Rattle.goo_files_streams.specs.Streams.{AppendsPrefix}
use Rattle.goo_spec.specs.State.{State}
use Rattle.goo_core_shelf.specs.Crash.{FindsOnly, FindsEither}
use Rattle.goo_core_shelf.specs.Desk.{Seen, StaysSure}
use Rattle.goo_desk_lines.specs.Fold.{counted, state_with, text_with, with_line}
use Rattle.goo_desk_lines.specs.declared.lines_fault.LinesFault.{LinesFault}
use Rattle.goo_desk_lines.specs.declared.lines_fault.LinesFault.TheVariants.{Read, Write, Store, Memory}
use Rattle.goo_desk_lines.specs.declared.tally.Tally.{Tally}

-- one line was answered: the state, what was written, and the counts
pub record AnswersLine (line : List ℕ) (old new : State) (before after : Tally) (had has : Option (List ℕ)) : Type 0 where
  pub state : new ≡ (with_line (counted old before) line).state
  pub text : Appends had has (with_line (counted old before) line).text
  pub good : after.good ≡ (with_line (counted old before) line).good
  pub bad : after.bad ≡ (with_line (counted old before) line).bad

-- the line was not carried out, and nothing written
pub record PassesOver (old : State) (new : Seen) (had has : Option (List ℕ)) : Type 0 where
  pub state : new.defects ≡ 0 → new.state ≡ old
  pub silent : Keeps had has

-- the line was carried out, and a beginning of its answer written
pub record BeginsLine (line : List ℕ) (old new : State) (had has : Option (List ℕ)) : Type 0 where
  pub state : new ≡ state_with old line
  pub begun : AppendsPrefix had has (text_with old line)

-- what became of one line
abbrev pub AnswersNext : List ℕ → State → Seen → (before after : Tally) → (had has : Option (List ℕ)) → Result (Unit {0}) LinesFault → Type 0
AnswersNext line old new before after had has (Ok done) = AnswersLine line old new.state before after had has
AnswersNext line old new before after had has (Err Store) = PassesOver old new had has
AnswersNext line old new before after had has (Err Memory) = PassesOver old new had has
AnswersNext line old new before after had has (Err Write) = BeginsLine line old new.state had has
AnswersNext line old new before after had has (Err Read) = ⊥

-- what a crash finds of it: no answer is written before its request is found again
abbrev pub FindsNext : List ℕ → State → (Option State → Type 0) → Result (Unit {0}) LinesFault → Type 0
FindsNext line old leaves (Ok done) = FindsOnly leaves (state_with old line)
FindsNext line old leaves (Err Write) = FindsOnly leaves (state_with old line)
FindsNext line old leaves (Err Store) = FindsEither leaves old (state_with old line)
FindsNext line old leaves (Err Memory) = FindsEither leaves old (state_with old line)
FindsNext line old leaves (Err Read) = ⊥

-- the fault came before the first line
abbrev pub IsBeforeLines : LinesFault → Type 0
IsBeforeLines Read = Unit {0}
IsBeforeLines Memory = Unit {0}
IsBeforeLines Store = ⊥
IsBeforeLines Write = ⊥

-- a fault of the store is told just where a call was refused
abbrev pub IsToldIn : {T : Type 0} → Result T LinesFault → ℕ → Type 0
IsToldIn (Ok x) refusals = refusals ≡ 0
IsToldIn (Err Store) refusals = refusals ≡ 1
IsToldIn (Err Read) refusals = refusals ≡ 0
IsToldIn (Err Write) refusals = refusals ≡ 0
IsToldIn (Err Memory) refusals = refusals ≡ 0

-- what becomes of a desk: no corruption is forgotten, a refused call is told, and only a failed one brings a defect
pub record LeavesDesk {T : Type 0} (old new : Seen) (result : Result T LinesFault) : Type 0 where
  pub corruptions_stay : new.corruptions ≡ 0 → old.corruptions ≡ 0
  pub told : old.refusals ≡ 0 → IsToldIn result new.refusals
  pub works : new.corruptions ≡ 0 → old.defects ≡ 0 → OnOk result (new.defects ≡ 0)
  pub stays : new.corruptions ≡ 0 → old.defects ≡ 0 → StaysSure old new

-- the input was turned down as a whole: nothing was applied, and nothing written
pub record IsTurnedDown (result : Result Tally LinesFault) (old new : Seen) (had has : Option (List ℕ)) : Type 0 where
  pub fault : IsErrAnd result IsBeforeLines
  pub seen : new ≡ old
  pub silent : Keeps had has
