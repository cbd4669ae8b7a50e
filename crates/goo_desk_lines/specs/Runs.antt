-- What a run of lines comes to, however it ends.
use Rattle.std.specs.Prelude.{◌≡◌, ◌≢◌, ◌⊎◌, ℕ, [], ◌∷◌, ◌++◌, List, Option, Result, Ok, Err, IfOk, IfErr, OnOk}
use Rattle.std.specs.Io.KnownBytes.{Appends, Consumes}
use Rattle.goo_files_streams.specs.Streams.{AppendsPrefix, IsWhole}
use Rattle.goo_spec.specs.Promise.{IsPromised}
use Rattle.goo_spec.specs.Sound.{IsSound}
use Rattle.goo_spec.specs.State.{State}
use Rattle.goo_core_shelf.specs.Crash.{FindsEither}
use Rattle.goo_core_shelf.specs.Desk.{Seen}
use Rattle.goo_desk_lines.specs.Fold.{Answered, answering, text_with, with_next}
use Rattle.goo_desk_lines.specs.Lines.{lines_of}
use Rattle.goo_desk_lines.specs.Requests.{requests_of}
use Rattle.goo_desk_lines.specs.Stops.{IsTurnedDown}
use Rattle.goo_desk_lines.specs.declared.lines_fault.LinesFault.{LinesFault}
use Rattle.goo_desk_lines.specs.declared.lines_fault.LinesFault.TheVariants.{Read, Write, Store, Memory}
use Rattle.goo_desk_lines.specs.declared.tally.Tally.{Tally}

-- how many lines were carried out and how many were not
pub record IsTallyOf (tally : Tally) (all : Answered) : Type 0 where
  pub good : tally.good ≡ all.good
  pub bad : tally.bad ≡ all.bad

module _ (old : State) (done : List (List ℕ)) (had has : Option (List ℕ)) where
  -- the answers before the last line's are written whole, and a beginning of that one
  pub record BreaksOff : Type 0 where
    pub first : List (List ℕ)
    pub last : List ℕ
    pub are : done ≡ first ++ last ∷ []
    pub mid : Option (List ℕ)
    pub whole : Appends had mid (answering old first).text
    pub begun : AppendsPrefix mid has (text_with (answering old first).state last)

  -- the answers are written whole; a fault of the writer comes within the last
  abbrev pub Writes : {T : Type 0} → Result T LinesFault → Type 0
  Writes (Ok x) = Appends had has (answering old done).text
  Writes (Err Store) = Appends had has (answering old done).text
  Writes (Err Memory) = Appends had has (answering old done).text
  Writes (Err Write) = BreaksOff
  Writes (Err Read) = ⊥

-- after a fault of the records, and where memory was refused, the state is known while there is no defect
abbrev pub IfKnown : {T : Type 0} → Result T LinesFault → Seen → Type 0 → Type 0
IfKnown (Ok x) new holds = holds
IfKnown (Err Write) new holds = holds
IfKnown (Err Read) new holds = holds
IfKnown (Err Store) new holds = new.defects ≡ 0 → holds
IfKnown (Err Memory) new holds = new.defects ≡ 0 → holds

module _ (old new : Seen) (had has : Option (List ℕ)) (leaves : Option State → Type 0) (result : Result Tally LinesFault) where
  -- The first of some lines were answered, and all of them where it ended well. What was written, the state, the promise and what a
  -- crash finds are those of these lines; a crash may find the next line carried out as well.
  pub record AnswersFirst (lines : List (List ℕ)) : Type 0 where
    pub done : List (List ℕ)
    pub left : List (List ℕ)
    pub order : lines ≡ done ++ left
    pub all : OnOk result (left ≡ [])
    pub tally : IfOk result (λ tally. IsTallyOf tally (answering old.state done))
    pub written : Writes old.state done had has result
    pub state : IfKnown result new (new.state ≡ (answering old.state done).state)
    pub promised : IsSound old.state → IsPromised old.state (requests_of done) (answering old.state done).state
    pub found : old.defects ≡ 0 → FindsEither leaves (answering old.state done).state (answering old.state (with_next done left)).state

  module _ (before after : Option (List ℕ)) (limit : ℕ) where
    -- the reader gave an input to its end, within the limit, and the first of its lines were answered
    pub record RunsWhole : Type 0 where
      pub input : List ℕ
      pub read : IsWhole before after limit input
      pub fault : IfErr result (λ fault. fault ≢ Read)
      pub answered : new.corruptions ≡ 0 → AnswersFirst (lines_of input)

    -- the reader gave a beginning, and nothing was applied or written
    pub record TurnsDown : Type 0 where
      pub begun : List ℕ
      pub given : Consumes before after begun
      pub down : IsTurnedDown result old new had has

    -- whether or not the reader tells its bytes
    abbrev pub RunsLines : Type 0
    RunsLines = RunsWhole ⊎ TurnsDown
