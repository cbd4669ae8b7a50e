-- What a command makes of the lines of its input, however it ends.
use Rattle.std.specs.Prelude.{◌≡◌, ◌≢◌, ◌⊎◌, ◌<◌, ℕ, List, [], ◌++◌, Option}
use Rattle.std.specs.Io.KnownBytes.{Appends, Consumes}
use Rattle.goo_files_streams.specs.Streams.{AppendsPrefix, IsWhole}
use Rattle.goo_spec.specs.Promise.{IsPromised}
use Rattle.goo_spec.specs.Sound.{IsSound}
use Rattle.goo_spec.specs.State.{State}
use Rattle.goo_core_shelf.specs.Crash.{FindsEither}
use Rattle.goo_core_shelf.specs.Desk.{Seen}
use Rattle.goo_desk_lines.specs.Fold.{answering, with_next}
use Rattle.goo_desk_lines.specs.Lines.{lines_of}
use Rattle.goo_desk_lines.specs.Requests.{requests_of}
use Rattle.goo_cli_ending.specs.Endings.{status_of}
use Rattle.goo_cli_ending.specs.declared.ending.Ending.{Ending}
use Rattle.goo_cli_ending.specs.declared.ending.Ending.TheVariants as ending
use Rattle.goo_cli_ending.specs.declared.ending.Failure.TheVariants as failure

-- all was done just where no line was refused or unreadable
abbrev pub Tells : Ending → (bad : ℕ) → Type 0
Tells ending.Done bad = bad ≡ 0
Tells ending.PartlyDone bad = bad ≢ 0
Tells _ bad = Unit {0}

-- the whole text was written; after a fault of the output, a beginning of it
abbrev pub Writes : Ending → (had has : Option (List ℕ)) → List ℕ → Type 0
Writes (ending.Failed failure.Write) had has text = AppendsPrefix had has text
Writes _ had has text = Appends had has text

-- the input was turned down: it could not be read, was too long, or there was no room for it
abbrev pub IsTurnedDown : Ending → Type 0
IsTurnedDown (ending.Failed failure.Read) = Unit {0}
IsTurnedDown (ending.Failed failure.Memory) = Unit {0}
IsTurnedDown _ = ⊥

-- lines were answered, so the fault is none of the input
abbrev pub IsRead : Ending → Type 0
IsRead (ending.Failed failure.Read) = ⊥
IsRead _ = Unit {0}

-- a desk has this state; after a fault of the records, and where memory was refused, while there is no defect
abbrev pub HasState : Ending → Seen → State → Type 0
HasState (ending.Failed failure.Store) new s = new.defects ≡ 0 → new.state ≡ s
HasState (ending.Failed failure.Memory) new s = new.defects ≡ 0 → new.state ≡ s
HasState _ new s = new.state ≡ s

-- where there was no defect before, a crash finds the one or the other
abbrev pub MayFind : Seen → (Option State → Type 0) → State → State → Type 0
MayFind old leaves s t = old.defects ≡ 0 → FindsEither leaves s t

module _ (told : Ending) (old : State) (had has : Option (List ℕ)) (Holds : State → Type 0) (Finds : State → State → Type 0) (before after : Option (List ℕ)) where
  -- `done` and then `left` are the lines of an input that was read to its end, within the limit; one that was turned down counts as none
  abbrev pub AreLines : List ℕ → (done left : List (List ℕ)) → Type 0
  AreLines input done left = (IsRead told × IsWhole before after 16_777_216 input × (lines_of input ≡ done ++ left)) ⊎ (IsTurnedDown told × (done ≡ []) × (left ≡ []))

  -- The reader gave an input, all that it has where it tells that and the input was read to its end, and the first of its lines were
  -- answered. What is told and written, the state, the promise and what a crash finds are those of these lines; a crash may find the next
  -- line carried out as well.
  pub record RunsInput : Type 0 where
    pub input : List ℕ
    pub given : Consumes before after input
    pub done : List (List ℕ)
    pub left : List (List ℕ)
    pub lines : AreLines input done left
    pub all : status_of told < 2 → left ≡ []
    pub tells : Tells told (answering old done).bad
    pub written : Writes told had has (answering old done).text
    pub holds : Holds (answering old done).state
    pub promised : IsSound old → IsPromised old (requests_of done) (answering old done).state
    pub found : Finds (answering old done).state (answering old (with_next done left)).state
