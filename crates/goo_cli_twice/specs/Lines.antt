-- A run of lines that goes on where another one ended.
use Rattle.std.specs.Prelude.{◌≡◌, ◌⊎◌, ℕ, List, ◌++◌, Option}
use Rattle.goo_spec.specs.Promise.{IsPromised}
use Rattle.goo_spec.specs.Run.{final}
use Rattle.goo_spec.specs.Sound.{IsSound}
use Rattle.goo_spec.specs.State.{State}
use Rattle.goo_spec_again.specs.Whole.{IsAsSentOnce, OthersStay}
use Rattle.goo_desk_lines.specs.Fold.{answering, with_next}
use Rattle.goo_desk_lines.specs.Requests.{requests_of}
use Rattle.goo_cli_ending.specs.Runs.{RunsInput}
use Rattle.goo_cli_ending.specs.declared.ending.Ending.{Ending}

abbrev pub Lines : Type 0
Lines = List (List ℕ)

-- The lines that a first run carried out: those that it answered, each of which it acknowledged, or these and the next one, which is in doubt.
abbrev pub AreHeld : (held done left : Lines) → Type 0
AreHeld held done left = (held ≡ done) ⊎ (held ≡ with_next done left)

-- lines that are sent again from the first one on, behind a part of them: the state and the outcomes are those of the lines sent once
pub record AreSentAgain (old : State) (part rest : Lines) : Type 0 where
  pub state : (answering (answering old part).state (part ++ rest)).state ≡ (answering old (part ++ rest)).state
  pub requests : IsAsSentOnce old (requests_of part) (requests_of rest)

-- The first run began with the state `old`, answered the lines `done` and left the lines `left`. The second run is told of by the rest.
module _ (old : State) (done left : Lines) (told : Ending) (had has : Option (List ℕ)) (Holds : State → Type 0) (Finds : State → State → Type 0) (before after : Option (List ℕ)) where
  -- The second run goes on from the lines that the first one carried out, and both are one run of these lines and its own: so are the text,
  -- the state, the promise and what a crash finds. Where its own lines are those of the first run again, with more behind them, and what was
  -- refused is refused again, they are as if they were sent once.
  pub record GoesOn : Type 0 where
    pub held : Lines
    pub are : AreHeld held done left
    pub second : RunsInput told (answering old held).state had has Holds Finds before after
    pub text : (answering old (held ++ second.done)).text ≡ (answering old held).text ++ (answering (answering old held).state second.done).text
    pub holds : Holds (answering old (held ++ second.done)).state
    pub promised : IsSound old → IsPromised old (requests_of (held ++ second.done)) (answering old (held ++ second.done)).state
    pub found : Finds (answering old (held ++ second.done)).state (answering old (held ++ with_next second.done second.left)).state
    pub again : (rest : Lines) → second.done ≡ held ++ rest → OthersStay old (requests_of held) (final old (requests_of held)) → AreSentAgain old held rest × Holds (answering old (held ++ rest)).state
