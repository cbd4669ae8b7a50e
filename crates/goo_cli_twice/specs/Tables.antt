-- An import that goes on where another one ended.
use Rattle.std.specs.Prelude.{◌≡◌, ◌⊎◌, ℕ, List, ◌++◌, Option}
use Rattle.goo_spec.specs.Checks.{issuer}
use Rattle.goo_spec.specs.Promise.{IsPromised}
use Rattle.goo_spec.specs.Sound.{IsSound}
use Rattle.goo_spec.specs.State.{State}
use Rattle.goo_files_import.specs.Import.{importing, requests_of}
use Rattle.goo_files_import.specs.Laws.{IsAsImportedOnce}
use Rattle.goo_files_import.specs.Table.{AreFirstRows, AreRows}
use Rattle.goo_cli_ending.specs.declared.ending.Ending.{Ending}
use Rattle.goo_cli_texts.specs.Declaring.{DeclaresRows}

abbrev pub Rows : Type 0
Rows = List (List (List ℕ))

-- the rows that a first import applied: those of its report, or these and the next one, which is in doubt
abbrev pub AreHeld : (held rows upto : Rows) → Type 0
AreHeld held rows upto = (held ≡ rows) ⊎ (held ≡ upto)

-- The first import began with the state `old`, and applied the rows `rows`, or `upto`. The second one is told of by the rest.
module _ (old : State) (rows upto : Rows) (told : Ending) (had has : Option (List ℕ)) (Holds : State → Type 0) (Finds : State → State → Type 0) (before after : Option (List ℕ)) where
  -- The second import goes on from the rows that the first one applied, and both are one import of these rows and its own: so are the lines
  -- of the reports, the state, the promise and what a crash finds. Where its own table is that of the first one again, sent whole, it is as if
  -- the table were sent once.
  pub record GoesOn : Type 0 where
    pub held : Rows
    pub are : AreHeld held rows upto
    pub second : DeclaresRows told (importing old issuer held).state had has Holds Finds before after
    pub lines : (importing old issuer (held ++ second.rows)).lines ≡ (importing old issuer held).lines ++ (importing (importing old issuer held).state issuer second.rows).lines
    pub holds : Holds (importing old issuer (held ++ second.rows)).state
    pub promised : IsSound old → IsPromised old (requests_of issuer (held ++ second.rows)) (importing old issuer (held ++ second.rows)).state
    pub found : Finds (importing old issuer (held ++ second.rows)).state (importing old issuer (held ++ second.upto)).state
    pub again : (input : List ℕ) → AreFirstRows input held → AreRows input second.rows
        → (rest : Rows) × (second.rows ≡ held ++ rest) × IsAsImportedOnce old issuer held rest × Holds (importing old issuer second.rows).state
