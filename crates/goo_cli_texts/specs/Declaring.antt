-- What `declare` makes of a table, however it ends.
use Rattle.std.specs.Prelude.{◌≡◌, ◌⊎◌, Bool, true, false, ℕ, List, [], Option, IsTrue}
use Rattle.std.specs.Io.KnownBytes.{Appends, Consumes}
use Rattle.goo_spec.specs.Checks.{issuer}
use Rattle.goo_spec.specs.Promise.{IsPromised}
use Rattle.goo_spec.specs.Sound.{IsSound}
use Rattle.goo_spec.specs.State.{State}
use Rattle.goo_core_shelf.specs.Desk.{Seen}
use Rattle.goo_files_streams.specs.Streams.{AppendsPrefix, IsWhole}
use Rattle.goo_files_import.specs.Import.{importing, requests_of}
use Rattle.goo_files_import.specs.Report.{report_text}
use Rattle.goo_files_import.specs.Runs.{AreUpTo}
use Rattle.goo_files_import.specs.Table.{AreRows, LacksHeader}
use Rattle.goo_files_import.specs.declared.cause.Cause.{Cause}
use Rattle.goo_files_import.specs.declared.row_result.RowResult.{RowResult}
use Rattle.goo_cli_ending.specs.Runs.{IsTurnedDown}
use Rattle.goo_cli_ending.specs.declared.ending.Ending.{Ending}
use Rattle.goo_cli_ending.specs.declared.ending.Ending.TheVariants as ending
use Rattle.goo_cli_ending.specs.declared.ending.Failure.TheVariants as failure
use Rattle.goo_cli_texts.specs.Endings.{all_stand, ending_of_import}

-- the report of these rows was sent, whole or a beginning of it, and the ending tells that
pub record Sends (cause : Option Cause) (rows : List RowResult) (had has : Option (List ℕ)) (told : Ending) : Type 0 where
  pub out : Bool
  pub tells : told ≡ ending_of_import cause (all_stand rows) out
  pub whole : IsTrue out → Appends had has (report_text rows)
  pub begun : AppendsPrefix had has (report_text rows)

-- all was done just where each row's declaration stands
abbrev pub Tells : Ending → (all : Bool) → Type 0
Tells ending.Done all = all ≡ true
Tells ending.PartlyDone all = all ≡ false
Tells _ all = Unit {0}

-- the whole report was written where that is told, and else a beginning of it
abbrev pub Writes : Ending → (had has : Option (List ℕ)) → List ℕ → Type 0
Writes ending.Done had has text = Appends had has text
Writes ending.PartlyDone had has text = Appends had has text
Writes _ had has text = AppendsPrefix had has text

-- all rows were applied where that is told, and after a fault of the output; none where the header is missing; a fault of the input comes before
abbrev pub AreApplied : Ending → List ℕ → (rows upto : List (List (List ℕ))) → Type 0
AreApplied ending.Done input rows upto = AreRows input rows
AreApplied ending.PartlyDone input rows upto = AreRows input rows
AreApplied (ending.Failed failure.Write) input rows upto = AreRows input rows
AreApplied (ending.Failed failure.Read) input rows upto = ⊥
AreApplied (ending.Denied denial) input rows upto = LacksHeader input × (rows ≡ []) × (upto ≡ [])
AreApplied _ input rows upto = Unit {0}

-- a table that was not read, or that lacks its header, leaves the records as they were
abbrev pub IsUntouched : Ending → (old new : Seen) → Type 0
IsUntouched (ending.Failed failure.Read) old new = new ≡ old
IsUntouched (ending.Denied denial) old new = new ≡ old
IsUntouched _ old new = Unit {0}

module _ (told : Ending) (old : State) (had has : Option (List ℕ)) (Holds : State → Type 0) (Finds : State → State → Type 0) (before after : Option (List ℕ)) where
  -- first rows of a table that was read to its end, within the limit; one that was turned down counts as none
  abbrev pub AreFirst : List ℕ → (rows upto : List (List (List ℕ))) → Type 0
  AreFirst input rows upto = (IsWhole before after 16_777_216 input × AreUpTo input rows upto × AreApplied told input rows upto) ⊎ (IsTurnedDown told × (rows ≡ []) × (upto ≡ []))

  -- The reader gave a table, all that it has where it tells that and the table was read to its end, and the first of its rows were
  -- imported as the issuing body's. What is told and reported, the state, the promise and what a crash finds are those of these rows; a
  -- crash may find the next row imported as well.
  pub record DeclaresRows : Type 0 where
    pub input : List ℕ
    pub given : Consumes before after input
    pub rows : List (List (List ℕ))
    pub upto : List (List (List ℕ))
    pub are : AreFirst input rows upto
    pub tells : Tells told (all_stand (importing old issuer rows).lines)
    pub written : Writes told had has (report_text (importing old issuer rows).lines)
    pub holds : Holds (importing old issuer rows).state
    pub promised : IsSound old → IsPromised old (requests_of issuer rows) (importing old issuer rows).state
    pub found : Finds (importing old issuer rows).state (importing old issuer upto).state
