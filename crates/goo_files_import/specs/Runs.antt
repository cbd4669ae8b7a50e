-- What an import of rows comes to, however it ends.
use Rattle.std.specs.Prelude.{◌≡◌, ◌⊎◌, ℕ, List, [], ◌∷◌, ◌++◌, Option, Result, Ok, Err, IfErr, IsErrAnd, OnOk, OnErr}
use Rattle.std.specs.Io.KnownBytes.{Consumes}
use Rattle.goo_types.specs.declared.fault.Fault.{Fault}
use Rattle.goo_files_streams.specs.Streams.{IsWhole}
use Rattle.goo_spec.specs.Promise.{IsPromised}
use Rattle.goo_spec.specs.Sound.{IsSound}
use Rattle.goo_spec.specs.State.{State}
use Rattle.goo_core_shelf.specs.Crash.{FindsEither}
use Rattle.goo_core_shelf.specs.Desk.{Seen, StaysSure}
use Rattle.goo_core_shelf.specs.Shelf as shelf
use Rattle.goo_files_import.specs.Import.{importing, requests_of, row_result, state_after}
use Rattle.goo_files_import.specs.Table.{AreFirstRows, AreRows, LacksHeader}
use Rattle.goo_files_import.specs.declared.cause.Cause.{Cause}
use Rattle.goo_files_import.specs.declared.cause.Cause.TheVariants.{Header, Read, Store, Memory}
use Rattle.goo_files_import.specs.declared.cause.ImportFault.{ImportFault}
use Rattle.goo_files_import.specs.declared.report.Report.{Report}
use Rattle.goo_files_import.specs.declared.row_result.RowResult.{RowResult}

-- what is reported of the rows, all of them or those before a fault
abbrev pub reported : Result Report ImportFault → List RowResult
reported (Ok report) = report.lines.items
reported (Err fault) = fault.report.lines.items

-- some first rows of a table, and they or those with the next one
pub record AreUpTo (input : List ℕ) (rows upto : List (List (List ℕ))) : Type 0 where
  pub are_first : AreFirstRows input rows
  pub next : (upto ≡ rows) ⊎ ((row : List (List ℕ)) × (upto ≡ rows ++ row ∷ []) × AreFirstRows input upto)

-- all rows were applied
pub record IsImported (caller input : List ℕ) (old new : State) (lines : List RowResult) : Type 0 where
  pub rows : List (List (List ℕ))
  pub are_rows : AreRows input rows
  pub lines_are : lines ≡ (importing old caller rows).lines
  pub state : new ≡ (importing old caller rows).state

-- what lies below has returned what was written, or there is no defect
abbrev pub IsReliable : Seen → Type 0
IsReliable seen = (seen.corruptions ≡ 0) ⊎ (seen.defects ≡ 0)

-- after a fault of the records, and where memory was refused, the state is known while there is no defect
abbrev pub IfKnownBy : Cause → Seen → Type 0 → Type 0
IfKnownBy Header new holds = holds
IfKnownBy Read new holds = holds
IfKnownBy Store new holds = new.defects ≡ 0 → holds
IfKnownBy Memory new holds = new.defects ≡ 0 → holds

abbrev pub IfKnown : Result Report ImportFault → Seen → Type 0 → Type 0
IfKnown (Ok report) new holds = holds
IfKnown (Err fault) new holds = IfKnownBy fault.cause new holds

-- the table lacks its header, so nothing was applied
pub record IsHeadless (input : List ℕ) (old new : Seen) (lines : List RowResult) : Type 0 where
  pub lacks : LacksHeader input
  pub seen : new ≡ old
  pub none : lines ≡ []

-- why an import of a table that was read stopped: a fault of the records is none of a table without its header
abbrev pub StopsBy : List ℕ → (old new : Seen) → List RowResult → Cause → Type 0
StopsBy input old new lines Header = IsHeadless input old new lines
StopsBy input old new lines Read = ⊥
StopsBy input old new lines Store = ¬ LacksHeader input
StopsBy input old new lines Memory = Unit {0}

abbrev pub Stops : List ℕ → (old new : Seen) → Result Report ImportFault → Type 0
Stops input old new result = IfErr result (λ fault. StopsBy input old new fault.report.lines.items fault.cause)

-- an import stops because of the store just where a call was refused
abbrev pub IsToldBy : Cause → ℕ → Type 0
IsToldBy Header refusals = refusals ≡ 0
IsToldBy Read refusals = refusals ≡ 0
IsToldBy Store refusals = refusals ≡ 1
IsToldBy Memory refusals = refusals ≡ 0

abbrev pub IsToldIn : Result Report ImportFault → ℕ → Type 0
IsToldIn (Ok report) refusals = refusals ≡ 0
IsToldIn (Err fault) refusals = IsToldBy fault.cause refusals

-- One row was imported, whose result is told so: while the desk is reliable, its result and the state are those of the row, and a fault
-- changes nothing. No corruption and no defect is forgotten, a refused call is told, and only a failed one brings a defect. A crash finds
-- the row's request applied or not.
pub record ImportsRow {T : Type 0} (caller : List ℕ) (row : List (List ℕ)) (old new : Seen) (leaves : Option State → Type 0) (result : Result T Fault) (IsTold : RowResult → Type 0) : Type 0 where
  pub line : IsReliable new → IsTold (row_result old.state caller row)
  pub state : IsReliable new → OnOk result (new.state ≡ state_after old.state caller row)
  pub unchanged : new.defects ≡ 0 → OnErr result (new.state ≡ old.state)
  pub corruptions_stay : new.corruptions ≡ 0 → old.corruptions ≡ 0
  pub defects_stay : new.defects ≡ 0 → old.defects ≡ 0
  pub told : old.refusals ≡ 0 → shelf.IsTold result new.refusals
  pub works : new.corruptions ≡ 0 → old.defects ≡ 0 → OnOk result (new.defects ≡ 0)
  pub stays : new.corruptions ≡ 0 → old.defects ≡ 0 → StaysSure old new
  pub crash : new.corruptions ≡ 0 → old.defects ≡ 0 → FindsEither leaves old.state (state_after old.state caller row)

-- what becomes of a desk: no corruption and no defect is forgotten, a refused call is told, and only a failed one brings a defect
pub record LeavesDesk (old new : Seen) (result : Result Report ImportFault) : Type 0 where
  pub corruptions_stay : new.corruptions ≡ 0 → old.corruptions ≡ 0
  pub defects_stay : new.defects ≡ 0 → old.defects ≡ 0
  pub told : old.refusals ≡ 0 → IsToldIn result new.refusals
  pub works : new.corruptions ≡ 0 → old.defects ≡ 0 → OnOk result (new.defects ≡ 0)
  pub stays : new.corruptions ≡ 0 → old.defects ≡ 0 → StaysSure old new

-- the reader failed, held too much, or there was no room
abbrev pub IsOfReading : Cause → Type 0
IsOfReading Read = Unit {0}
IsOfReading Memory = Unit {0}
IsOfReading Header = ⊥
IsOfReading Store = ⊥

-- the input was turned down: nothing was applied, and the report is empty
pub record IsTurnedDown (fault : ImportFault) : Type 0 where
  pub cause : IsOfReading fault.cause
  pub none : fault.report.lines.items ≡ []

module _ (caller : List ℕ) (old new : Seen) (leaves : Option State → Type 0) (result : Result Report ImportFault) where
  -- The first rows of a table were applied, and all of them where it ended well. The report, the state, the promise and what a crash
  -- finds are those of these rows; a crash may find the next row applied as well.
  pub record ImportsFirst (input : List ℕ) : Type 0 where
    pub rows : List (List (List ℕ))
    pub upto : List (List (List ℕ))
    pub are : AreUpTo input rows upto
    pub all : OnOk result (AreRows input rows)
    pub lines_are : reported result ≡ (importing old.state caller rows).lines
    pub state : IfKnown result new (new.state ≡ (importing old.state caller rows).state)
    pub promised : IsSound old.state → IsPromised old.state (requests_of caller rows) (importing old.state caller rows).state
    pub found : old.defects ≡ 0 → FindsEither leaves (importing old.state caller rows).state (importing old.state caller upto).state

  module _ (before after : Option (List ℕ)) (limit : ℕ) where
    -- the reader gave a table to its end, within the limit, and the first of its rows were applied
    pub record RunsTable : Type 0 where
      pub input : List ℕ
      pub read : IsWhole before after limit input
      pub stops : Stops input old new result
      pub imports : IsReliable new → ImportsFirst input

    -- the reader gave a beginning, and nothing was applied
    pub record TurnsDown : Type 0 where
      pub begun : List ℕ
      pub given : Consumes before after begun
      pub seen : new ≡ old
      pub down : IsErrAnd result IsTurnedDown

    -- whether or not the reader tells its bytes
    abbrev pub RunsRows : Type 0
    RunsRows = RunsTable ⊎ TurnsDown
