-- How a command ends that writes a text.
use Rattle.std.specs.Prelude.{Bool, true, false, List, Option, Some, None, Result, Ok, Err}
use Rattle.std.specs.List.{list_all}
use Rattle.goo_cli_ending.specs.declared.ending.Ending.{Ending}
use Rattle.goo_cli_ending.specs.declared.ending.Ending.TheVariants as ending
use Rattle.goo_cli_ending.specs.declared.ending.NotDone.TheVariants as denial
use Rattle.goo_cli_ending.specs.declared.ending.Failure.TheVariants as failure
use Rattle.goo_files.specs.declared.text_fault.ShowFault.{ShowFault}
use Rattle.goo_files.specs.declared.text_fault.ShowFault.TheVariants as text
use Rattle.goo_files_import.specs.declared.cause.Cause.{Cause}
use Rattle.goo_files_import.specs.declared.cause.Cause.TheVariants as cause
use Rattle.goo_files_import.specs.declared.row_result.RowResult.{RowResult}
use Rattle.goo_files_import.specs.declared.row_result.RowResult.TheVariants as row

-- a text that was written, and an output that went out whole or did not. The issuing body may see all that is there, so what it may not
-- see is not there.
abbrev pub ending_of_text : Result (Unit {0}) ShowFault → Bool → Ending
ending_of_text (Ok done) true = ending.Done
ending_of_text (Ok done) false = ending.Failed failure.Write
ending_of_text (Err text.NotAllowed) out = ending.Denied denial.UnknownAccount
ending_of_text (Err text.Unknown) out = ending.Denied denial.UnknownAccount
ending_of_text (Err text.Write) out = ending.Failed failure.Write
ending_of_text (Err text.Store) out = ending.Failed failure.Store
ending_of_text (Err text.Memory) out = ending.Failed failure.Memory

-- a row whose declaration stands
abbrev pub stands : RowResult → Bool
stands row.Accepted = true
stands row.Repeated = true
stands (row.Refused refusal) = false
stands row.Unreadable = false

abbrev pub all_stand : List RowResult → Bool
all_stand rows = list_all stands rows

-- an import that stopped or didn't, whose report went out whole or did not; a fault goes before what was refused
abbrev pub ending_of_import : Option Cause → Bool → Bool → Ending
ending_of_import (Some cause.Header) all out = ending.Denied denial.Header
ending_of_import (Some cause.Read) all out = ending.Failed failure.Read
ending_of_import (Some cause.Store) all out = ending.Failed failure.Store
ending_of_import (Some cause.Memory) all out = ending.Failed failure.Memory
ending_of_import None all false = ending.Failed failure.Write
ending_of_import None true true = ending.Done
ending_of_import None false true = ending.PartlyDone

-- how an import may end
abbrev pub IsOfImport : Ending → Type 0
IsOfImport ending.Done = Unit {0}
IsOfImport ending.PartlyDone = Unit {0}
IsOfImport (ending.Denied denial.Header) = Unit {0}
IsOfImport (ending.Denied denial.AlreadyThere) = ⊥
IsOfImport (ending.Denied denial.UnknownAccount) = ⊥
IsOfImport (ending.Words error) = ⊥
IsOfImport (ending.Misused reason) = ⊥
IsOfImport (ending.Failed failure.Store) = Unit {0}
IsOfImport (ending.Failed failure.Memory) = Unit {0}
IsOfImport (ending.Failed failure.Read) = Unit {0}
IsOfImport (ending.Failed failure.Write) = Unit {0}
IsOfImport (ending.Failed failure.NotARegistry) = ⊥
IsOfImport (ending.Failed (failure.Version version)) = ⊥
IsOfImport (ending.Failed failure.Damaged) = ⊥

-- how a text may end
abbrev pub IsOfText : Ending → Type 0
IsOfText ending.Done = Unit {0}
IsOfText ending.PartlyDone = ⊥
IsOfText (ending.Denied denial.UnknownAccount) = Unit {0}
IsOfText (ending.Denied denial.AlreadyThere) = ⊥
IsOfText (ending.Denied denial.Header) = ⊥
IsOfText (ending.Words error) = ⊥
IsOfText (ending.Misused reason) = ⊥
IsOfText (ending.Failed failure.Store) = Unit {0}
IsOfText (ending.Failed failure.Memory) = Unit {0}
IsOfText (ending.Failed failure.Read) = ⊥
IsOfText (ending.Failed failure.Write) = Unit {0}
IsOfText (ending.Failed failure.NotARegistry) = ⊥
IsOfText (ending.Failed (failure.Version version)) = ⊥
IsOfText (ending.Failed failure.Damaged) = ⊥
