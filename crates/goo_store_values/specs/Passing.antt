-- How an error of the database is passed on.
use Rattle.std.specs.Prelude.{◌≡◌, ◌≢◌, Result, Ok, Err, IfOk, IfErr, IsErr, IsOkUnless}
use Rattle.sqlite.specs.declared.error.Error.{Error}
use Rattle.sqlite.specs.declared.error.Error.TheVariants.{SqliteFailure}
use Rattle.sqlite.specs.declared.error.ErrorCode.TheVariants.{OutOfMemory}
use Rattle.goo_store_open.specs.declared.fault.OpenFault.{OpenFault}
use Rattle.goo_store_open.specs.declared.fault.OpenFault.TheVariants as opening
use Rattle.goo_store_values.specs.declared.statement_fault.StatementFault.{StatementFault}
use Rattle.goo_store_values.specs.declared.statement_fault.StatementFault.TheVariants.{Memory, Refused}

-- want of memory, and any other cause
abbrev pub IsStatementFaultOf : Error → StatementFault → Type 0
IsStatementFaultOf error Memory = error ≡ SqliteFailure OutOfMemory
IsStatementFaultOf error Refused = error ≢ SqliteFailure OutOfMemory

-- what is read of something found stands in this relation to it, and an error is passed on as one
abbrev pub Passes : {T U : Type 0} → Result T Error → Result U StatementFault → (T → U → Type 0) → Type 0
Passes (Ok x) read R = IfOk read (R x)
Passes (Err e) read R = IsErr read

-- what was found is refused for want of memory alone, where it can be read
abbrev pub Accepts : {T U : Type 0} → Result T Error → Result U StatementFault → (T → Type 0) → Type 0
Accepts (Ok x) read IsReadable = IsReadable x → IsOkUnless read Memory
Accepts (Err e) read IsReadable = IfErr read (IsStatementFaultOf e)

-- the word for it where a database was to be opened
abbrev pub open_fault_of : StatementFault → OpenFault
open_fault_of Memory = opening.Memory
open_fault_of Refused = opening.Store
