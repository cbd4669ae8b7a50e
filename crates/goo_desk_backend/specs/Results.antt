-- What comes of the calls that write the texts of a registry, and of an import.
use Rattle.std.specs.Prelude.{Result, Ok, Err, Vec, ℕ}
use Rattle.std.specs.Global.{Global}
use Rattle.goo_types.specs.declared.fault.Fault.{Fault}
use Rattle.goo_types.specs.declared.fault.Fault.TheVariants as fault
use Rattle.goo_core_reads.specs.declared.denial.Denial.TheVariants as denial
use Rattle.goo_files.specs.declared.text_fault.ShowFault.{ShowFault}
use Rattle.goo_files.specs.declared.text_fault.ShowFault.TheVariants as text
use Rattle.goo_files_import.specs.declared.cause.Cause.{Cause}
use Rattle.goo_files_import.specs.declared.cause.Cause.TheVariants as cause
use Rattle.goo_desk_backend.specs.declared.backend.Shown.{Shown}
use Rattle.goo_desk_backend.specs.declared.backend.Shown.TheVariants as shown
use Rattle.goo_desk_backend.specs.declared.backend.Imported.{Imported}
use Rattle.goo_desk_backend.specs.declared.backend.Imported.TheVariants as imported

-- a text written in memory: a write fails for want of that alone
abbrev pub shown_as : Vec ℕ Global → Result (Unit {0}) ShowFault → Result Shown Fault
shown_as bytes (Ok done) = Ok (shown.Text bytes)
shown_as bytes (Err text.NotAllowed) = Ok (shown.Denied denial.NotAllowed)
shown_as bytes (Err text.Unknown) = Ok (shown.Denied denial.Unknown)
shown_as bytes (Err text.Write) = Err fault.Memory
shown_as bytes (Err text.Store) = Err fault.Store
shown_as bytes (Err text.Memory) = Err fault.Memory

-- an import that stopped; bytes can be read
abbrev pub stopped_as : Cause → Result Imported Fault
stopped_as cause.Header = Ok imported.NoHeader
stopped_as cause.Read = Err fault.Memory
stopped_as cause.Store = Err fault.Store
stopped_as cause.Memory = Err fault.Memory
