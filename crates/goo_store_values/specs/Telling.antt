-- How the end of a commit is passed on, and what is told of an error.
use Rattle.std.specs.Prelude.{◌≡◌, Bool, true, Result, Ok, Err, IsOk, IsErr}
use Rattle.sqlite.specs.declared.error.Error.{Error}
use Rattle.goo_types.specs.declared.fault.Fault.{Fault}
use Rattle.goo_types.specs.declared.fault.Fault.TheVariants as fault
use Rattle.goo_store_values.specs.declared.statement_fault.StatementFault.{StatementFault}
use Rattle.goo_store_values.specs.declared.statement_fault.StatementFault.TheVariants.{Memory, Refused}

-- success is passed on as success, and an error as one
abbrev pub PassesOn : {T U : Type 0} → Result T Error → Result U StatementFault → Type 0
PassesOn (Ok x) read = IsOk read
PassesOn (Err e) read = IsErr read

-- what was read is told; want of memory is told and leaves the flag; anything else is told as a store fault and raises it
abbrev pub Tells : {T : Type 0} → Result T StatementFault → Result T Fault → Bool → Bool → Type 0
Tells (Ok x) told old new = (told ≡ Ok x) × (new ≡ old)
Tells (Err Memory) told old new = (told ≡ Err fault.Memory) × (new ≡ old)
Tells (Err Refused) told old new = (told ≡ Err fault.Store) × (new ≡ true)
