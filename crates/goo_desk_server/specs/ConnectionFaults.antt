-- What the faults of streams become.
use Rattle.std.specs.Prelude.{◌≡◌, ℕ, Bool, IsTrue, Result, Ok, Err}
use Rattle.goo_files_streams.specs.declared.InputFault.{InputFault}
use Rattle.goo_files_streams.specs.declared.InputFault.TheVariants as reading
use Rattle.goo_desk_server.specs.declared.serve_fault.ServeFault.{ServeFault}
use Rattle.goo_desk_server.specs.declared.serve_fault.ServeFault.TheVariants.{Read, Write, Store, Memory}

abbrev pub of_reading : InputFault → ServeFault
of_reading reading.Read = Read
of_reading reading.TooLong = Read
of_reading reading.Memory = Memory

-- a fault of the reader is told only where a call of it failed
abbrev pub IsOfReader : InputFault → Bool → Type 0
IsOfReader reading.Read failed = IsTrue failed
IsOfReader reading.TooLong failed = IsTrue failed
IsOfReader reading.Memory failed = Unit {0}

-- a fault of the store is told just where a call was refused
abbrev pub IsToldIn : {T : Type 0} → Result T ServeFault → ℕ → Type 0
IsToldIn (Ok x) refusals = refusals ≡ 0
IsToldIn (Err Store) refusals = refusals ≡ 1
IsToldIn (Err Read) refusals = refusals ≡ 0
IsToldIn (Err Memory) refusals = refusals ≡ 0
IsToldIn (Err Write) refusals = refusals ≡ 0
