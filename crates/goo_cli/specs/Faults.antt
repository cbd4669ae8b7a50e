-- What a refusal of the words becomes.
use Rattle.std.specs.Prelude.{◌≡◌, ◌≢◌, ◌⊎◌}
use Rattle.clap.specs.Words.{kind_of}
use Rattle.clap.specs.declared.error.Error.{Error}
use Rattle.clap.specs.declared.error.kind.ErrorKind.TheVariants as kind
use Rattle.goo_cli.specs.declared.line_fault.LineFault.{LineFault}
use Rattle.goo_cli.specs.declared.line_fault.LineFault.TheVariants.{Memory, Words}

-- want of memory is told as such, and any other refusal by its text
abbrev pub TellsWords : Error → LineFault → Type 0
TellsWords error told = ((kind_of error ≡ kind.OutOfMemory) × (told ≡ Memory)) ⊎ ((kind_of error ≢ kind.OutOfMemory) × (told ≡ Words error))
