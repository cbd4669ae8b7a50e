-- How the program ends.
use Rattle.std.specs.Prelude.{◌≡◌, ℕ, Bool, true, false, ◌==◌, List, [], codes, ◌++◌, decimal, Result, Ok, Err, if◌then◌else◌}
use Rattle.goo_desk_lines.specs.declared.lines_fault.LinesFault.{LinesFault}
use Rattle.goo_desk_lines.specs.declared.lines_fault.LinesFault.TheVariants as fault
use Rattle.goo_types.specs.declared.fault.Fault.{Fault}
use Rattle.goo_types.specs.declared.fault.Fault.TheVariants as desk
use Rattle.goo_desk_lines.specs.declared.tally.Tally.{Tally}
use Rattle.goo_cli_ending.specs.Settings.{missing_text, wrong_text}
use Rattle.goo_cli.specs.declared.line_fault.LineFault.{LineFault}
use Rattle.goo_cli.specs.declared.line_fault.LineFault.TheVariants as line
use Rattle.goo_cli_ending.specs.declared.ending.Ending.{Ending}
use Rattle.goo_cli_ending.specs.declared.ending.Ending.TheVariants as ending
use Rattle.goo_cli_ending.specs.declared.ending.NotDone.{NotDone}
use Rattle.goo_cli_ending.specs.declared.ending.NotDone.TheVariants as denial
use Rattle.goo_cli_ending.specs.declared.ending.Failure.{Failure}
use Rattle.goo_cli_ending.specs.declared.ending.Failure.TheVariants as failure

-- the exit status: all done; something refused or unreadable, or nothing done; a command line that asks for nothing; a fault
abbrev pub status_of : Ending → ℕ
status_of ending.Done = 0
status_of ending.PartlyDone = 1
status_of (ending.Denied denial) = 1
status_of (ending.Words error) = 2
status_of (ending.Misused reason) = 2
status_of (ending.Failed reason) = 3

abbrev pub failure_text : Failure → List ℕ
failure_text failure.Store = codes "goo: store fault"
failure_text failure.Memory = codes "goo: out of memory"
failure_text failure.Read = codes "goo: read fault"
failure_text failure.Write = codes "goo: write fault"
failure_text failure.NotARegistry = codes "goo: not a registry"
failure_text (failure.Version version) = codes "goo: version " ++ decimal version
failure_text failure.Damaged = codes "goo: damaged"

abbrev pub denial_text : NotDone → List ℕ
denial_text denial.AlreadyThere = codes "goo: already there"
denial_text denial.UnknownAccount = codes "goo: unknown account"
denial_text denial.Header = codes "goo: header"

abbrev pub failure_of : LinesFault → Failure
failure_of fault.Store = failure.Store
failure_of fault.Memory = failure.Memory
failure_of fault.Read = failure.Read
failure_of fault.Write = failure.Write

-- the same of a registry that could not be made
abbrev pub failure_of_desk : Fault → Failure
failure_of_desk desk.Store = failure.Store
failure_of_desk desk.Memory = failure.Memory

-- all lines were carried out, or some were not
abbrev pub ending_of_bad : ℕ → Ending
ending_of_bad bad = if bad == 0 then ending.Done else ending.PartlyDone

-- a fault goes before what was refused, and an output that didn't go out whole is a fault of the writer
abbrev pub ending_of : Result Tally LinesFault → Bool → Ending
ending_of (Err reason) flushed = ending.Failed (failure_of reason)
ending_of (Ok tally) false = ending.Failed failure.Write
ending_of (Ok tally) true = ending_of_bad tally.bad

-- a command line that asks for nothing has status 2, and no room to read it is a fault
abbrev pub status_of_line : LineFault → ℕ
status_of_line (line.Words error) = 2
status_of_line line.Command = 2
status_of_line line.NoPlace = 2
status_of_line line.TwoPlaces = 2
status_of_line line.NotNew = 2
status_of_line (line.Missing setting) = 2
status_of_line (line.Wrong setting) = 2
status_of_line line.Memory = 3

-- the reason that is told, where it isn't the parser's own words
abbrev pub reason_of : LineFault → List ℕ
reason_of (line.Words error) = []
reason_of line.Command = codes "goo: no command: see goo --help"
reason_of line.NoPlace = codes "goo: --db FILE or --memory is missing"
reason_of line.TwoPlaces = codes "goo: --db and --memory exclude one another"
reason_of line.NotNew = codes "goo: --code, --today and --next-serial are for a new registry: with --memory, or with init"
reason_of (line.Missing setting) = missing_text setting
reason_of (line.Wrong setting) = wrong_text setting
reason_of line.Memory = []

abbrev pub reason_told : Ending → List ℕ
reason_told ending.Done = []
reason_told ending.PartlyDone = []
reason_told (ending.Denied denial) = []
reason_told (ending.Words error) = []
reason_told (ending.Misused reason) = reason.now
reason_told (ending.Failed reason) = []

-- an ending tells why a command line wasn't carried out
pub record TellsLine (of : LineFault) (told : Ending) : Type 0 where
  pub status : status_of told ≡ status_of_line of
  pub reason : reason_told told ≡ reason_of of

-- how a run of lines may end
abbrev pub IsOfLines : Ending → Type 0
IsOfLines ending.Done = Unit {0}
IsOfLines ending.PartlyDone = Unit {0}
IsOfLines (ending.Denied denial) = ⊥
IsOfLines (ending.Words error) = ⊥
IsOfLines (ending.Misused reason) = ⊥
IsOfLines (ending.Failed failure.Store) = Unit {0}
IsOfLines (ending.Failed failure.Memory) = Unit {0}
IsOfLines (ending.Failed failure.Read) = Unit {0}
IsOfLines (ending.Failed failure.Write) = Unit {0}
IsOfLines (ending.Failed failure.NotARegistry) = ⊥
IsOfLines (ending.Failed (failure.Version version)) = ⊥
IsOfLines (ending.Failed failure.Damaged) = ⊥

-- how it may end only once its whole input was read: the lines were answered, or a line met a fault of the output or of the records
abbrev pub IsAfterInput : Ending → Type 0
IsAfterInput ending.Done = Unit {0}
IsAfterInput ending.PartlyDone = Unit {0}
IsAfterInput (ending.Denied denial) = ⊥
IsAfterInput (ending.Words error) = ⊥
IsAfterInput (ending.Misused reason) = ⊥
IsAfterInput (ending.Failed failure.Store) = Unit {0}
IsAfterInput (ending.Failed failure.Write) = Unit {0}
IsAfterInput (ending.Failed failure.Memory) = ⊥
IsAfterInput (ending.Failed failure.Read) = ⊥
IsAfterInput (ending.Failed failure.NotARegistry) = ⊥
IsAfterInput (ending.Failed (failure.Version version)) = ⊥
IsAfterInput (ending.Failed failure.Damaged) = ⊥

-- a fault of the records is told just where what keeps them refused a call
abbrev pub IsToldOf : Ending → ℕ → Type 0
IsToldOf (ending.Failed failure.Store) refusals = refusals ≡ 1
IsToldOf (ending.Failed failure.Memory) refusals = refusals ≡ 0
IsToldOf (ending.Failed failure.Read) refusals = refusals ≡ 0
IsToldOf (ending.Failed failure.Write) refusals = refusals ≡ 0
IsToldOf (ending.Failed failure.NotARegistry) refusals = refusals ≡ 0
IsToldOf (ending.Failed (failure.Version version)) refusals = refusals ≡ 0
IsToldOf (ending.Failed failure.Damaged) refusals = refusals ≡ 0
IsToldOf ending.Done refusals = refusals ≡ 0
IsToldOf ending.PartlyDone refusals = refusals ≡ 0
IsToldOf (ending.Denied denial) refusals = refusals ≡ 0
IsToldOf (ending.Words error) refusals = refusals ≡ 0
IsToldOf (ending.Misused reason) refusals = refusals ≡ 0
