-- What an exit status tells of the lines.
use Rattle.std.proofs.Common.{arith, ◌==◌, ◌≡◌, ℕ, Bool, true, false, is_ok, Result, Ok, Err, OnOk, ◌<◌, true≢false}
use Rattle.std.specs.Prelude.{if◌then◌else◌}
use Rattle.goo_desk_lines.specs.declared.lines_fault.LinesFault.{LinesFault}
use Rattle.goo_desk_lines.specs.declared.lines_fault.LinesFault.TheVariants as fault
use Rattle.goo_desk_lines.specs.declared.tally.Tally.{Tally}
use Rattle.goo_desk_lines.specs.Stops.{IsToldIn}
use Rattle.goo_cli_ending.specs.declared.ending.Ending.TheVariants as ending
use Rattle.goo_cli_ending.specs.Endings.{status_of, ending_of, IsOfLines, IsToldOf}

-- what a flush leaves holds with status 0 and 1
pub flushed_from : {T E : Type 0} (Holds : Type 0) (answered : Result Tally LinesFault) (out : Bool) (flush : Result T E) → out ≡ is_ok flush → OnOk flush Holds → status_of (ending_of answered out) < 2 → Holds
flushed_from Holds answered out (Ok x) same told status = told
flushed_from Holds (Ok tally) true (Err e) same told status = absurd (true≢false same)
flushed_from Holds (Ok tally) false (Err e) same told status = absurd (omega (arith, status))
flushed_from Holds (Err fault.Store) out (Err e) same told status = absurd (omega (arith, status))
flushed_from Holds (Err fault.Memory) out (Err e) same told status = absurd (omega (arith, status))
flushed_from Holds (Err fault.Read) out (Err e) same told status = absurd (omega (arith, status))
flushed_from Holds (Err fault.Write) out (Err e) same told status = absurd (omega (arith, status))

of_counts : (b : Bool) → IsOfLines (if b then ending.Done else ending.PartlyDone)
of_counts true = tt
of_counts false = tt

pub of_lines : (answered : Result Tally LinesFault) (flushed : Bool) → IsOfLines (ending_of answered flushed)
of_lines (Ok tally) true = of_counts (tally.bad == 0)
of_lines (Ok tally) false = tt
of_lines (Err fault.Store) flushed = tt
of_lines (Err fault.Memory) flushed = tt
of_lines (Err fault.Read) flushed = tt
of_lines (Err fault.Write) flushed = tt

counts_told : (b : Bool) (refusals : ℕ) → refusals ≡ 0 → IsToldOf (if b then ending.Done else ending.PartlyDone) refusals
counts_told true refusals none = none
counts_told false refusals none = none

pub told_from : (answered : Result Tally LinesFault) (flushed : Bool) (refusals : ℕ) → IsToldIn answered refusals → IsToldOf (ending_of answered flushed) refusals
told_from (Ok tally) true refusals told = counts_told (tally.bad == 0) refusals told
told_from (Ok tally) false refusals told = told
told_from (Err fault.Store) flushed refusals told = told
told_from (Err fault.Memory) flushed refusals told = told
told_from (Err fault.Read) flushed refusals told = told
told_from (Err fault.Write) flushed refusals told = told
