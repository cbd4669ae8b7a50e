-- Why a verifier goes no further.
use Rattle.std.specs.Prelude.{ℕ, List, ⊤}
use Rattle.goo_log_journal.specs.Place.{Place}
use Rattle.goo_log_journal.specs.declared.line_fault.LineFault.TheVariants as fault
use Rattle.goo_log_verify.specs.Verdicts.{IsBad, IsBeyond}
use Rattle.goo_log_verify.specs.declared.verifier.Stop.{Stop}
use Rattle.goo_log_verify.specs.declared.verifier.Stop.TheVariants as stop

-- nothing is said where memory was refused
abbrev pub IsStop : List ℕ → Place → List ℕ → Stop → Type 0
IsStop key from bytes (stop.Refused number fault.Form) = IsBad key from bytes number fault.Form
IsStop key from bytes (stop.Refused number fault.Order) = IsBad key from bytes number fault.Order
IsStop key from bytes (stop.Refused number fault.Memory) = ⊤
IsStop key from bytes (stop.Beyond number) = IsBeyond key from bytes number
