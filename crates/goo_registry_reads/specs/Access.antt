-- Who may see an account.
use Rattle.std.specs.Prelude.{List, ℕ, Option, Some, None, if◌then◌else◌}
use Rattle.goo_spec.specs.State.{Account}
use Rattle.goo_spec.specs.Checks.{is_issuer}
use Rattle.goo_core_reads.specs.Reads.{may_see}
use Rattle.goo_core_reads.specs.declared.denial.Denial.{Denial}
use Rattle.goo_core_reads.specs.declared.denial.Denial.TheVariants.{NotAllowed, Unknown}

-- why something that isn't there isn't shown: only the issuing body learns that
abbrev pub absent_denial : List ℕ → Denial
absent_denial caller = if is_issuer caller then Unknown else NotAllowed

-- why an account, or what was done with its certificates, isn't shown; None where it is
abbrev pub account_denial : List ℕ → Option Account → Option Denial
account_denial caller None = Some (absent_denial caller)
account_denial caller (Some account) = if may_see caller (Some account) then None else Some NotAllowed
