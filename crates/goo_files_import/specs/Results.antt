-- What a row of an import comes to.
use Rattle.goo_types.specs.declared.fault.Fault.{Fault}
use Rattle.goo_types.specs.declared.fault.Fault.TheVariants as fault
use Rattle.goo_types.specs.declared.outcome.Outcome.{Outcome}
use Rattle.goo_types.specs.declared.outcome.Outcome.TheVariants as outcome
use Rattle.goo_files_import.specs.declared.cause.Cause.{Cause}
use Rattle.goo_files_import.specs.declared.cause.Cause.TheVariants as cause
use Rattle.goo_files_import.specs.declared.row_result.RowResult.{RowResult}
use Rattle.goo_files_import.specs.declared.row_result.RowResult.TheVariants as row

abbrev pub result_of : Outcome → RowResult
result_of (outcome.Accepted reply) = row.Accepted
result_of (outcome.Repeated reply) = row.Repeated
result_of (outcome.Refused refusal) = row.Refused refusal

abbrev pub cause_of : Fault → Cause
cause_of fault.Store = cause.Store
cause_of fault.Memory = cause.Memory
