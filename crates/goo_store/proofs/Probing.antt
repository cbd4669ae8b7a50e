-- A probe of the database: a statement that is prepared and not run.
use Rattle.std.proofs.Common.{Result, Ok, Err, IfErr}
use Rattle.std.specs.Prelude.{⊤}
use Rattle.sqlite.specs.declared.error.Error.{Error}
use Rattle.goo_store_values.specs.Passing.{Accepts, Passes, IsStatementFaultOf}
use Rattle.goo_store_values.specs.Telling.{PassesOn}
use Rattle.goo_store_values.specs.declared.statement_fault.StatementFault.{StatementFault}

-- an end that shows no rows passes as what was found
pub passes : (made : Result (Unit {0}) Error) (read : Result (Unit {0}) StatementFault) → PassesOn made read → Passes made read (λ _ _. ⊤)
passes (Ok x) (Ok y) on = tt
passes (Ok x) (Err f) on = absurd cc
passes (Err e) read on = on

pub accepts : (made : Result (Unit {0}) Error) (read : Result (Unit {0}) StatementFault) → PassesOn made read → IfErr made (λ e. IfErr read (IsStatementFaultOf e)) → Accepts made read (λ _. ⊤)
accepts (Ok x) (Ok y) on cause = λ _. tt
accepts (Ok x) (Err f) on cause = absurd cc
accepts (Err e) read on cause = cause
