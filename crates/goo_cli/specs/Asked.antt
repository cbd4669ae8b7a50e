-- What a command line asks for, with the texts of its paths.
use Rattle.std.specs.Prelude.{ℕ, List, Result, Ok, Err}
use Rattle.goo_cli.specs.declared.task.Invocation.{Invocation}
use Rattle.goo_cli.specs.declared.task.Invocation.TheVariants as task
use Rattle.goo_cli.specs.declared.task.Records.{Records}
use Rattle.goo_cli.specs.declared.task.Records.TheVariants as place
use Rattle.goo_cli.specs.declared.task.Opening.{Opening}
use Rattle.goo_cli.specs.declared.task.Serving.{Serving}
use Rattle.goo_cli.specs.declared.line_fault.LineFault.{LineFault}

-- where the records are: a new registry in memory, or a file
pub data Where : Type 0 where
  InMemory : Opening → Where
  InFile : List ℕ → Where

pub data Asked : Type 0 where
  Init : List ℕ → Opening → Asked
  Run : Where → Asked
  Declare : List ℕ → Asked
  Statement : List ℕ → ℕ → Asked
  Audit : List ℕ → Asked
  Serve : Where → Serving → Asked

abbrev pub where_of : Records → Where
where_of (place.Memory opening) = InMemory opening
where_of (place.File file) = InFile file.now

abbrev pub asked_by : Invocation → Asked
asked_by (task.Init file opening) = Init file.now opening
asked_by (task.Run place) = Run (where_of place)
asked_by (task.Declare file) = Declare file.now
asked_by (task.Statement file account) = Statement file.now account
asked_by (task.Audit file) = Audit file.now
asked_by (task.Serve place serving) = Serve (where_of place) serving

abbrev pub asked_place : Result Records LineFault → Result Where LineFault
asked_place (Ok place) = Ok (where_of place)
asked_place (Err fault) = Err fault

abbrev pub asked : Result Invocation LineFault → Result Asked LineFault
asked (Ok task) = Ok (asked_by task)
asked (Err fault) = Err fault
