-- What the changes of a command need of the tables.
use Rattle.std.specs.Prelude.{◌≡◌, ◌≢◌, Option}
use Rattle.goo_types.specs.declared.command.Command.TheVariants as command
use Rattle.goo_types.specs.declared.command.Correct.{Correct}
use Rattle.goo_types.specs.declared.command.Declare.{Declare}
use Rattle.goo_core_shelf.specs.declared.plan.Plan.{Plan}
use Rattle.goo_tables_rows.specs.Rows.{Tables, meta_in}
use Rattle.goo_tables_rows.specs.declared.meta.MetaRow.{MetaRow}
use Rattle.goo_store_plans.specs.Carried.{CanTakeNumber}
use Rattle.goo_store_plans.specs.Correcting.{CanAnswerCorrection}
use Rattle.goo_store_plans.specs.Declaring.{CanBeAnswered}
use Rattle.goo_store_plans.specs.Found.{IsRowOf}
use Rattle.goo_store_plans.specs.declared.known_rows.KnownBasis.{KnownBasis}

-- by the registry's row, which is the one that is kept if it is: a declaration and a correction can be answered, and any other
-- command takes a number
pub record CanGoByRow (t : Tables) (own : Option MetaRow) (kept : KnownBasis) (plan : Plan) : Type 0 where
  pub own_is : IsRowOf own t
  pub declares : (meta : MetaRow) (x : Declare) → t.meta ≡ meta_in meta → plan.request.command ≡ command.Declare x → CanBeAnswered t kept meta x plan.reply
  pub corrects : (meta : MetaRow) (x : Correct) → t.meta ≡ meta_in meta → plan.request.command ≡ command.Correct x → CanAnswerCorrection t kept meta x plan.reply
  pub takes : (meta : MetaRow) → t.meta ≡ meta_in meta → ((x : Declare) → plan.request.command ≢ command.Declare x) → ((x : Correct) → plan.request.command ≢ command.Correct x) → CanTakeNumber meta plan.request.command plan.notice
