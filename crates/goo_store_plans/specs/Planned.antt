-- Changes of the tables that carry out a plan.
use Rattle.std.specs.Prelude.{◌≡◌, List}
use Rattle.goo_spec.specs.Step.{accept}
use Rattle.goo_ranges_rows.specs.Rows.{edited_all}
use Rattle.goo_core_shelf.specs.declared.plan.Plan.{Plan}
use Rattle.goo_tables_rows.specs.Rows.{Tables}
use Rattle.goo_store_changes.specs.Changes.{made_all, AreFor, AreFree, HaveRoom}
use Rattle.goo_spec_tables.specs.Kept.{AreKept}
use Rattle.goo_spec_tables.specs.Places.{rows_of}
use Rattle.goo_spec_tables.specs.States.{state_of}
use Rattle.goo_store_changes.specs.declared.table_change.TableChange.{TableChange}
use Rattle.goo_store_plans.specs.Room.{HaveRowids}

-- they can be made in turn, each where it is free and has room, they leave the state after the plan's request and the rows after its edits, and the rules are kept
pub record IsPlanned (t : Tables) (changes : List TableChange) (plan : Plan) : Type 0 where
  pub for : AreFor t changes
  pub free : AreFree t changes
  pub room : HaveRowids t → HaveRoom t changes
  pub state : state_of (made_all t changes) ≡ accept (state_of t) plan.request
  pub rows : rows_of (made_all t changes) ≡ edited_all plan.edits.items (rows_of t)
  pub kept : AreKept (made_all t changes)
