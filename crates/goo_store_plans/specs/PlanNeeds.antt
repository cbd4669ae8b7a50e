-- What the changes of a plan need of the tables.
use Rattle.std.specs.Prelude.{length, Option}
use Rattle.goo_types.specs.declared.command.Command.{Command}
use Rattle.goo_types.specs.declared.command.Command.TheVariants.{OpenAccount, Declare, Correct, Cancel, Withdraw, Export, Import}
use Rattle.goo_core_shelf.specs.Plan.{Fits}
use Rattle.goo_core_shelf.specs.declared.plan.Plan.{Plan}
use Rattle.goo_tables_rows.specs.Rows.{Tables, declaration_key, lot_key, correction_key}
use Rattle.goo_tables_rows.specs.declared.meta.MetaRow.{MetaRow}
use Rattle.goo_spec_tables.specs.Places.{rows_of}
use Rattle.goo_spec_tables.specs.States.{state_of}
use Rattle.goo_store_plans.specs.AtHand.{HasRoom}
use Rattle.goo_store_plans.specs.Carried.{AreInOrder}
use Rattle.goo_store_plans.specs.EditsTaken.{HaveKeptNumbers}
use Rattle.goo_store_plans.specs.Found.{AreInTables, IsNext}
use Rattle.goo_store_plans.specs.Needing.{CanGoByRow}
use Rattle.goo_store_plans.specs.declared.known_rows.KnownRows.{KnownRows}
use Rattle.goo_store_plans.specs.declared.known_rows.KnownBasis.{KnownBasis}

-- an import has room for the lots of its parts, and a command that needs the registry's row can go by it
abbrev pub CanGo : Tables → Option MetaRow → KnownBasis → Plan → Command → Type 0
CanGo t own kept plan (Import x) = IsNext kept.next_lot lot_key t.lots × HasRoom (length x.notice.parts) lot_key t.lots
CanGo t own kept plan (OpenAccount x) = CanGoByRow t own kept plan
CanGo t own kept plan (Declare x) = CanGoByRow t own kept plan
CanGo t own kept plan (Correct x) = CanGoByRow t own kept plan
CanGo t own kept plan (Cancel x) = CanGoByRow t own kept plan
CanGo t own kept plan (Withdraw x) = CanGoByRow t own kept plan
CanGo t own kept plan (Export x) = CanGoByRow t own kept plan
CanGo t own kept plan _ = Unit {0}

-- what the command puts in under a number gets one that a column keeps: a declaration and its lot, a correction,
-- and the lots of an import's parts
abbrev pub HasRoomFor : Tables → Command → Type 0
HasRoomFor t (Declare x) = HasRoom 1 declaration_key t.declarations × HasRoom 1 lot_key t.lots
HasRoomFor t (Correct x) = HasRoom 1 correction_key t.corrections
HasRoomFor t (Import x) = HasRoom (length x.notice.parts) lot_key t.lots
HasRoomFor t _ = Unit {0}

-- What was kept is so in the tables, in which the plan may be committed, and they have room for its command; and columns
-- keep the numbers of the lots that are there.
pub record CanBePlanned (t : Tables) (known_rows : KnownRows) (plan : Plan) : Type 0 where
  pub found : AreInTables known_rows t
  pub order : AreInOrder t
  pub fits : Fits (state_of t) (rows_of t) plan
  pub room : HasRoomFor t plan.request.command
  pub lots : HaveKeptNumbers t.lots
