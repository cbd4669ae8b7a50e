use Rattle.std.proofs.Common.{◌≡◌, Ok, IfSome, Some, subst}
use Rattle.sqlite.specs.Held.{state}
use Rattle.goo_tables_rows.specs.Rows.{Tables}
use Rattle.goo_spec_tables.specs.Devices.{device_row, progress_in}
use Rattle.goo_store_plans.specs.Found.{IsDeviceOf}
use Rattle.goo_store_plans.proofs.LookUps.{looks_none, looks_so}
use Rattle.goo_store_plans.proofs.Refusing.{blames_none}
use Rattle.goo_store_plans.proofs.correction_basis.known_last_day.Goals as goal

pub returns-in-Some-clause-looks : goal.returns-in-Some-clause-looks
returns-in-Some-clause-looks g c = looks_none (state g.S.Store c.args.conn.now) (Ok c.in-Some.day) _ (λ t it is. subst (λ o. IfSome o (λ day. (t : Tables) → IsDeviceOf c.args.kept t → (progress_in (device_row t.devices c.args.device.now)).last_day ≡ Some day)) c.in-Some.is c.last_day_kept.ensures t is)

pub returns-in-None-clause-looks : goal.returns-in-None-clause-looks
returns-in-None-clause-looks g c =
    looks_so (state g.S.Store c.args.conn.now) (state g.S.Store c.find_last_day.new.conn) c.find_last_day.result _ _ c.find_last_day.ensures.looks (λ t it day is kept. is)

pub returns-in-Some-clause-blames : goal.returns-in-Some-clause-blames
returns-in-Some-clause-blames g c = blames_none (state g.S.Store c.args.conn.now) (Ok c.in-Some.day) _ (λ t stands kept ended. tt)
