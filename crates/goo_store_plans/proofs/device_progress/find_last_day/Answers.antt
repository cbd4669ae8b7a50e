use Rattle.std.proofs.Common.{IsTrue, ap, is_some, pos, sym, ◌∙◌}
use Rattle.sqlite.specs.Held.{state}
use Rattle.goo_spec_tables.specs.Devices.{device_row, progress_in}
use Rattle.goo_spec_tables.specs.Readable.{is_device}
use Rattle.goo_tables_rows.specs.Rows.{device_in}
use Rattle.goo_store_values.proofs.RowsRead.{found_part, each_so}
use Rattle.goo_store_plans.proofs.LookUps.{looked_up}
use Rattle.goo_store_plans.proofs.Refusing.{blames_read, last_day_there}
use Rattle.goo_store_plans.proofs.device_progress.find_last_day.Goals as goal

pub returns-clause-looks : goal.returns-clause-looks
returns-clause-looks g c =
    looked_up (state g.S.Store c.args.conn.now) (state g.S.Store c.find_device-found.new.conn) _ _ c.find_device-found.ensures.looks _ _ c.last_day_found.result c.last_day_found.ensures.value
    (λ t stands found day right read.
    sym (ap (λ o. (progress_in o).last_day) (right ∙ ap (device_row t.devices) c.text.ensures.value)) ∙ read)

pub returns-clause-blames : goal.returns-clause-blames
returns-clause-blames g c =
    blames_read (state g.S.Store c.args.conn.now) (state g.S.Store c.find_device-found.new.conn) _ _ c.find_device-found.ensures.looks _ _ _ c.last_day_found.result c.find_device-found.ensures.readable c.last_day_found.ensures.accepts (λ t can. can.devices)
    (λ t stands kept ended found is.
    last_day_there (λ r. IsTrue (is_device (pos 0, device_in r))) found
    (ap (λ o. is_some (progress_in o).last_day) (is ∙ ap (device_row t.devices) c.text.ensures.value) ∙ ended)
    (found_part (λ k. k.1) device_in (λ r. IsTrue (is_device (pos 0, r))) _ t.devices (each_so is_device (λ k. IsTrue (is_device k)) (λ _ good. good) t.devices kept.readable.devices) found is))
