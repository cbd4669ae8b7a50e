use Rattle.std.proofs.Common.{IsTrue, ap, is_some, option_map, pos, refl, sym, ◌∙◌}
use Rattle.sqlite.specs.Held.{state}
use Rattle.std.specs.Cmp.Lexicographic.{nat_list_cmp_total}
use Rattle.sqlite_typed.specs.Tests.{bytes_eq}
use Rattle.goo_tables_rows.specs.Rows.{device_in}
use Rattle.goo_spec_tables.specs.Devices.{device_of}
use Rattle.goo_spec_tables.proofs.Known.{known_kept, text_test}
use Rattle.goo_spec_tables.specs.States.{state_of}
use Rattle.goo_store_plans.proofs.LookUps.{looked_up}
use Rattle.goo_spec_tables.specs.Readable.{is_device}
use Rattle.goo_store_plans.proofs.Refusing.{blames_read, some_and}
use Rattle.goo_store_values.proofs.RowsRead.{found_part, each_so}
use Rattle.sqlite_keyed.proofs.SliceLemmas.{is_some-map}
use Rattle.goo_store_plans.proofs.standing.find_registered.Goals as goal

pub returns-clause-looks : goal.returns-clause-looks
unfolding state_of
returns-clause-looks g c =
    looked_up (state g.S.Store c.args.conn.now) (state g.S.Store c.find_device-found.new.conn) _ _ c.find_device-found.ensures.looks _ _ c.device_found.result c.device_found.ensures.value
    (λ t stands found device right read.
    sym (known_kept nat_list_cmp_total (λ k. k.1.gsrn) c.args.gsrn.now _ (λ k. ap (bytes_eq k.1.gsrn) c.text.ensures.value ∙ text_test k.1.gsrn c.args.gsrn.now) (λ k. k.1) device_of _ _ (option_map device_of (option_map device_in found)) right refl) ∙ read)

pub returns-clause-blames : goal.returns-clause-blames
unfolding state_of
returns-clause-blames g c =
    blames_read (state g.S.Store c.args.conn.now) (state g.S.Store c.find_device-found.new.conn) _ _ c.find_device-found.ensures.looks _ _ _ c.device_found.result c.find_device-found.ensures.readable c.device_found.ensures.accepts (λ t can. can.devices)
    (λ t stands kept registered found is.
    some_and (λ r. IsTrue (is_device (pos 0, device_in r))) found
    (sym (is_some-map device_in found) ∙ sym (is_some-map device_of (option_map device_in found))
    ∙ ap is_some (known_kept nat_list_cmp_total (λ k. k.1.gsrn) c.args.gsrn.now _ (λ k. ap (bytes_eq k.1.gsrn) c.text.ensures.value ∙ text_test k.1.gsrn c.args.gsrn.now) (λ k. k.1) device_of _ _ (option_map device_of (option_map device_in found)) is refl) ∙ registered)
    (found_part (λ k. k.1) device_in (λ r. IsTrue (is_device (pos 0, r))) _ t.devices (each_so is_device (λ k. IsTrue (is_device k)) (λ _ good. good) t.devices kept.readable.devices) found is))
