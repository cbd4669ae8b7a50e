use Rattle.std.proofs.Common.{◌≡◌, ◌∙◌, ℕ, List, Option, Some, None, option_map, ap, refl, subst, sym, pos, IsTrue}
use Rattle.std.specs.FinMap.{get}
use Rattle.sqlite.specs.Held.{state as view}
use Rattle.std.specs.Cmp.Lexicographic.{nat_list_cmp_total}
use Rattle.sqlite_typed.specs.Tests.{bytes_eq}
use Rattle.goo_spec.specs.State.{State}
use Rattle.goo_core_shelf.specs.Shelf.{progress_of, IsRecordOf}
use Rattle.goo_core_shelf.specs.declared.found.DeviceRecord.{DeviceRecord}
use Rattle.goo_tables_rows.specs.Rows as row
use Rattle.goo_spec_tables.specs.Devices.{device_of, device_row, progress_in, record_in}
use Rattle.goo_spec_tables.proofs.Known.{known_kept, text_test}
use Rattle.goo_spec_tables.specs.States.{state_of}
use Rattle.goo_store_judge.proofs.Looking.{looked, refused_look, well}
use Rattle.goo_store_pieces.proofs.Found.{device_known}
use Rattle.goo_store_judge.proofs.Blaming.{blames, refused_blames}
use Rattle.goo_store_values.proofs.RowsRead.{found_part, each_so}
use Rattle.goo_spec_tables.specs.Readable.{is_device}
use Rattle.goo_tables_rows.specs.Rows.{device_in}
use Rattle.goo_store_judge.specs.Moments.{tables_in}
use Rattle.goo_store_pieces.proofs.Caching.{lasts_on}
use Rattle.goo_store.proofs.shelf.SqlShelfShelf.device_record.Goals as goal

-- a row tells of the device that the state has, and of its progress
record_is : (s : State) (number : List ℕ) (o : Option row.Device) (found : Option DeviceRecord) → found ≡ record_in o → option_map device_of o ≡ get s.devices number → progress_in o ≡ progress_of s number → IsRecordOf s number found
record_is s number None found is device progress = subst (IsRecordOf s number) (sym is) (sym device)
record_is s number (Some d) found is device progress = subst (IsRecordOf s number) (sym is) (sym device, progress)

pub returns-then-self-clause-looks : goal.returns-then-self-clause-looks
returns-then-self-clause-looks g c = refused_look (view g.S.Store c.args.self.now.conn) c.args.self.now.well c.args.self.now.refused c.if-self.true (λ live db may. g.met.S.Store.settled c.args.self.now.conn.store db live may) _

pub invariant_of-self : goal.invariant_of-self
unfolding state_of
invariant_of-self g c = record {
  outside = c.find_device-found.ensures.outside c.args.self.now.outside;
  well = well (view g.S.Store c.args.self.now.conn) (view g.S.Store c.find_device-found.new.conn) c.args.self.now.well _ _ c.find_device-found.ensures.looks;
  known =
      device_known (view g.S.Store c.args.self.now.conn) (view g.S.Store c.find_device-found.new.conn) c.args.self.now.well _ _ c.find_device-found.ensures.looks c.args.device.now
      (λ row found. (
        sym (known_kept nat_list_cmp_total (λ k. k.1.gsrn) c.args.device.now _ (λ k. ap (bytes_eq k.1.gsrn) c.text.ensures.value ∙ text_test k.1.gsrn c.args.device.now) (λ k. k.1) device_of _ _ (Some (device_of (device_in row))) found refl),
        sym (ap (λ o. (progress_in o).last_day) (found ∙ ap (device_row (tables_in (view g.S.Store c.args.self.now.conn)).devices) c.text.ensures.value)),
      ))
      c.args.self.now.known_rows c.read_record-record.new.kept c.args.self.now.known c.read_record-record.ensures.kept;
  cached = lasts_on (view g.S.Store c.args.self.now.conn) (view g.S.Store c.find_device-found.new.conn) c.args.self.now.well _ _ c.find_device-found.ensures.looks c.args.self.now.cache c.is_ok-self.result c.is_ok-self.ensures.value c.args.self.now.cached;
}

pub returns-clause-looks : goal.returns-clause-looks
unfolding state_of
returns-clause-looks g c =
    looked (view g.S.Store c.args.self.now.conn) (view g.S.Store c.find_device-found.new.conn) c.args.self.now.well _ _ c.find_device-found.ensures.looks _ _ c.read_record-record.result
    c.args.self.now.refused c.note_fault.new.refused c.note_fault.result (λ live db may. g.met.S.Store.settled c.args.self.now.conn.store db live may) c.if-self.false c.read_record-record.ensures.value c.note_fault.ensures
    (λ kept found_row found_record found read.
    record_is _ c.args.device.now _ found_record read
    (known_kept nat_list_cmp_total (λ k. k.1.gsrn) c.args.device.now _ (λ k. ap (bytes_eq k.1.gsrn) c.text.ensures.value ∙ text_test k.1.gsrn c.args.device.now) (λ k. k.1) device_of _ _ _ found refl)
    (ap progress_in (rw c.text.ensures.value at found) ∙ kept.progress c.args.device.now))

pub returns-then-self-clause-store : goal.returns-then-self-clause-store
returns-then-self-clause-store g c = refused_blames (view g.S.Store c.args.self.now.conn) c.args.self.now.refused _ c.if-self.true

pub returns-clause-store : goal.returns-clause-store
returns-clause-store g c =
    blames (view g.S.Store c.args.self.now.conn) (view g.S.Store c.find_device-found.new.conn) c.args.self.now.well _ _ c.find_device-found.ensures.looks _ _ c.read_record-record.result c.args.self.now.refused c.note_fault.new.refused c.note_fault.result
    c.find_device-found.ensures.readable c.read_record-record.ensures.accepts c.note_fault.ensures (λ can. can.devices)
    (λ stands kept row found. found_part (λ k. k.1) device_in (λ r. IsTrue (is_device (pos 0, r))) _ (tables_in (view g.S.Store c.args.self.now.conn)).devices (each_so is_device (λ k. IsTrue (is_device k)) (λ _ good. good) (tables_in (view g.S.Store c.args.self.now.conn)).devices kept.readable.devices) row found)
