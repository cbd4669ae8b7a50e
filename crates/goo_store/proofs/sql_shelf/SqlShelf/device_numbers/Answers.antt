use Rattle.std.proofs.Common.{◌∙◌, ap, map}
use Rattle.goo_spec.specs.State.{text_cmp}
use Rattle.std.specs.FinMap.{from_entries, keys}
use Rattle.goo_spec_tables.specs.Devices.{device_entry}
use Rattle.goo_spec_tables.proofs.DeviceLemmas.{entries_same}
use Rattle.goo_store_judge.specs.Moments.{tables_in}
use Rattle.sqlite.specs.Held.{state as view}
use Rattle.goo_spec_tables.specs.States.{state_of}
use Rattle.goo_store_judge.proofs.Looking.{looked, refused_look, well}
use Rattle.goo_store_pieces.proofs.Found.{known}
use Rattle.goo_store_judge.proofs.Blaming.{blames, refused_blames}
use Rattle.goo_store_open.proofs.Carrying.{devices_read}
use Rattle.goo_store.proofs.DeviceKeys.{keys_bare}
use Rattle.goo_store_pieces.proofs.RowsRead.{devices_found}
use Rattle.goo_store_pieces.proofs.Caching.{lasts_on}
use Rattle.goo_store.proofs.sql_shelf.SqlShelf.device_numbers.Goals as goal

pub returns-then-self-clause-looks : goal.returns-then-self-clause-looks
returns-then-self-clause-looks g c = refused_look (view g.S.Store c.args.self.now.conn) c.args.self.now.well c.args.self.now.refused c.if-self.true (λ live db may. g.met.S.Store.settled c.args.self.now.conn.store db live may) _

pub invariant_of-self : goal.invariant_of-self
invariant_of-self g c = record {
  outside = c.all_devices-found.ensures.outside c.args.self.now.outside;
  well = well (view g.S.Store c.args.self.now.conn) (view g.S.Store c.all_devices-found.new.conn) c.args.self.now.well _ _ c.all_devices-found.ensures.looks;
  known = known (view g.S.Store c.args.self.now.conn) (view g.S.Store c.all_devices-found.new.conn) c.args.self.now.well _ _ c.all_devices-found.ensures.looks c.args.self.now.known_rows c.args.self.now.known;
  cached = lasts_on (view g.S.Store c.args.self.now.conn) (view g.S.Store c.all_devices-found.new.conn) c.args.self.now.well _ _ c.all_devices-found.ensures.looks c.args.self.now.cache c.is_ok-self.result c.is_ok-self.ensures.value c.args.self.now.cached;
}

pub returns-clause-looks : goal.returns-clause-looks
unfolding state_of
returns-clause-looks g c =
    looked (view g.S.Store c.args.self.now.conn) (view g.S.Store c.all_devices-found.new.conn) c.args.self.now.well _ _ c.all_devices-found.ensures.looks _ _ c.sorted_numbers.result
    c.args.self.now.refused c.note_fault.new.refused c.note_fault.result (λ live db may. g.met.S.Store.settled c.args.self.now.conn.store db live may) c.if-self.false c.sorted_numbers.ensures.value c.note_fault.ensures
    (λ kept rows numbers found read. read ∙ ap (λ ds. keys (from_entries {R = text_cmp} (map device_entry ds))) found ∙ keys_bare (map (λ k. k.1) (tables_in (view g.S.Store c.args.self.now.conn)).devices) ∙ ap (λ es. keys (from_entries {R = text_cmp} es)) (entries_same (tables_in (view g.S.Store c.args.self.now.conn)).devices))

pub returns-then-self-clause-store : goal.returns-then-self-clause-store
returns-then-self-clause-store g c = refused_blames (view g.S.Store c.args.self.now.conn) c.args.self.now.refused _ c.if-self.true

pub returns-clause-store : goal.returns-clause-store
returns-clause-store g c =
    blames (view g.S.Store c.args.self.now.conn) (view g.S.Store c.all_devices-found.new.conn) c.args.self.now.well _ _ c.all_devices-found.ensures.looks _ _ c.sorted_numbers.result c.args.self.now.refused c.note_fault.new.refused c.note_fault.result
    c.all_devices-found.ensures.readable c.sorted_numbers.ensures.accepts c.note_fault.ensures (λ can. devices_read (tables_in (view g.S.Store c.args.self.now.conn)).devices can.devices)
    (λ stands kept rows found. devices_found (view g.S.Store c.args.self.now.conn).now (tables_in (view g.S.Store c.args.self.now.conn)) stands kept rows.items found)
