use Rattle.std.proofs.Common.{◌∙◌, ap, pos, IsTrue}
use Rattle.sqlite.specs.Held.{state as view}
use Rattle.goo_spec_tables.specs.Devices.{progress_in}
use Rattle.goo_spec_tables.specs.States.{state_of}
use Rattle.goo_store_judge.proofs.Looking.{looked, refused_look, well}
use Rattle.goo_store_pieces.proofs.Found.{known}
use Rattle.goo_store_judge.proofs.Blaming.{blames, refused_blames}
use Rattle.goo_store_values.proofs.RowsRead.{found_part, each_so}
use Rattle.goo_spec_tables.specs.Readable.{is_device}
use Rattle.goo_tables_rows.specs.Rows.{device_in}
use Rattle.goo_store_judge.specs.Moments.{tables_in}
use Rattle.goo_store_pieces.proofs.Caching.{lasts_on}
use Rattle.goo_store.proofs.shelf.SqlShelfShelf.progress.Goals as goal

pub returns-then-self-clause-looks : goal.returns-then-self-clause-looks
returns-then-self-clause-looks g c = refused_look (view g.S.Store c.args.self.now.conn) c.args.self.now.well c.args.self.now.refused c.if-self.true (λ live db may. g.met.S.Store.settled c.args.self.now.conn.store db live may) _

pub invariant_of-self : goal.invariant_of-self
invariant_of-self g c = record {
  outside = c.find_device-found.ensures.outside c.args.self.now.outside;
  well = well (view g.S.Store c.args.self.now.conn) (view g.S.Store c.find_device-found.new.conn) c.args.self.now.well _ _ c.find_device-found.ensures.looks;
  known = known (view g.S.Store c.args.self.now.conn) (view g.S.Store c.find_device-found.new.conn) c.args.self.now.well _ _ c.find_device-found.ensures.looks c.args.self.now.known_rows c.args.self.now.known;
  cached = lasts_on (view g.S.Store c.args.self.now.conn) (view g.S.Store c.find_device-found.new.conn) c.args.self.now.well _ _ c.find_device-found.ensures.looks c.args.self.now.cache c.is_ok-self.result c.is_ok-self.ensures.value c.args.self.now.cached;
}

pub returns-clause-looks : goal.returns-clause-looks
unfolding state_of
returns-clause-looks g c =
    looked (view g.S.Store c.args.self.now.conn) (view g.S.Store c.find_device-found.new.conn) c.args.self.now.well _ _ c.find_device-found.ensures.looks _ _ c.read_progress.result
    c.args.self.now.refused c.note_fault.new.refused c.note_fault.result (λ live db may. g.met.S.Store.settled c.args.self.now.conn.store db live may) c.if-self.false c.read_progress.ensures.value c.note_fault.ensures
    (λ kept row progress found read. read ∙ ap progress_in (rw c.text.ensures.value at found) ∙ kept.progress c.args.device.now)

pub returns-then-self-clause-store : goal.returns-then-self-clause-store
returns-then-self-clause-store g c = refused_blames (view g.S.Store c.args.self.now.conn) c.args.self.now.refused _ c.if-self.true

pub returns-clause-store : goal.returns-clause-store
returns-clause-store g c =
    blames (view g.S.Store c.args.self.now.conn) (view g.S.Store c.find_device-found.new.conn) c.args.self.now.well _ _ c.find_device-found.ensures.looks _ _ c.read_progress.result c.args.self.now.refused c.note_fault.new.refused c.note_fault.result
    c.find_device-found.ensures.readable c.read_progress.ensures.accepts c.note_fault.ensures (λ can. can.devices)
    (λ stands kept row found. found_part (λ k. k.1) device_in (λ r. IsTrue (is_device (pos 0, r))) _ (tables_in (view g.S.Store c.args.self.now.conn)).devices (each_so is_device (λ k. IsTrue (is_device k)) (λ _ good. good) (tables_in (view g.S.Store c.args.self.now.conn)).devices kept.readable.devices) row found)
