use Rattle.std.proofs.Common.{◌∙◌, ap, pos, IsTrue}
use Rattle.sqlite.specs.Held.{state as view}
use Rattle.std.specs.Cmp.{nat_cmp_total}
use Rattle.std.specs.Ordering.{int_eq}
use Rattle.goo_spec_tables.specs.Records.{cancellation_of}
use Rattle.goo_spec_tables.proofs.Known.{known_row, number_test}
use Rattle.goo_spec_tables.specs.States.{state_of}
use Rattle.goo_store_judge.proofs.Looking.{looked, refused_look, well}
use Rattle.goo_store_pieces.proofs.Found.{known}
use Rattle.goo_store_judge.proofs.Blaming.{blames, refused_blames}
use Rattle.goo_store_values.proofs.RowsRead.{found_row, each_so}
use Rattle.goo_spec_tables.specs.Readable.{is_cancellation}
use Rattle.goo_tables_rows.specs.Rows.{cancellation_in}
use Rattle.goo_store_judge.specs.Moments.{tables_in}
use Rattle.goo_store_pieces.proofs.Caching.{lasts_on}
use Rattle.goo_store.proofs.shelf.SqlShelfShelf.cancelled.Goals as goal

pub returns-then-self-clause-looks : goal.returns-then-self-clause-looks
returns-then-self-clause-looks g c = refused_look (view g.S.Store c.args.self.now.conn) c.args.self.now.well c.args.self.now.refused c.if-self.true (λ live db may. g.met.S.Store.settled c.args.self.now.conn.store db live may) _

pub invariant_of-self : goal.invariant_of-self
invariant_of-self g c = record {
  outside = c.find_cancellation-found.ensures.outside c.args.self.now.outside;
  well = well (view g.S.Store c.args.self.now.conn) (view g.S.Store c.find_cancellation-found.new.conn) c.args.self.now.well _ _ c.find_cancellation-found.ensures.looks;
  known = known (view g.S.Store c.args.self.now.conn) (view g.S.Store c.find_cancellation-found.new.conn) c.args.self.now.well _ _ c.find_cancellation-found.ensures.looks c.args.self.now.known_rows c.args.self.now.known;
  cached = lasts_on (view g.S.Store c.args.self.now.conn) (view g.S.Store c.find_cancellation-found.new.conn) c.args.self.now.well _ _ c.find_cancellation-found.ensures.looks c.args.self.now.cache c.is_ok-self.result c.is_ok-self.ensures.value c.args.self.now.cached;
}

pub returns-clause-looks : goal.returns-clause-looks
unfolding state_of
returns-clause-looks g c =
    looked (view g.S.Store c.args.self.now.conn) (view g.S.Store c.find_cancellation-found.new.conn) c.args.self.now.well _ _ c.find_cancellation-found.ensures.looks _ _ c.read_record.result
    c.args.self.now.refused c.note_fault.new.refused c.note_fault.result (λ live db may. g.met.S.Store.settled c.args.self.now.conn.store db live may) c.if-self.false c.read_record.ensures.value c.note_fault.ensures
    (λ kept row found_as found read. known_row nat_cmp_total (λ a. a.number) c.args.cancellation _ (λ a. ap (λ n. int_eq (pos a.number) (pos n)) c.get.ensures.value ∙ number_test a.number c.args.cancellation) cancellation_of _ _ found_as found read)

pub returns-then-self-clause-store : goal.returns-then-self-clause-store
returns-then-self-clause-store g c = refused_blames (view g.S.Store c.args.self.now.conn) c.args.self.now.refused _ c.if-self.true

pub returns-clause-store : goal.returns-clause-store
returns-clause-store g c =
    blames (view g.S.Store c.args.self.now.conn) (view g.S.Store c.find_cancellation-found.new.conn) c.args.self.now.well _ _ c.find_cancellation-found.ensures.looks _ _ c.read_record.result c.args.self.now.refused c.note_fault.new.refused c.note_fault.result
    c.find_cancellation-found.ensures.readable c.read_record.ensures.accepts c.note_fault.ensures (λ can. can.cancellations)
    (λ stands kept row found. found_row cancellation_in (λ r. IsTrue (is_cancellation r)) _ (tables_in (view g.S.Store c.args.self.now.conn)).cancellations (each_so is_cancellation (λ r. IsTrue (is_cancellation r)) (λ _ good. good) (tables_in (view g.S.Store c.args.self.now.conn)).cancellations kept.readable.cancellations) row found)
