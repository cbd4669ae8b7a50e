use Rattle.std.proofs.Common.{◌∙◌, ap, pos}
use Rattle.sqlite.specs.Held.{state as view}
use Rattle.std.specs.Cmp.{nat_cmp_total}
use Rattle.std.specs.Ordering.{int_eq}
use Rattle.goo_spec_tables.specs.Records.{sent_of}
use Rattle.goo_spec_tables.proofs.Known.{known_row, number_test}
use Rattle.goo_spec_tables.specs.States.{state_of}
use Rattle.goo_store_judge.proofs.Looking.{looked, refused_look, well}
use Rattle.goo_store_pieces.proofs.Found.{known}
use Rattle.goo_store_judge.proofs.Blaming.{blames, refused_blames}
use Rattle.goo_store_values.proofs.RowsRead.{found_row, each_so}
use Rattle.goo_spec_tables.specs.Readable.{is_notice_out}
use Rattle.goo_tables_rows.specs.Rows.{notice_out_in}
use Rattle.goo_store_pieces.specs.Reading.{IsReadableSent}
use Rattle.goo_store_judge.specs.Moments.{tables_in}
use Rattle.goo_store_pieces.proofs.Caching.{lasts_on}
use Rattle.goo_store.proofs.shelf.SqlShelfShelf.sent.Goals as goal

pub returns-then-self-clause-looks : goal.returns-then-self-clause-looks
returns-then-self-clause-looks g c = refused_look (view g.S.Store c.args.self.now.conn) c.args.self.now.well c.args.self.now.refused c.if-self.true (λ live db may. g.met.S.Store.settled c.args.self.now.conn.store db live may) _

pub invariant_of-self : goal.invariant_of-self
invariant_of-self g c = record {
  outside = c.find_notice_out-found.ensures.outside c.args.self.now.outside;
  well = well (view g.S.Store c.args.self.now.conn) (view g.S.Store c.find_notice_out-found.new.conn) c.args.self.now.well _ _ c.find_notice_out-found.ensures.looks;
  known = known (view g.S.Store c.args.self.now.conn) (view g.S.Store c.find_notice_out-found.new.conn) c.args.self.now.well _ _ c.find_notice_out-found.ensures.looks c.args.self.now.known_rows c.args.self.now.known;
  cached = lasts_on (view g.S.Store c.args.self.now.conn) (view g.S.Store c.find_notice_out-found.new.conn) c.args.self.now.well _ _ c.find_notice_out-found.ensures.looks c.args.self.now.cache c.is_ok-self.result c.is_ok-self.ensures.value c.args.self.now.cached;
}

pub returns-clause-looks : goal.returns-clause-looks
unfolding state_of
returns-clause-looks g c =
    looked (view g.S.Store c.args.self.now.conn) (view g.S.Store c.find_notice_out-found.new.conn) c.args.self.now.well _ _ c.find_notice_out-found.ensures.looks _ _ c.read_sent.result
    c.args.self.now.refused c.note_fault.new.refused c.note_fault.result (λ live db may. g.met.S.Store.settled c.args.self.now.conn.store db live may) c.if-self.false c.read_sent.ensures.value c.note_fault.ensures
    (λ kept row sent found read. known_row nat_cmp_total (λ a. a.number) c.args.notice _ (λ a. ap (λ n. int_eq (pos a.number) (pos n)) c.get.ensures.value ∙ number_test a.number c.args.notice) sent_of _ _ sent found read)

pub returns-then-self-clause-store : goal.returns-then-self-clause-store
returns-then-self-clause-store g c = refused_blames (view g.S.Store c.args.self.now.conn) c.args.self.now.refused _ c.if-self.true

pub returns-clause-store : goal.returns-clause-store
returns-clause-store g c =
    blames (view g.S.Store c.args.self.now.conn) (view g.S.Store c.find_notice_out-found.new.conn) c.args.self.now.well _ _ c.find_notice_out-found.ensures.looks _ _ c.read_sent.result c.args.self.now.refused c.note_fault.new.refused c.note_fault.result
    c.find_notice_out-found.ensures.readable c.read_sent.ensures.accepts c.note_fault.ensures (λ can. can.notices_out)
    (λ stands kept row found. found_row notice_out_in IsReadableSent _ (tables_in (view g.S.Store c.args.self.now.conn)).notices_out (each_so (is_notice_out (tables_in (view g.S.Store c.args.self.now.conn)).meta.code) IsReadableSent (λ _ good. ((tables_in (view g.S.Store c.args.self.now.conn)).meta.code, good)) (tables_in (view g.S.Store c.args.self.now.conn)).notices_out kept.readable.notices_out) row found)
