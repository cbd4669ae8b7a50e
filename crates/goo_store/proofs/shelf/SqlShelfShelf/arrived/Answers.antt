use Rattle.std.proofs.Common.{◌∙◌, ap, refl, pos, IsTrue}
use Rattle.sqlite.specs.Held.{state as view}
use Rattle.std.proofs.Common.{◌&&◌, option_map}
use Rattle.std.specs.Ordering.{int_eq}
use Rattle.goo_core_shelf.specs.Shelf.{arrival_of}
use Rattle.goo_tables_rows.specs.Rows.{notice_in_in}
use Rattle.goo_spec_tables.specs.Records.{arrived_of}
use Rattle.goo_spec_tables.proofs.Known.{known_kept, notice_test, notice_total}
use Rattle.goo_spec_tables.specs.States.{state_of}
use Rattle.goo_store_judge.proofs.Looking.{looked, refused_look, well}
use Rattle.goo_store_pieces.proofs.Found.{known}
use Rattle.goo_store_judge.proofs.Blaming.{blames, refused_blames}
use Rattle.goo_store_values.proofs.RowsRead.{found_part, each_so}
use Rattle.goo_spec_tables.specs.Readable.{is_notice_in}
use Rattle.goo_store_judge.specs.Moments.{tables_in}
use Rattle.goo_store_pieces.proofs.Caching.{lasts_on}
use Rattle.goo_store.proofs.shelf.SqlShelfShelf.arrived.Goals as goal

pub returns-then-self-clause-looks : goal.returns-then-self-clause-looks
returns-then-self-clause-looks g c = refused_look (view g.S.Store c.args.self.now.conn) c.args.self.now.well c.args.self.now.refused c.if-self.true (λ live db may. g.met.S.Store.settled c.args.self.now.conn.store db live may) _

pub invariant_of-self : goal.invariant_of-self
invariant_of-self g c = record {
  outside = c.find_notice_in-found.ensures.outside c.args.self.now.outside;
  well = well (view g.S.Store c.args.self.now.conn) (view g.S.Store c.find_notice_in-found.new.conn) c.args.self.now.well _ _ c.find_notice_in-found.ensures.looks;
  known = known (view g.S.Store c.args.self.now.conn) (view g.S.Store c.find_notice_in-found.new.conn) c.args.self.now.well _ _ c.find_notice_in-found.ensures.looks c.args.self.now.known_rows c.args.self.now.known;
  cached = lasts_on (view g.S.Store c.args.self.now.conn) (view g.S.Store c.find_notice_in-found.new.conn) c.args.self.now.well _ _ c.find_notice_in-found.ensures.looks c.args.self.now.cache c.is_ok-self.result c.is_ok-self.ensures.value c.args.self.now.cached;
}

pub returns-clause-looks : goal.returns-clause-looks
unfolding state_of
returns-clause-looks g c =
    looked (view g.S.Store c.args.self.now.conn) (view g.S.Store c.find_notice_in-found.new.conn) c.args.self.now.well _ _ c.find_notice_in-found.ensures.looks _ _ c.read_arrival-arrival.result
    c.args.self.now.refused c.note_fault.new.refused c.note_fault.result (λ live db may. g.met.S.Store.settled c.args.self.now.conn.store db live may) c.if-self.false c.read_arrival-arrival.ensures.value c.note_fault.ensures
    (λ kept row arrival found read.
    let notice = c.args.notice.now in
    read ∙ ap (λ known. arrival_of known notice) (known_kept notice_total (λ k. (k.1.sender, k.1.number)) (notice.sender, notice.number) _
    (λ k. (λ i. int_eq (pos k.1.sender) (pos ((c.from-sender.ensures ∙ c.get.ensures.value ∙ c.sender.ensures) i)) && int_eq (pos k.1.number) (pos ((c.get-2.ensures.value ∙ c.number.ensures) i))) ∙ notice_test k.1.sender k.1.number notice.sender notice.number)
    (λ k. k.1) arrived_of _ _ (option_map arrived_of (option_map notice_in_in row)) found refl))

pub returns-then-self-clause-store : goal.returns-then-self-clause-store
returns-then-self-clause-store g c = refused_blames (view g.S.Store c.args.self.now.conn) c.args.self.now.refused _ c.if-self.true

pub returns-clause-store : goal.returns-clause-store
returns-clause-store g c =
    blames (view g.S.Store c.args.self.now.conn) (view g.S.Store c.find_notice_in-found.new.conn) c.args.self.now.well _ _ c.find_notice_in-found.ensures.looks _ _ c.read_arrival-arrival.result c.args.self.now.refused c.note_fault.new.refused c.note_fault.result
    c.find_notice_in-found.ensures.readable c.read_arrival-arrival.ensures.accepts c.note_fault.ensures (λ can. can.notices_in)
    (λ stands kept row found. found_part (λ k. k.1) notice_in_in (λ r. IsTrue (is_notice_in (pos 0, r))) _ (tables_in (view g.S.Store c.args.self.now.conn)).notices_in (each_so is_notice_in (λ k. IsTrue (is_notice_in k)) (λ _ good. good) (tables_in (view g.S.Store c.args.self.now.conn)).notices_in kept.readable.notices_in) row found)
