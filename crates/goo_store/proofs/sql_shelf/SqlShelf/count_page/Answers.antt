use Rattle.sqlite.specs.Held.{state as view}
use Rattle.goo_store_audit.specs.Counting.{shares_of}
use Rattle.goo_store_judge.specs.Moments.{tables_in}
use Rattle.goo_spec_tables.specs.Places.{rows_of}
use Rattle.goo_store_judge.proofs.Looking.{looked, refused_look, well}
use Rattle.goo_store_judge.proofs.Blaming.{blames, refused_blames}
use Rattle.goo_store.proofs.CountingFound.{countable_shown, device_pieces_read}
use Rattle.goo_store_audit.proofs.CountingLemmas.{page_added, shares_shown}
use Rattle.goo_store_pieces.proofs.Found.{known}
use Rattle.goo_store_pieces.proofs.Caching.{lasts_on}
use Rattle.goo_store.proofs.sql_shelf.SqlShelf.count_page.Goals as goal

pub returns-then-self-clause-looks : goal.returns-then-self-clause-looks
returns-then-self-clause-looks g c = refused_look (view g.S.Store c.args.self.now.conn) c.args.self.now.well c.args.self.now.refused c.if-self.true (λ live db may. g.met.S.Store.settled c.args.self.now.conn.store db live may) _

pub returns-then-self-clause-store : goal.returns-then-self-clause-store
returns-then-self-clause-store g c = refused_blames (view g.S.Store c.args.self.now.conn) c.args.self.now.refused _ c.if-self.true

pub invariant_of-self : goal.invariant_of-self
invariant_of-self g c = record {
  outside = c.page_of_pieces-found.ensures.outside c.args.self.now.outside;
  well = well (view g.S.Store c.args.self.now.conn) (view g.S.Store c.page_of_pieces-found.new.conn) c.args.self.now.well _ _ c.page_of_pieces-found.ensures.looks;
  known = known (view g.S.Store c.args.self.now.conn) (view g.S.Store c.page_of_pieces-found.new.conn) c.args.self.now.well _ _ c.page_of_pieces-found.ensures.looks c.args.self.now.known_rows c.args.self.now.known;
  cached = lasts_on (view g.S.Store c.args.self.now.conn) (view g.S.Store c.page_of_pieces-found.new.conn) c.args.self.now.well _ _ c.page_of_pieces-found.ensures.looks c.args.self.now.cache c.is_ok-self.result c.is_ok-self.ensures.value c.args.self.now.cached;
}

pub returns-clause-looks : goal.returns-clause-looks
returns-clause-looks g c =
    let old = view g.S.Store c.args.self.now.conn in
    looked old (view g.S.Store c.page_of_pieces-found.new.conn) c.args.self.now.well _ _ c.page_of_pieces-found.ensures.looks _ _ c.count_found-next.result
    c.args.self.now.refused c.note_fault.new.refused c.note_fault.result (λ live db may. g.met.S.Store.settled c.args.self.now.conn.store db live may) c.if-self.false c.count_found-next.ensures.value c.note_fault.ensures
    (λ kept rows next found added.
    page_added (rows_of (tables_in old)) kept.rising c.args.low c.args.own c.args.withdrawals.now c.args.tally.now c.count_found-next.new.tally (shares_of rows.items) next (shares_shown (tables_in old) c.args.low rows.items found) added.0 added.1)

pub returns-clause-store : goal.returns-clause-store
returns-clause-store g c =
    let old = view g.S.Store c.args.self.now.conn in
    blames old (view g.S.Store c.page_of_pieces-found.new.conn) c.args.self.now.well _ _ c.page_of_pieces-found.ensures.looks _ _ c.count_found-next.result c.args.self.now.refused c.note_fault.new.refused c.note_fault.result
    c.page_of_pieces-found.ensures.readable c.count_found-next.ensures.accepts c.note_fault.ensures (device_pieces_read (tables_in old))
    (λ stands kept rows found. countable_shown old.now (tables_in old) stands kept c.args.low rows.items found)
