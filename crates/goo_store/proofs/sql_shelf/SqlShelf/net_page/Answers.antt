use Rattle.std.proofs.Common.{map, refl}
use Rattle.sqlite.specs.Held.{state as view}
use Rattle.sqlite_keyed.specs.Keyed.{IsKeyedBy}
use Rattle.goo_core_shelf.proofs.Looking as shelf
use Rattle.goo_store_audit.specs.NetCounting.{IsNetPageAdded}
use Rattle.goo_store_judge.specs.Moments.{moment, tables_in}
use Rattle.goo_store_judge.proofs.Looking.{looked, refused_look, tables_same, well}
use Rattle.goo_store_judge.proofs.Blaming.{blames, refused_blames}
use Rattle.goo_store_pieces.proofs.Found.{known}
use Rattle.goo_store_audit.proofs.NetLemmas.{net_page_added, nets_read, nets_shown}
use Rattle.goo_store_pieces.proofs.Caching.{lasts_on}
use Rattle.goo_tables_pages.specs.NetRows.{net_in}
use Rattle.goo_tables_rows.specs.Rows.{declaration_key}
use Rattle.goo_store.proofs.sql_shelf.SqlShelf.net_page.Goals as goal

pub returns-then-self-clause-looks : goal.returns-then-self-clause-looks
returns-then-self-clause-looks g c = refused_look (view g.S.Store c.args.self.now.conn) c.args.self.now.well c.args.self.now.refused c.if-self.true (λ live db may. g.met.S.Store.settled c.args.self.now.conn.store db live may) _

pub returns-then-self-clause-store : goal.returns-then-self-clause-store
returns-then-self-clause-store g c = refused_blames (view g.S.Store c.args.self.now.conn) c.args.self.now.refused _ c.if-self.true

pub invariant_of-self : goal.invariant_of-self
invariant_of-self g c = record {
  outside = c.page_of_declarations-found.ensures.outside c.args.self.now.outside;
  well = well (view g.S.Store c.args.self.now.conn) (view g.S.Store c.page_of_declarations-found.new.conn) c.args.self.now.well _ _ c.page_of_declarations-found.ensures.looks;
  known = known (view g.S.Store c.args.self.now.conn) (view g.S.Store c.page_of_declarations-found.new.conn) c.args.self.now.well _ _ c.page_of_declarations-found.ensures.looks c.args.self.now.known_rows c.args.self.now.known;
  cached = lasts_on (view g.S.Store c.args.self.now.conn) (view g.S.Store c.page_of_declarations-found.new.conn) c.args.self.now.well _ _ c.page_of_declarations-found.ensures.looks c.args.self.now.cache c.is_ok-self.result c.is_ok-self.ensures.value c.args.self.now.cached;
}

pub returns-clause-looks : goal.returns-clause-looks
returns-clause-looks g c =
    let old = view g.S.Store c.args.self.now.conn in
    let new = view g.S.Store c.page_of_declarations-found.new.conn in
    let ds = (tables_in old).declarations in
    shelf.looked_as (moment old c.args.self.now.refused) (moment new c.note_fault.new.refused) c.note_fault.result (λ next. IsKeyedBy declaration_key ds → IsNetPageAdded ds c.args.low next c.args.sums.now c.add_found-next.new.sums) _
    (looked old new c.args.self.now.well _ _ c.page_of_declarations-found.ensures.looks _ _ c.add_found-next.result
    c.args.self.now.refused c.note_fault.new.refused c.note_fault.result (λ live db may. g.met.S.Store.settled c.args.self.now.conn.store db live may) c.if-self.false c.add_found-next.ensures.value c.note_fault.ensures
    (λ kept rows next found added keyed. net_page_added ds keyed c.args.low c.args.sums.now c.add_found-next.new.sums (map net_in rows.items) next found added.0 added.1))
    (λ fine next it. it (c.args.self.now.well.stands fine).declarations.rise)

pub returns-clause-store : goal.returns-clause-store
returns-clause-store g c =
    let old = view g.S.Store c.args.self.now.conn in
    blames old (view g.S.Store c.page_of_declarations-found.new.conn) c.args.self.now.well _ _ c.page_of_declarations-found.ensures.looks _ _ c.add_found-next.result c.args.self.now.refused c.note_fault.new.refused c.note_fault.result
    c.page_of_declarations-found.ensures.readable c.add_found-next.ensures.accepts c.note_fault.ensures (λ can. nets_read (tables_in old).declarations can.declarations)
    (λ stands kept rows found. nets_shown (tables_in old).declarations stands.declarations.rise kept.readable.declarations c.args.low rows.items found)

pub returns-then-self-clause-tables : goal.returns-then-self-clause-tables
returns-then-self-clause-tables g c none = refl

pub returns-clause-tables : goal.returns-clause-tables
returns-clause-tables g c = tables_same (view g.S.Store c.args.self.now.conn) (view g.S.Store c.page_of_declarations-found.new.conn) c.args.self.now.well _ _ c.page_of_declarations-found.ensures.looks
