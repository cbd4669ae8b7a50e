use Rattle.sqlite.specs.Held.{state as view}
use Rattle.goo_store_judge.specs.Moments.{tables_in}
use Rattle.goo_store_judge.proofs.Looking.{looked, refused_look, well}
use Rattle.goo_store_pieces.proofs.Found.{own_known}
use Rattle.goo_store_judge.proofs.Blaming.{blames, refused_blames}
use Rattle.goo_store_pieces.proofs.RowsRead.{meta_found}
use Rattle.goo_store_values.proofs.RowsRead.{meta_read}
use Rattle.goo_store_pieces.proofs.Caching.{kept_blames, kept_look, lasts_on}
use Rattle.goo_store.proofs.sql_shelf.SqlShelf.look_up_registry.Goals as goal

pub returns-then-self-clause-looks : goal.returns-then-self-clause-looks
returns-then-self-clause-looks g c = refused_look (view g.S.Store c.args.self.now.conn) c.args.self.now.well c.args.self.now.refused c.if-self.true (λ live db may. g.met.S.Store.settled c.args.self.now.conn.store db live may) _

pub invariant_of-self : goal.invariant_of-self
invariant_of-self g c = record {
  outside = c.find_meta-found.ensures.outside c.args.self.now.outside;
  well = well (view g.S.Store c.args.self.now.conn) (view g.S.Store c.find_meta-found.new.conn) c.args.self.now.well _ _ c.find_meta-found.ensures.looks;
  known = own_known (view g.S.Store c.args.self.now.conn) (view g.S.Store c.find_meta-found.new.conn) c.args.self.now.well _ c.find_meta-found.ensures.looks c.args.self.now.known_rows c.read_meta.new.own c.args.self.now.known c.read_meta.ensures.kept;
  cached = lasts_on (view g.S.Store c.args.self.now.conn) (view g.S.Store c.find_meta-found.new.conn) c.args.self.now.well _ _ c.find_meta-found.ensures.looks c.args.self.now.cache c.is_ok-self.result c.is_ok-self.ensures.value c.args.self.now.cached;
}

pub returns-clause-looks : goal.returns-clause-looks
returns-clause-looks g c =
    looked (view g.S.Store c.args.self.now.conn) (view g.S.Store c.find_meta-found.new.conn) c.args.self.now.well _ _ c.find_meta-found.ensures.looks _ _ c.read_meta.result
    c.args.self.now.refused c.note_fault.new.refused c.note_fault.result (λ live db may. g.met.S.Store.settled c.args.self.now.conn.store db live may) c.if-self.false c.read_meta.ensures.value c.note_fault.ensures
    (λ kept row meta found read. read (tables_in (view g.S.Store c.args.self.now.conn)) found)

pub returns-then-self-clause-store : goal.returns-then-self-clause-store
returns-then-self-clause-store g c = refused_blames (view g.S.Store c.args.self.now.conn) c.args.self.now.refused _ c.if-self.true

pub returns-clause-store : goal.returns-clause-store
returns-clause-store g c =
    blames (view g.S.Store c.args.self.now.conn) (view g.S.Store c.find_meta-found.new.conn) c.args.self.now.well _ _ c.find_meta-found.ensures.looks _ _ c.read_meta.result c.args.self.now.refused c.note_fault.new.refused c.note_fault.result
    c.find_meta-found.ensures.readable c.read_meta.ensures.accepts c.note_fault.ensures (meta_read (tables_in (view g.S.Store c.args.self.now.conn)))
    (λ stands kept row found. meta_found (tables_in (view g.S.Store c.args.self.now.conn)).meta kept.readable.meta row found)

pub returns-in-Some-clause-looks : goal.returns-in-Some-clause-looks
returns-in-Some-clause-looks g c =
    kept_look (view g.S.Store c.args.self.now.conn) c.args.self.now.well c.args.self.now.refused c.if-self.false (λ live db may. g.met.S.Store.settled c.args.self.now.conn.store db live may) _ c.in-Some.meta
    (c.args.self.now.cached.is_open c.in-Some.ensures.answered) (λ none. c.in-Some.ensures.kept _ (c.args.self.now.known none).own)

pub returns-in-Some-clause-store : goal.returns-in-Some-clause-store
returns-in-Some-clause-store g c = kept_blames (view g.S.Store c.args.self.now.conn) c.args.self.now.refused c.in-Some.meta
