use Rattle.sqlite.specs.Held.{state as view}
use Rattle.goo_store_judge.proofs.Looking.{looked, refused_look, well}
use Rattle.goo_store_judge.proofs.Blaming.{blames}
use Rattle.goo_store_pieces.proofs.Caching.{kept_look, lasts_on}
use Rattle.goo_store_pieces.proofs.Found.{known}
use Rattle.goo_store.proofs.Probing.{passes, accepts}
use Rattle.goo_store.proofs.shelf.SqlShelfShelf.probe.Goals as goal

pub returns-then-self-clause-looks : goal.returns-then-self-clause-looks
returns-then-self-clause-looks g c = refused_look (view g.S.Store c.args.self.now.conn) c.args.self.now.well c.args.self.now.refused c.if-self.true (λ live db may. g.met.S.Store.settled c.args.self.now.conn.store db live may) _

pub returns-then-self-2-clause-looks : goal.returns-then-self-2-clause-looks
returns-then-self-2-clause-looks g c =
    kept_look (view g.S.Store c.args.self.now.conn) c.args.self.now.well c.args.self.now.refused c.if-self.false (λ live db may. g.met.S.Store.settled c.args.self.now.conn.store db live may) _ tt
    (c.args.self.now.cached.is_open c.if-self-2.true) (λ none. tt)

pub invariant_of-self : goal.invariant_of-self
invariant_of-self g c = record {
  outside = c.probe-probed.ensures.outside c.args.self.now.outside;
  well = well (view g.S.Store c.args.self.now.conn) (view g.S.Store c.probe-probed.new.conn) c.args.self.now.well _ _ c.probe-probed.ensures.looks;
  known = known (view g.S.Store c.args.self.now.conn) (view g.S.Store c.probe-probed.new.conn) c.args.self.now.well _ _ c.probe-probed.ensures.looks c.args.self.now.known_rows c.args.self.now.known;
  cached = lasts_on (view g.S.Store c.args.self.now.conn) (view g.S.Store c.probe-probed.new.conn) c.args.self.now.well _ _ c.probe-probed.ensures.looks c.args.self.now.cache c.is_ok-self.result c.is_ok-self.ensures.value c.args.self.now.cached;
}

pub returns-clause-looks : goal.returns-clause-looks
returns-clause-looks g c =
    looked (view g.S.Store c.args.self.now.conn) (view g.S.Store c.probe-probed.new.conn) c.args.self.now.well _ _ c.probe-probed.ensures.looks _ _ c.ending.result
    c.args.self.now.refused c.note_fault.new.refused c.note_fault.result (λ live db may. g.met.S.Store.settled c.args.self.now.conn.store db live may) c.if-self.false (passes _ c.ending.result c.ending.ensures.passes) c.note_fault.ensures
    (λ kept x y found read. tt)

pub returns-clause-store : goal.returns-clause-store
returns-clause-store g c =
    blames (view g.S.Store c.args.self.now.conn) (view g.S.Store c.probe-probed.new.conn) c.args.self.now.well _ _ c.probe-probed.ensures.looks _ _ c.ending.result c.args.self.now.refused c.note_fault.new.refused c.note_fault.result
    c.probe-probed.ensures.refused (accepts _ c.ending.result c.ending.ensures.passes c.ending.ensures.cause) c.note_fault.ensures (λ can. tt) (λ stands kept x found. tt)
