use Rattle.std.proofs.Common.{◌∙◌, ap, sym, refl, pos, is_some, option_map}
use Rattle.sqlite.specs.Held.{state as view}
use Rattle.std.specs.Cmp.{nat_cmp_total}
use Rattle.goo_spec_tables.proofs.Known.{known_kept, number_test}
use Rattle.sqlite_keyed.proofs.SliceLemmas.{is_some-map}
use Rattle.std.specs.Ordering.{int_eq}
use Rattle.goo_spec_tables.specs.States.{state_of}
use Rattle.goo_store_judge.proofs.Looking.{looked, refused_look, well}
use Rattle.goo_store_pieces.proofs.Found.{known}
use Rattle.goo_store_judge.proofs.Blaming.{blames, refused_blames}
use Rattle.goo_store_pieces.proofs.Caching.{lasts_on}
use Rattle.goo_store.proofs.shelf.SqlShelfShelf.peer.Goals as goal

pub returns-then-self-clause-looks : goal.returns-then-self-clause-looks
returns-then-self-clause-looks g c = refused_look (view g.S.Store c.args.self.now.conn) c.args.self.now.well c.args.self.now.refused c.if-self.true (λ live db may. g.met.S.Store.settled c.args.self.now.conn.store db live may) _

pub invariant_of-self : goal.invariant_of-self
invariant_of-self g c = record {
  outside = c.find_peer-found.ensures.outside c.args.self.now.outside;
  well = well (view g.S.Store c.args.self.now.conn) (view g.S.Store c.find_peer-found.new.conn) c.args.self.now.well _ _ c.find_peer-found.ensures.looks;
  known = known (view g.S.Store c.args.self.now.conn) (view g.S.Store c.find_peer-found.new.conn) c.args.self.now.well _ _ c.find_peer-found.ensures.looks c.args.self.now.known_rows c.args.self.now.known;
  cached = lasts_on (view g.S.Store c.args.self.now.conn) (view g.S.Store c.find_peer-found.new.conn) c.args.self.now.well _ _ c.find_peer-found.ensures.looks c.args.self.now.cache c.is_ok-self.result c.is_ok-self.ensures.value c.args.self.now.cached;
}

pub returns-clause-looks : goal.returns-clause-looks
unfolding state_of
returns-clause-looks g c =
    looked (view g.S.Store c.args.self.now.conn) (view g.S.Store c.find_peer-found.new.conn) c.args.self.now.well _ _ c.find_peer-found.ensures.looks _ _ c.is_there.result
    c.args.self.now.refused c.note_fault.new.refused c.note_fault.result (λ live db may. g.met.S.Store.settled c.args.self.now.conn.store db live may) c.if-self.false c.is_there.ensures.value c.note_fault.ensures
    (λ kept row there found read.
    read ∙ sym (is_some-map (λ _. tt) row)
    ∙ ap is_some (known_kept nat_cmp_total (λ k. k.1.code) c.args.code _ (λ k. ap (λ n. int_eq (pos k.1.code) (pos n)) (c.from.ensures ∙ c.get.ensures.value) ∙ number_test k.1.code c.args.code) (λ k. k.1) (λ _. tt) _ row (option_map (λ _. tt) row) found refl)
    )

pub returns-then-self-clause-store : goal.returns-then-self-clause-store
returns-then-self-clause-store g c = refused_blames (view g.S.Store c.args.self.now.conn) c.args.self.now.refused _ c.if-self.true

pub returns-clause-store : goal.returns-clause-store
returns-clause-store g c =
    blames (view g.S.Store c.args.self.now.conn) (view g.S.Store c.find_peer-found.new.conn) c.args.self.now.well _ _ c.find_peer-found.ensures.looks _ _ c.is_there.result c.args.self.now.refused c.note_fault.new.refused c.note_fault.result
    c.find_peer-found.ensures.readable c.is_there.ensures.accepts c.note_fault.ensures (λ can. can.peers)
    (λ _ _ _ _. tt)
