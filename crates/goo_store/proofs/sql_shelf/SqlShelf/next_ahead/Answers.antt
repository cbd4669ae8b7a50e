use Rattle.std.proofs.Common.{◌∙◌, sym, subst}
use Rattle.sqlite.specs.Held.{state as view}
use Rattle.goo_store_judge.specs.Moments.{tables_in}
use Rattle.goo_store_judge.proofs.Looking.{refused_look}
use Rattle.goo_store_judge.proofs.Blaming.{refused_blames}
use Rattle.goo_store_plans.specs.Found.{AreStated}
use Rattle.goo_store_pieces.proofs.Caching.{kept_blames, kept_look}
use Rattle.goo_store.proofs.sql_shelf.SqlShelf.next_ahead.Goals as goal

pub returns-then-self-clause-looks : goal.returns-then-self-clause-looks
returns-then-self-clause-looks g c = refused_look (view g.S.Store c.args.self.now.conn) c.args.self.now.well c.args.self.now.refused c.if-self.true (λ live db may. g.met.S.Store.settled c.args.self.now.conn.store db live may) _

pub returns-then-self-clause-store : goal.returns-then-self-clause-store
returns-then-self-clause-store g c = refused_blames (view g.S.Store c.args.self.now.conn) c.args.self.now.refused _ c.if-self.true

pub returns-in-Some-clause-looks : goal.returns-in-Some-clause-looks
returns-in-Some-clause-looks g c =
    kept_look (view g.S.Store c.args.self.now.conn) c.args.self.now.well c.args.self.now.refused c.if-self.false (λ live db may. g.met.S.Store.settled c.args.self.now.conn.store db live may) _ c.in-Some.found
    (c.args.self.now.cached.is_open c.requires.answered)
    (λ none.
    let lots = (tables_in (view g.S.Store c.args.self.now.conn)).lots in
    c.in-Some.ensures.value lots (subst (AreStated lots) (sym c.deref.ensures.value) (c.args.self.now.known none).lots.found) ∙ sym (c.requires.ahead none).next)

pub returns-in-Some-clause-store : goal.returns-in-Some-clause-store
returns-in-Some-clause-store g c = kept_blames (view g.S.Store c.args.self.now.conn) c.args.self.now.refused c.in-Some.found
