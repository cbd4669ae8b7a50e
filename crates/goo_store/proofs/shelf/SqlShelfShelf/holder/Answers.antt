use Rattle.std.proofs.Common.{sym, subst}
use Rattle.goo_store_plans.specs.Found.{AreInTables}
use Rattle.sqlite.specs.Held.{state as view}
use Rattle.goo_store_pieces.proofs.Caching.{lasts_answered}
use Rattle.goo_store.proofs.shelf.SqlShelfShelf.holder.Goals as goal

pub invariant_of-self : goal.invariant_of-self
invariant_of-self g c = record {
  outside = c.name_of-name.ensures.outside c.args.self.now.outside;
  well = c.name_of-name.ensures.well;
  known = λ none. subst (AreInTables c.args.self.now.known_rows) (sym (c.name_of-name.ensures.same none).1) (c.args.self.now.known (c.name_of-name.ensures.same none).0);
  cached = lasts_answered (view g.S.Store c.args.self.now.conn) (view g.S.Store c.name_of-name.new.conn) c.name_of-name.result c.name_of-name.ensures.works c.args.self.now.cache c.is_ok-self.result c.is_ok-self.ensures.value c.name_of-name.ensures.same c.args.self.now.cached;
}
