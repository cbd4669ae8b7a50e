use Rattle.sqlite.specs.Held.{state as view}
use Rattle.goo_store_pieces.proofs.Found.{none_known}
use Rattle.goo_store_pieces.proofs.Caching.{lasts_first}
use Rattle.goo_store.proofs.sql_shelf.SqlShelf.over.Goals as goal

pub invariant_of-result : goal.invariant_of-result
invariant_of-result g c = record {
  outside = c.requires.outside;
  well = c.requires.well c.schema-known.ensures.live;
  known = none_known (view g.S.Store c.args.conn) c.none.result c.none.ensures;
  cached = lasts_first (view g.S.Store c.args.conn) c.none-2.result c.none-2.ensures.answered c.none-2.ensures.cache;
}
