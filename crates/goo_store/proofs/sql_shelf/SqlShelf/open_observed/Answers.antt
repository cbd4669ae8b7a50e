use Rattle.std.proofs.Common.{ap, refl, subst, sym}
use Rattle.sqlite.specs.Held.{state as view}
use Rattle.goo_store_judge.specs.Moments.{count, tables_in}
use Rattle.goo_store_judge.specs.Holding.{is_sure, safe}
use Rattle.goo_store_judge.proofs.Judging.{rows_fit}
use Rattle.goo_store_opening.specs.UpToDate.{IsUpToDate}
use Rattle.goo_store.proofs.sql_shelf.SqlShelf.open_observed.Goals as goal

pub returns-in-Ok-clause-opened : goal.returns-in-Ok-clause-opened
returns-in-Ok-clause-opened g c =
    let old = view g.S.Store c.args.conn in
    let shelf = c.over.result in
    let it : IsUpToDate old (view g.S.Store shelf.conn) = subst (λ conn. IsUpToDate old (view g.S.Store conn)) (sym c.over.ensures.conn) c.in-Ok.ensures.up_to_date in
    record {
      state = it.state;
      same_state = it.same_state;
      held = it.held;
      sound = λ none. (shelf.well.kept none).sound;
      rows_fit = λ none. rows_fit (tables_in (view g.S.Store shelf.conn)) (shelf.well.kept none);
      apart = λ none. (shelf.well.kept none).apart refl;
      ready = record {
        told = ap count c.over.ensures.ready;
        works = λ late. is_sure (view g.S.Store shelf.conn) late (it.works late);
        settled = λ none. safe (view g.S.Store shelf.conn) shelf.well (λ live db may. g.met.S.Store.settled shelf.conn.store db live may) none shelf.refused;
      };
      kept = it.kept;
      rests = it.rests;
      renewed = it.renewed;
      clean = it.clean;
      again = it.again;
    }
