use Rattle.std.proofs.Common.{◌≡◌, List, Err, Ok, arith, rules}
use Rattle.sqlite.specs.Held.{state as view}
use Rattle.goo_core_shelf.proofs.Looking as shelf
use Rattle.goo_spec.specs.State.{State}
use Rattle.goo_spec_tables.specs.Places.{rows_of}
use Rattle.goo_types.specs.declared.piece.Piece.{Piece}
use Rattle.goo_store_audit.specs.Counting.{IsPageAdded}
use Rattle.goo_store_audit.proofs.CountingLemmas.{counting_begins, counting_goes, counting_ends, weaker_below}
use Rattle.goo_store_judge.specs.Moments.{moment, tables_in}
use Rattle.goo_store_judge.proofs.Looking.{failed_then}
use Rattle.goo_store_judge.proofs.Blaming.{blamed_then, blamed_err}
use Rattle.goo_store.proofs.sql_shelf.SqlShelf.count_pages.Goals as goal

pub loop-low-init : goal.loop-low-init
loop-low-init g c =
    let old = view g.S.Store c.args.self.now.conn in
    let mid = c.count_page.new.self in
    record {
      looks =
          shelf.looked (moment old c.args.self.now.refused) (moment (view g.S.Store mid.conn) mid.refused) c.in_ok-next.next c.in_ok-next.next _ _ c.in_ok-next.ensures.looks
          (λ fine it. counting_begins c.args.own c.args.withdrawals.now (rows_of (tables_in old)) (c.args.self.now.well.kept fine).rising c.in_ok-next.next c.none-tally.result c.count_page.new.tally c.none-tally.ensures.issued c.none-tally.ensures.corrected it);
      store = c.in_ok-next.ensures.store;
      below = c.in_ok-next.ensures.below.1;
    }

pub loop-low-preserved : goal.loop-low-preserved
loop-low-preserved g c =
    let old = view g.S.Store c.args.self.now.conn in
    let mid = c.loop-low.self in
    let new = c.count_page-in-loop-low.new.self in
    record {
      looks =
          shelf.looked_both (moment old c.args.self.now.refused) (moment (view g.S.Store mid.conn) mid.refused) (moment (view g.S.Store new.conn) new.refused) c.loop-low.next c.in_ok-next-2.next c.in_ok-next-2.next _
          (λ (s : State) (rows : List Piece) next. IsPageAdded c.args.own c.args.withdrawals.now rows c.loop-low.next next c.loop-low.tally c.count_page-in-loop-low.new.tally) _
          c.loop-low.invariant.looks c.in_ok-next-2.ensures.looks
          (λ fine so it. counting_goes c.args.own c.args.withdrawals.now (rows_of (tables_in old)) c.loop-low.low c.loop-low.next c.in_ok-next-2.next c.loop-low.tally c.count_page-in-loop-low.new.tally so it);
      store =
          blamed_then old (view g.S.Store mid.conn) (view g.S.Store new.conn) c.args.self.now.refused mid.refused new.refused c.loop-low.next _ c.loop-low.invariant.looks c.loop-low.invariant.store
          (Ok c.in_ok-next-2.next) _ c.in_ok-next-2.ensures.looks c.in_ok-next-2.ensures.store;
      below = c.in_ok-next-2.ensures.below.1;
    }

pub returns-in_err-next-2-clause-looks : goal.returns-in_err-next-2-clause-looks
returns-in_err-next-2-clause-looks g c =
    let old = view g.S.Store c.args.self.now.conn in
    let mid = c.loop-low.self in
    let new = c.count_page-in-loop-low.new.self in
    let same : c.from_residual-in_err-next-2.result ≡ Err c.in_err-next-2.field-0.0 = search rules in
    failed_then old (view g.S.Store mid.conn) (view g.S.Store new.conn) c.args.self.now.refused mid.refused new.refused new.refused
    c.loop-low.next _ c.loop-low.invariant.looks _ _ c.in_err-next-2.field-0.0 c.from_residual-in_err-next-2.result same c.in_err-next-2.ensures.looks

pub returns-in_err-next-2-clause-store : goal.returns-in_err-next-2-clause-store
returns-in_err-next-2-clause-store g c =
    let old = view g.S.Store c.args.self.now.conn in
    let mid = c.loop-low.self in
    let new = c.count_page-in-loop-low.new.self in
    let same : c.from_residual-in_err-next-2.result ≡ Err c.in_err-next-2.field-0.0 = search rules in
    blamed_err old (view g.S.Store new.conn) c.args.self.now.refused c.in_err-next-2.field-0.0 c.from_residual-in_err-next-2.result same
    (blamed_then old (view g.S.Store mid.conn) (view g.S.Store new.conn) c.args.self.now.refused mid.refused new.refused c.loop-low.next _ c.loop-low.invariant.looks c.loop-low.invariant.store
    (Err c.in_err-next-2.field-0.0) _ c.in_err-next-2.ensures.looks c.in_err-next-2.ensures.store)

pub returns-clause-looks : goal.returns-clause-looks
returns-clause-looks g c =
    let old = view g.S.Store c.args.self.now.conn in
    let new = c.loop-low.self in
    shelf.looked (moment old c.args.self.now.refused) (moment (view g.S.Store new.conn) new.refused) c.loop-low.next c.loop-low.tally _ _ c.loop-low.invariant.looks
    (λ fine so cs are. counting_ends c.args.own c.args.withdrawals.now (rows_of (tables_in old)) c.loop-low.low c.loop-low.next c.loop-low.tally (omega (arith, c.loop-low-test.false)) so cs are)

pub returns-clause-store : goal.returns-clause-store
returns-clause-store g c =
    let it = c.loop-low.invariant.store in
    record { limit = it.limit; counts = it.counts; store = λ _ _ _ _. tt }

pub returns-clause-below : goal.returns-clause-below
returns-clause-below g c = let it = c.loop-low.invariant.below in weaker_below c.loop-low.next 100000000000000 c.loop-low.tally it.most (omega arith) it
