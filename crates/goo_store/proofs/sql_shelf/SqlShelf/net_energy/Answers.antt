use Rattle.std.proofs.Common.{◌≡◌, ◌∙◌, subst, List, Err, Ok, arith, rules}
use Rattle.sqlite.specs.Held.{state as view}
use Rattle.goo_core_shelf.proofs.Looking as shelf
use Rattle.goo_spec.specs.State.{State}
use Rattle.goo_types.specs.declared.piece.Piece.{Piece}
use Rattle.goo_store_audit.specs.NetCounting.{IsDeclaredTo, IsNetPageAdded}
use Rattle.goo_store_audit.proofs.NetLemmas.{declaring_begins, declaring_goes, declaring_ends}
use Rattle.goo_store_judge.specs.Moments.{moment, tables_in}
use Rattle.goo_store_judge.proofs.Looking.{failed_then}
use Rattle.goo_store_judge.proofs.Blaming.{blamed_then, blamed_err}
use Rattle.goo_tables_rows.specs.Rows.{Tables}
use Rattle.goo_store.proofs.sql_shelf.SqlShelf.net_energy.Goals as goal

pub loop-low-init : goal.loop-low-init
loop-low-init g c =
    let old = view g.S.Store c.args.self.now.conn in
    let mid = c.net_page.new.self in
    record {
      looks =
          shelf.looked (moment old c.args.self.now.refused) (moment (view g.S.Store mid.conn) mid.refused) c.in_ok-next.next c.in_ok-next.next _ _ c.in_ok-next.ensures.looks
          (λ fine it. declaring_begins (tables_in old).declarations (c.args.self.now.well.stands fine).declarations.rise c.in_ok-next.next c.new-sums.result c.net_page.new.sums (λ q. search rules) it);
      store = c.in_ok-next.ensures.store;
      tables = c.net_page.ensures.tables;
      below = c.in_ok-next.ensures.below.1;
    }

pub loop-low-preserved : goal.loop-low-preserved
loop-low-preserved g c =
    let old = view g.S.Store c.args.self.now.conn in
    let mid = c.loop-low.self in
    let new = c.net_page-in-loop-low.new.self in
    let ds = (tables_in old).declarations in
    let two = c.in_ok-next-2.ensures.looks in
    record {
      looks =
          shelf.looks_as (moment old c.args.self.now.refused) (moment (view g.S.Store new.conn) new.refused) c.in_ok-next-2.next c.in_ok-next-2.next _ _
          (shelf.looked_then (moment old c.args.self.now.refused) (moment (view g.S.Store mid.conn) mid.refused) (moment (view g.S.Store new.conn) new.refused) c.loop-low.next (Ok c.in_ok-next-2.next)
          (λ next. IsDeclaredTo ds c.loop-low.low next c.loop-low.sums)
          (λ (s : State) (rows : List Piece) next. IsNetPageAdded (tables_in (view g.S.Store mid.conn)).declarations c.loop-low.next next c.loop-low.sums c.net_page-in-loop-low.new.sums) c.loop-low.invariant.looks two)
          (λ none both.
          declaring_goes ds c.loop-low.low c.loop-low.next c.in_ok-next-2.next c.loop-low.sums c.net_page-in-loop-low.new.sums both.0
          (subst (λ (t : Tables). IsNetPageAdded t.declarations c.loop-low.next c.in_ok-next-2.next c.loop-low.sums c.net_page-in-loop-low.new.sums) (c.loop-low.invariant.tables (two.defects_stay none)) both.1));
      store =
          blamed_then old (view g.S.Store mid.conn) (view g.S.Store new.conn) c.args.self.now.refused mid.refused new.refused c.loop-low.next _ c.loop-low.invariant.looks c.loop-low.invariant.store
          (Ok c.in_ok-next-2.next) _ two c.in_ok-next-2.ensures.store;
      tables = λ none. c.net_page-in-loop-low.ensures.tables none ∙ c.loop-low.invariant.tables (two.defects_stay none);
      below = c.in_ok-next-2.ensures.below.1;
    }

pub returns-in_err-next-2-clause-looks : goal.returns-in_err-next-2-clause-looks
returns-in_err-next-2-clause-looks g c =
    let old = view g.S.Store c.args.self.now.conn in
    let mid = c.loop-low.self in
    let new = c.net_page-in-loop-low.new.self in
    let same : c.from_residual-in_err-next-2.result ≡ Err c.in_err-next-2.field-0.0 = search rules in
    failed_then old (view g.S.Store mid.conn) (view g.S.Store new.conn) c.args.self.now.refused mid.refused new.refused new.refused
    c.loop-low.next _ c.loop-low.invariant.looks _ _ c.in_err-next-2.field-0.0 c.from_residual-in_err-next-2.result same c.in_err-next-2.ensures.looks

pub returns-in_err-next-2-clause-store : goal.returns-in_err-next-2-clause-store
returns-in_err-next-2-clause-store g c =
    let old = view g.S.Store c.args.self.now.conn in
    let mid = c.loop-low.self in
    let new = c.net_page-in-loop-low.new.self in
    let same : c.from_residual-in_err-next-2.result ≡ Err c.in_err-next-2.field-0.0 = search rules in
    blamed_err old (view g.S.Store new.conn) c.args.self.now.refused c.in_err-next-2.field-0.0 c.from_residual-in_err-next-2.result same
    (blamed_then old (view g.S.Store mid.conn) (view g.S.Store new.conn) c.args.self.now.refused mid.refused new.refused c.loop-low.next _ c.loop-low.invariant.looks c.loop-low.invariant.store
    (Err c.in_err-next-2.field-0.0) _ c.in_err-next-2.ensures.looks c.in_err-next-2.ensures.store)

pub returns-clause-looks : goal.returns-clause-looks
returns-clause-looks g c =
    let old = view g.S.Store c.args.self.now.conn in
    let new = c.loop-low.self in
    shelf.looked (moment old c.args.self.now.refused) (moment (view g.S.Store new.conn) new.refused) c.loop-low.next c.loop-low.sums _ _ c.loop-low.invariant.looks
    (λ fine so. declaring_ends (tables_in old) c.loop-low.low c.loop-low.next c.loop-low.sums (omega (arith, c.loop-low-test.false)) so)

pub returns-clause-store : goal.returns-clause-store
returns-clause-store g c =
    let it = c.loop-low.invariant.store in
    record { limit = it.limit; counts = it.counts; store = λ _ _ _ _. tt }
