use Rattle.std.proofs.Common.{sym, subst}
use Rattle.sqlite.specs.Held.{state as view}
use Rattle.goo_store_plans.specs.Found.{AreNone}
use Rattle.goo_store_pieces.specs.Found.{Knows}
use Rattle.goo_store.specs.Gathering.{HaveWhatItNeeds}
use Rattle.goo_store.proofs.CommitsAfter.{refused_prepared}
use Rattle.goo_store_pieces.proofs.Found.{none_known}
use Rattle.goo_store.proofs.Gathering.{refused_gathering, gathering}
use Rattle.goo_store.proofs.Prepared.{before, well, gathered, found_after, in_order, known, tables_same}
use Rattle.goo_store_pieces.proofs.Caching.{lasts_unanswered}
use Rattle.goo_store.proofs.sql_shelf.SqlShelf.changes_for.Goals as goal

pub returns-then-self-clause-prepares : goal.returns-then-self-clause-prepares
returns-then-self-clause-prepares g c = refused_prepared (view g.S.Store c.args.self.now.conn) c.args.self.now.well c.args.self.now.refused c.if-self.true (λ live db may. g.met.S.Store.settled c.args.self.now.conn.store db live may)

pub invariant_of-self : goal.invariant_of-self
invariant_of-self g c = record {
  outside = c.plan_changes-planned.ensures.outside c.args.self.now.outside;
  well = well (view g.S.Store c.args.self.now.conn) (view g.S.Store c.plan_changes-planned.new.conn) c.args.self.now.well c.plan_changes-planned.result _ c.plan_changes-planned.ensures.gathers;
  known = none_known (view g.S.Store c.plan_changes-planned.new.conn) c.replace-known_rows.new.dest (subst AreNone (sym c.replace-known_rows.ensures.after) c.none.ensures);
  cached =
      lasts_unanswered (view g.S.Store c.args.self.now.conn) (view g.S.Store c.plan_changes-planned.new.conn) c.args.self.now.cache
      (λ none. (
        before (view g.S.Store c.args.self.now.conn) (view g.S.Store c.plan_changes-planned.new.conn) c.args.self.now.well c.plan_changes-planned.result _ c.plan_changes-planned.ensures.gathers none,
        tables_same (view g.S.Store c.args.self.now.conn) (view g.S.Store c.plan_changes-planned.new.conn) c.args.self.now.well c.plan_changes-planned.result _ c.plan_changes-planned.ensures.gathers none,
      ))
      c.args.self.now.cached;
}

pub returns-clause-prepares : goal.returns-clause-prepares
returns-clause-prepares g c =
    gathered (view g.S.Store c.args.self.now.conn) (view g.S.Store c.plan_changes-planned.new.conn) c.args.self.now.well c.plan_changes-planned.result _ c.plan_changes-planned.ensures.gathers
    c.args.self.now.refused c.note_fault.new.refused c.note_fault.result (λ live db may. g.met.S.Store.settled c.args.self.now.conn.store db live may) c.if-self.false c.note_fault.ensures

pub returns-clause-planned : goal.returns-clause-planned
returns-clause-planned g c =
    let old = view g.S.Store c.args.self.now.conn in
    let new = view g.S.Store c.plan_changes-planned.new.conn in
    let after = well old new c.args.self.now.well c.plan_changes-planned.result _ c.plan_changes-planned.ensures.gathers in
    found_after old new c.args.self.now.well c.plan_changes-planned.result _ c.plan_changes-planned.ensures.gathers _ c.args.self.now.refused c.note_fault.new.refused c.note_fault.result c.note_fault.ensures
    (λ none planned is fits. is (subst (λ o. Knows new o) (sym c.replace-known_rows.ensures.value) (known old new c.args.self.now.well c.plan_changes-planned.result _ c.plan_changes-planned.ensures.gathers c.args.self.now.known_rows c.args.self.now.known) none) (after.kept none) (in_order new.now _ (after.stands none)) fits)

pub returns-then-self-clause-store : goal.returns-then-self-clause-store
returns-then-self-clause-store g c = refused_gathering (view g.S.Store c.args.self.now.conn) c.args.self.now.refused _ (λ t. HaveWhatItNeeds t c.args.plan.now) c.if-self.true

pub returns-clause-same : goal.returns-clause-same
returns-clause-same g c = tables_same (view g.S.Store c.args.self.now.conn) (view g.S.Store c.plan_changes-planned.new.conn) c.args.self.now.well c.plan_changes-planned.result _ c.plan_changes-planned.ensures.gathers

pub returns-clause-store : goal.returns-clause-store
returns-clause-store g c =
    let old = view g.S.Store c.args.self.now.conn in
    gathering old (view g.S.Store c.plan_changes-planned.new.conn) c.args.self.now.well c.plan_changes-planned.result _ c.plan_changes-planned.ensures.gathers
    _ (subst (λ o. Knows old o) (sym c.replace-known_rows.ensures.value) c.args.self.now.known) c.args.plan.now c.args.self.now.refused c.note_fault.new.refused c.note_fault.result c.plan_changes-planned.ensures.blames c.note_fault.ensures
