use Rattle.std.proofs.Common.{◌≡◌, ◌∙◌, Err, OnOk, rules, sym, subst}
use Rattle.sqlite.specs.Held.{state as view}
use Rattle.goo_tables_rows.specs.Stands.{defects}
use Rattle.goo_store_judge.specs.Moments.{moment, tables_in}
use Rattle.goo_store_changes.specs.Changes.{made_all}
use Rattle.goo_store_plans.specs.Found.{IsBasisOf, IsRowOf}
use Rattle.goo_store_plans.specs.Planned.{IsPlanned}
use Rattle.goo_store.proofs.CommitBlamed.{blamed, blamed_before}
use Rattle.goo_store.proofs.CommitLemmas.{basis_after, lasts_after, so_after, well_after, committed}
use Rattle.goo_store_pieces.proofs.Found.{known_after}
use Rattle.goo_store.proofs.CommitsAfter.{not_refused, not_committed, as_err, fits_still, commits_after}
use Rattle.goo_store_pieces.specs.Caching.{IsCacheOf}
use Rattle.goo_tables_rows.specs.Rows.{Tables}
use Rattle.goo_store.proofs.shelf.SqlShelfShelf.commit.Goals as goal

pub returns-in_err-planned-clause-commits : goal.returns-in_err-planned-clause-commits
returns-in_err-planned-clause-commits g c =
    let old = moment (view g.S.Store c.args.self.now.conn) c.args.self.now.refused in
    let new = moment (view g.S.Store c.changes_for.new.self.conn) c.changes_for.new.self.refused in
    as_err old new c.args.plan.now c.from_residual.result c.in_err-planned.field-0.0 (search rules) (not_committed old new c.args.plan.now c.in_err-planned.field-0.0 c.in_err-planned.ensures.prepares)

pub returns-in_err-planned-clause-store : goal.returns-in_err-planned-clause-store
returns-in_err-planned-clause-store g c =
    let same : c.from_residual.result ≡ Err c.in_err-planned.field-0.0 = search rules in
    blamed_before (view g.S.Store c.args.self.now.conn) (view g.S.Store c.changes_for.new.self.conn) c.args.self.now.refused c.in_err-planned.field-0.0 c.args.plan.now c.in_err-planned.ensures.store c.from_residual.result same

pub invariant_of-self : goal.invariant_of-self
invariant_of-self g c =
    let start = view g.S.Store c.args.self.now.conn in
    let old = moment start c.args.self.now.refused in
    let shelf = c.changes_for.new.self in
    let mid = view g.S.Store shelf.conn in
    let plan = c.args.plan.now in
    let it = c.commit_changes-made.ensures in
    let planned : defects mid ≡ 0 → IsPlanned (tables_in mid) c.deref.result.now plan =
    λ none. subst (λ xs. IsPlanned (tables_in mid) xs plan) (sym c.deref.ensures.value) (c.in_ok-planned.ensures.planned none (fits_still old (moment mid shelf.refused) plan _ c.in_ok-planned.ensures.prepares c.requires none)).0 in
    let after : defects mid ≡ 0 → IsBasisOf c.in_ok-planned.planned.after (made_all (tables_in mid) c.deref.result.now) =
    λ none. subst (λ xs. IsBasisOf c.in_ok-planned.planned.after (made_all (tables_in mid) xs)) (sym c.deref.ensures.value) (c.in_ok-planned.ensures.planned none (fits_still old (moment mid shelf.refused) plan _ c.in_ok-planned.ensures.prepares c.requires none)).1 in record {
      outside = it.outside;
      well = well_after mid (view g.S.Store c.commit_changes-made.new.conn) shelf.well c.deref.result.now plan planned c.commit_changes-made.result it.clean it.was_open it.works it.done it.kept it.crash it.live;
      known = known_after (view g.S.Store c.commit_changes-made.new.conn) shelf.known_rows c.in_ok-planned.ensures.taken c.row_after.result
          (so_after mid (view g.S.Store c.commit_changes-made.new.conn) shelf.well c.deref.result.now plan planned c.commit_changes-made.result it.clean it.was_open it.works it.done it.kept it.crash it.live
          (IsRowOf c.copied-own.result) (IsRowOf c.row_after.result)
          (λ none. subst (IsRowOf c.copied-own.result) (sym (c.in_ok-planned.ensures.same none)) (c.copied-own.ensures (tables_in start) (c.args.self.now.known (c.in_ok-planned.ensures.prepares.defects_stay none)).own))
          (subst (λ xs. OnOk c.commit_changes-made.result ((t : Tables) → IsRowOf c.copied-own.result t → IsRowOf c.row_after.result (made_all t xs))) (c.deref-2.ensures.value ∙ sym c.deref.ensures.value) c.row_after.ensures.made)
          c.row_after.ensures.failed)
          c.known_after-self.result
          (basis_after mid (view g.S.Store c.commit_changes-made.new.conn) shelf.well c.deref.result.now plan planned c.commit_changes-made.result it.clean it.was_open it.works it.done it.kept it.crash it.live
          c.in_ok-planned.planned.after c.known_after-self.result after c.known_after-self.ensures.done c.known_after-self.ensures.undone);
      cached =
          lasts_after mid (view g.S.Store c.commit_changes-made.new.conn) shelf.well c.deref.result.now plan planned c.commit_changes-made.result it.clean it.was_open it.works it.done it.kept it.crash it.live
          shelf.cache c.after_commit.new.self shelf.cached c.after_commit.ensures.answered
          (subst (λ xs. OnOk c.commit_changes-made.result ((t : Tables) → IsCacheOf shelf.cache t → IsCacheOf c.after_commit.new.self (made_all t xs))) (c.deref-3.ensures.value ∙ sym c.deref.ensures.value) c.after_commit.ensures.made)
          c.after_commit.ensures.failed;
    }

pub returns-clause-commits : goal.returns-clause-commits
returns-clause-commits g c =
    let old = moment (view g.S.Store c.args.self.now.conn) c.args.self.now.refused in
    let shelf = c.changes_for.new.self in
    let mid = view g.S.Store shelf.conn in
    let new = view g.S.Store c.commit_changes-made.new.conn in
    let plan = c.args.plan.now in
    let it = c.commit_changes-made.ensures in
    let looks = c.in_ok-planned.ensures.prepares in
    let planned : defects mid ≡ 0 → IsPlanned (tables_in mid) c.deref.result.now plan =
    λ none. subst (λ xs. IsPlanned (tables_in mid) xs plan) (sym c.deref.ensures.value) (c.in_ok-planned.ensures.planned none (fits_still old (moment mid shelf.refused) plan _ looks c.requires none)).0 in
    commits_after old (moment mid shelf.refused) plan (moment new c.note_fault.new.refused) c.in_ok-planned.planned looks c.note_fault.result
    (committed mid new shelf.well c.deref.result.now plan planned c.commit_changes-made.result it.clean it.was_open it.works it.done it.kept it.crash it.live c.ending.result shelf.refused c.note_fault.new.refused c.note_fault.result
    (λ live db may. g.met.S.Store.settled shelf.conn.store db live may) (not_refused shelf.refused looks.told) c.ending.ensures.passes c.note_fault.ensures)

pub returns-clause-store : goal.returns-clause-store
returns-clause-store g c =
    let start = view g.S.Store c.args.self.now.conn in
    let old = moment start c.args.self.now.refused in
    let shelf = c.changes_for.new.self in
    let mid = view g.S.Store shelf.conn in
    let plan = c.args.plan.now in
    let it = c.commit_changes-made.ensures in
    let looks = c.in_ok-planned.ensures.prepares in
    let planned : defects mid ≡ 0 → IsPlanned (tables_in mid) c.deref.result.now plan =
    λ none. subst (λ xs. IsPlanned (tables_in mid) xs plan) (sym c.deref.ensures.value) (c.in_ok-planned.ensures.planned none (fits_still old (moment mid shelf.refused) plan _ looks c.requires none)).0 in
    blamed start mid (view g.S.Store c.commit_changes-made.new.conn) c.args.self.now.refused shelf.refused c.note_fault.new.refused plan c.in_ok-planned.planned looks c.in_ok-planned.ensures.store
    shelf.well c.in_ok-planned.ensures.same c.deref.result.now planned c.commit_changes-made.result it.clean it.crash it.refused c.ending.result c.ending.ensures.passes c.ending.ensures.cause c.note_fault.result c.note_fault.ensures
