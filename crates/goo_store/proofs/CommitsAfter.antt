-- A commit after the look-ups with which it begins, which is told as one.
use Rattle.std.proofs.Common.{◌≡◌, Bool, true, false, refl, inl, Result, Ok, Err, IsErrAnd, OnOk, OnErr, sym, subst, arith}
use Rattle.sqlite.specs.State.{State as View}
use Rattle.goo_types.specs.declared.fault.Fault.{Fault}
use Rattle.goo_types.specs.declared.fault.Fault.TheVariants.{Store, Memory}
use Rattle.goo_spec.specs.State.{State}
use Rattle.goo_spec.specs.Step.{accept}
use Rattle.goo_ranges_rows.specs.Rows.{edited_all}
use Rattle.goo_core_shelf.specs.Plan.{Fits, Commits, IsEither}
use Rattle.goo_core_shelf.specs.Shelf.{Moment, Looks, IsTold}
use Rattle.goo_core_shelf.proofs.Looking.{stays_both}
use Rattle.goo_core_shelf.specs.declared.plan.Plan.{Plan}
use Rattle.goo_store_judge.specs.Holding.{LeavesCommit}
use Rattle.goo_store_judge.specs.Moments.{count, moment, IsWell}
use Rattle.goo_store.specs.Preparing.{Prepares}
use Rattle.goo_store_judge.proofs.Looking.{refused_look}

-- the flag of a shelf that answers is down
pub not_refused : (f : Bool) → count f ≡ 0 → f ≡ false
not_refused true is = absurd (omega (arith, is))
not_refused false is = refl

-- one look-up prepares
pub prepared : {T : Type 0} (a b : Moment) (r : Result T Fault) (right : T → Type 0) → Looks a b r right → Prepares a b r
prepared {T = T} a b r right look = record {
  same = look.same;
  rows_same = look.rows_same;
  defects_stay = look.defects_stay;
  corruptions_stay = look.corruptions_stay;
  kept = look.kept;
  told = look.told;
  works = works_still r look.works;
  stays = look.stays;
  crash = look.crash;
}
  where
    works_still : (q : Result T Fault) → OnOk q (b.corruptions ≡ 0 → b.defects ≡ 0) → OnOk q (b.corruptions ≡ 0 → a.defects ≡ 0 → b.defects ≡ 0)
    works_still (Ok x) works = λ late none. works late
    works_still (Err e) works = tt

-- once the flag is up
pub refused_prepared : {T : Type 0} (old : View) → IsWell old → (a : Bool) → a ≡ true → LeavesCommit old → Prepares {T = T} (moment old a) (moment old a) (Err Store)
refused_prepared {T = T} old it a has law = prepared {T = T} (moment old a) (moment old a) (Err Store) (λ _. Unit {0}) (refused_look old it a has law (λ _. Unit {0}))

module _ (a b : Moment) (plan : Plan) where
  -- look-ups that failed: nothing is committed
  pub not_committed : {T : Type 0} (e : Fault) → Prepares {T = T} a b (Err e) → Commits a b (Err e) plan
  not_committed {T = T} e look = record {
    done = λ none. tt;
    rows_done = λ none. tt;
    undone = look.same;
    rows_undone = look.rows_same;
    defects_stay = look.defects_stay;
    corruptions_stay = look.corruptions_stay;
    kept = look.kept;
    told = told_as e look.told;
    works = tt;
    stays = look.stays;
    crash = λ late none o left. inl (look.crash late none o left);
  }
    where
      told_as : (f : Fault) → IsTold {T = T} (Err f) b.refusals → IsTold {T = Unit {0}} (Err f) b.refusals
      told_as Store told = told
      told_as Memory told = told

  -- a fact of one fault is one of the result that has it
  pub as_err : (r : Result (Unit {0}) Fault) (e : Fault) → IsErrAnd r (λ f. f ≡ e) → Commits a b (Err e) plan → Commits a b r plan
  as_err (Ok x) e is commit = absurd is
  as_err (Err f) e is commit = subst (λ x. Commits a b (Err x) plan) (sym is) commit

  -- a plan that fits before it fits after it
  pub fits_still : {T : Type 0} (r : Result T Fault) → Prepares a b r → (a.defects ≡ 0 → Fits a.state a.rows plan) → b.defects ≡ 0 → Fits b.state b.rows plan
  fits_still r look fits none =
      subst (λ rows. Fits b.state rows plan) (sym (look.rows_same none)) (subst (λ (s : State). Fits s a.rows plan) (sym (look.same none)) (fits (look.defects_stay none)))

  module _ {T : Type 0} (c : Moment) (x : T) (look : Prepares a b (Ok x)) where
    done_so : (r : Result (Unit {0}) Fault) (s t : State) → s ≡ t → OnOk r (c.state ≡ accept s plan.request) → OnOk r (c.state ≡ accept t plan.request)
    done_so r s t same = subst (λ (u : State). OnOk r (c.state ≡ accept u plan.request)) same

    pub commits_after : (r : Result (Unit {0}) Fault) → Commits b c r plan → Commits a c r plan
    commits_after r commit = record {
      done = λ none. done_so r b.state a.state (look.same (commit.defects_stay none)) (commit.done none);
      rows_done = λ none. subst (λ rows. OnOk r (c.rows ≡ edited_all plan.edits.items rows)) (look.rows_same (commit.defects_stay none)) (commit.rows_done none);
      undone = λ none. subst (λ (s : State). OnErr r (c.state ≡ s)) (look.same (commit.defects_stay none)) (commit.undone none);
      rows_undone = λ none. subst (λ rows. OnErr r (c.rows ≡ rows)) (look.rows_same (commit.defects_stay none)) (commit.rows_undone none);
      defects_stay = λ none. look.defects_stay (commit.defects_stay none);
      corruptions_stay = λ late. look.corruptions_stay (commit.corruptions_stay late);
      kept = omega (arith, look.kept, commit.kept);
      told = commit.told;
      works = commit.works;
      stays = λ late none. let early = commit.corruptions_stay late in stays_both a b c (look.stays early none) (commit.stays late (look.works early none));
      crash = λ late none. let mid = look.works (commit.corruptions_stay late) none in subst (λ (s : State). IsEither c s (accept s plan.request)) (look.same mid) (commit.crash late mid);
    }
