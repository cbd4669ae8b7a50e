-- What a call on the connection leaves of a shelf.
use Rattle.std.proofs.Common.{◌≡◌, Bool, true, false, ◌&&◌, IsTrue, refl, sym, ap, subst, ◌∙◌, arith, true≢false, Option, Some, None}
use Rattle.sqlite_trees.specs.View.{doubt}
use Rattle.sqlite.specs.State.{State, HasCleanDisk}
use Rattle.sqlite.specs.Tree.{Trees}
use Rattle.sqlite.specs.Effect.{Database}
use Rattle.goo_spec.specs.State as registry
use Rattle.goo_core_shelf.specs.Shelf.{IsSafe}
use Rattle.goo_tables_rows.specs.Rows.{tables_of}
use Rattle.goo_tables_rows.specs.Stands.{Holds, AreOurs, defects}
use Rattle.goo_tables_rows.proofs.Committed.{holds_from}
use Rattle.goo_spec_tables.specs.Kept.{AreKept}
use Rattle.goo_store_judge.specs.Moments.{tables_in, OpensAs, moment, IsWell}
use Rattle.goo_spec_tables.specs.States.{state_of}

both : (a b : Bool) → doubt (a && b) ≡ 0 → (doubt a ≡ 0) × IsTrue b
unfolding doubt
both true true h = (refl, refl)
both true false h = absurd (omega arith)
both false b h = absurd (omega arith)

whole : (a b : Bool) → doubt a ≡ 0 → IsTrue b → doubt (a && b) ≡ 0
unfolding doubt
whole true true h live = refl
whole true false h live = absurd (true≢false (sym live))
whole false b h live = absurd (omega (arith, h))

pub is_sure : (s : State) → HasCleanDisk s → IsTrue s.is_open → defects s ≡ 0
unfolding defects
is_sure s = whole s.is_clean s.is_open

pub sure : (s : State) → defects s ≡ 0 → HasCleanDisk s × IsTrue s.is_open
unfolding defects
sure s = both s.is_clean s.is_open

-- while the connection is open, a crash leaves what was committed last
abbrev pub LeavesCommit : State → Type 0
LeavesCommit s = IsTrue s.is_open → (db : Trees) → s.may_leave db → db ≡ s.committed.trees

-- trees that list and hold tables which keep the rules open as their state and as nothing else
pub opens_so : (db : Trees) (o : Option registry.State) → AreOurs db → Holds (tables_of db) db → AreKept (tables_of db) → OpensAs db o → o ≡ Some (state_of (tables_of db))
opens_so db None ours holds kept opens = absurd (opens ours holds kept)
opens_so db (Some s) ours holds kept opens = ap Some opens.1.2

module _ (s : State) (it : IsWell s) (law : LeavesCommit s) (none : defects s ≡ 0) where
  committed_now : (db : Trees) → s.may_leave db → s.now.trees ≡ db
  committed_now db may = ap (λ (d : Database). d.trees) (it.settled none) ∙ sym (law (sure s none).1 db may)

  -- what it leaves opens as the state
  pub left_by : (db : Trees) → s.may_leave db → (o : Option registry.State) → OpensAs db o → o ≡ Some (state_of (tables_in s))
  left_by db may =
      subst (λ d. (o : Option registry.State) → OpensAs d o → o ≡ Some (state_of (tables_in s))) (committed_now db may)
      (λ o. opens_so s.now.trees o (it.ours none) (holds_from s.now (tables_in s) (it.stands none)) (it.kept none))

  pub safe : (refused : Bool) → IsSafe (moment s refused) (state_of (tables_in s))
  safe refused o left = left_by left.0 left.1 o left.2
