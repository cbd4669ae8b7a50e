-- A plan that is carried out by changes of the tables.
use Rattle.std.proofs.Common.{◌≡◌, ◌≤◌, inl, inr, Bool, false, IsTrue, List, sym, ap, subst, ◌∙◌, arith, true≢false, Ok, Err, Result, OnOk, OnErr, Option, Some}
use Rattle.sqlite_trees.specs.View.{doubt}
use Rattle.sqlite.specs.State.{State, HasCleanDisk, IsLive, Survives}
use Rattle.sqlite.specs.Tree.{Trees}
use Rattle.sqlite.specs.Effect.{Database}
use Rattle.sqlite.specs.declared.error.Error.{Error}
use Rattle.goo_types.specs.declared.fault.Fault.{Fault}
use Rattle.goo_types.specs.declared.fault.Fault.TheVariants as fault
use Rattle.goo_spec.specs.State as registry
use Rattle.goo_spec.specs.Step.{accept}
use Rattle.goo_core_shelf.specs.Shelf as shelf
use Rattle.goo_core_shelf.specs.Plan.{Commits, IsEither}
use Rattle.goo_core_shelf.specs.declared.plan.Plan.{Plan}
use Rattle.goo_tables_rows.specs.Columns.{registry_schema}
use Rattle.goo_tables_rows.specs.Rows.{Tables, tables_of}
use Rattle.goo_tables_rows.specs.Stands.{Stands, Settled, Holds, HoldsOurs, AreOurs, defects}
use Rattle.goo_tables_rows.proofs.Catalogued.{ours_of}
use Rattle.goo_tables_rows.proofs.Decoded.{decoded}
use Rattle.goo_store_changes.specs.declared.table_change.TableChange.{TableChange}
use Rattle.goo_store_values.specs.declared.statement_fault.StatementFault.{StatementFault}
use Rattle.goo_store_values.specs.declared.statement_fault.StatementFault.TheVariants.{Memory, Refused}
use Rattle.goo_store_changes.specs.Changes.{made_all, AreFor}
use Rattle.goo_spec_tables.specs.Kept.{AreKept}
use Rattle.goo_store_judge.specs.Moments.{tables_in, OpensAs, count, moment, IsWell}
use Rattle.goo_spec_tables.specs.Places.{rows_of}
use Rattle.goo_store_plans.specs.Found.{IsBasisOf, IsNoBasis}
use Rattle.goo_store_plans.specs.Planned.{IsPlanned}
use Rattle.goo_store_plans.specs.declared.known_rows.KnownBasis.{KnownBasis}
use Rattle.goo_store_pieces.proofs.Found.{no_basis}
use Rattle.goo_store_pieces.proofs.Caching.{opened}
use Rattle.goo_store_pieces.specs.Caching.{IsCacheOf, HoldsCache}
use Rattle.goo_store_pieces.specs.declared.cache.Cache.{Cache}
use Rattle.std.specs.Prelude.{is_ok}
use Rattle.goo_spec_tables.specs.States.{state_of}
use Rattle.goo_store_values.specs.Telling.{PassesOn, Tells}
use Rattle.goo_store_judge.proofs.Looking.{survived}
use Rattle.goo_store_judge.specs.Holding.{is_sure, sure, LeavesCommit, opens_so, left_by}

-- trees that hold these tables are read as them
held_tables : (t : Tables) (db : Trees) → Holds t db → tables_of db ≡ t
held_tables t db holds = decoded (record { schema = registry_schema; trees = db }) t holds

opens_held : (t : Tables) (db : Trees) (o : Option registry.State) → AreOurs db → Holds t db → AreKept t → OpensAs db o → o ≡ Some (state_of t)
opens_held t db o ours holds kept opens =
    let same = held_tables t db holds in
    opens_so db o ours (subst (λ u. Holds u db) (sym same) holds) (subst AreKept (sym same) kept) opens ∙ ap (λ u. Some (state_of u)) same

module _ (old new : State) (it : IsWell old) (changes : List TableChange) (plan : Plan) (planned : defects old ≡ 0 → IsPlanned (tables_in old) changes plan) (r : Result (Unit {0}) Error)
    (clean : doubt old.is_clean ≤ doubt new.is_clean) (was_open : HasCleanDisk new → IsTrue new.is_open → IsTrue old.is_open) (works : OnOk r (HasCleanDisk new → IsTrue new.is_open))
    (done : HasCleanDisk new → (t : Tables) → Stands old.now t → AreFor t changes → OnOk r (Settled new (made_all t changes)))
    (kept : HasCleanDisk new → IsTrue new.is_open → (t : Tables) → Stands old.now t → AreFor t changes → OnErr r ((new.now ≡ old.now) × (new.committed ≡ old.committed)))
    (crash : (t : Tables) → Stands old.now t → AreFor t changes → Survives old new (HoldsOurs old.is_open (made_all t changes)))
    (live : HasCleanDisk new → (t : Tables) → Stands old.now t → AreFor t changes → IsLive new) where
  before : defects new ≡ 0 → defects old ≡ 0
  before none = is_sure old (omega (arith, (sure new none).0, clean)) (was_open (sure new none).0 (sure new none).1)

  made : defects new ≡ 0 → OnOk r (Settled new (made_all (tables_in old) changes))
  made none = done (sure new none).0 (tables_in old) (it.stands (before none)) (planned (before none)).for

  unmade : defects new ≡ 0 → OnErr r ((new.now ≡ old.now) × (new.committed ≡ old.committed))
  unmade none = kept (sure new none).0 (sure new none).1 (tables_in old) (it.stands (before none)) (planned (before none)).for

  -- the shelf stays well, however the commit ends
  well_so : (q : Result (Unit {0}) Error) → (defects new ≡ 0 → OnOk q (Settled new (made_all (tables_in old) changes))) → (defects new ≡ 0 → OnErr q ((new.now ≡ old.now) × (new.committed ≡ old.committed))) → IsWell new
  well_so (Ok x) ok err =
      let tables = λ (none : defects new ≡ 0). decoded new.now (made_all (tables_in old) changes) (ok none).stands in record {
        stands = λ none. subst (Stands new.now) (sym (tables none)) (ok none).stands;
        ours = λ none. ours_of new.now (live (sure new none).0 (tables_in old) (it.stands (before none)) (planned (before none)).for (sure new none).1).0 (ok none).stands.schema;
        kept = λ none. subst AreKept (sym (tables none)) (planned (before none)).kept;
        settled = λ none. sym (ok none).committed;
      }
  well_so (Err e) ok err = record {
    stands = λ none. subst (λ (d : Database). Stands d (tables_of d.trees)) (sym (err none).0) (it.stands (before none));
    ours = λ none. subst (λ (d : Database). AreOurs d.trees) (sym (err none).0) (it.ours (before none));
    kept = λ none. subst (λ (d : Database). AreKept (tables_of d.trees)) (sym (err none).0) (it.kept (before none));
    settled = λ none. (err none).0 ∙ it.settled (before none) ∙ sym (err none).1;
  }

  pub well_after : IsWell new
  well_after = well_so r made unmade

  tables_made : (q : Result (Unit {0}) Error) → (defects new ≡ 0 → OnOk q (Settled new (made_all (tables_in old) changes))) → OnOk q (defects new ≡ 0 → tables_in new ≡ made_all (tables_in old) changes)
  tables_made (Ok x) ok = λ none. decoded new.now (made_all (tables_in old) changes) (ok none).stands
  tables_made (Err e) ok = tt

  tables_kept : (q : Result (Unit {0}) Error) → (defects new ≡ 0 → OnErr q ((new.now ≡ old.now) × (new.committed ≡ old.committed))) → OnErr q (defects new ≡ 0 → tables_in new ≡ tables_in old)
  tables_kept (Ok x) err = tt
  tables_kept (Err e) err = λ none. ap (λ (d : Database). tables_of d.trees) (err none).0

  -- what the changes make of what was so, and what is so of any tables where they were not made, is so after it
  pub so_after : (was is : Tables → Type 0) → (defects old ≡ 0 → was (tables_in old)) → OnOk r ((t : Tables) → was t → is (made_all t changes)) → OnErr r ((t : Tables) → is t) → defects new ≡ 0 → is (tables_in new)
  so_after was is so done undone none = go r (tables_made r made) done undone
    where
      go : (q : Result (Unit {0}) Error) → OnOk q (defects new ≡ 0 → tables_in new ≡ made_all (tables_in old) changes) → OnOk q ((t : Tables) → was t → is (made_all t changes)) → OnErr q ((t : Tables) → is t) → is (tables_in new)
      go (Ok x) tables on any = subst is (sym (tables none)) (on (tables_in old) (so (before none)))
      go (Err e) tables on any = any (tables_in new)

  -- what is known of the basis after it is so
  pub basis_after : (after known : KnownBasis) → (defects old ≡ 0 → IsBasisOf after (made_all (tables_in old) changes)) → OnOk r (known ≡ after) → OnErr r (IsNoBasis known) → defects new ≡ 0 → IsBasisOf known (tables_in new)
  basis_after after known is done undone none = go r (tables_made r made) done undone
    where
      go : (q : Result (Unit {0}) Error) → OnOk q (defects new ≡ 0 → tables_in new ≡ made_all (tables_in old) changes) → OnOk q (known ≡ after) → OnErr q (IsNoBasis known) → IsBasisOf known (tables_in new)
      go (Ok x) tables same left = subst (λ k. IsBasisOf k (tables_in new)) (sym same) (subst (IsBasisOf after) (sym (tables none)) (is (before none)))
      go (Err e) tables same left = no_basis (tables_in new) known left

  -- what is kept over it is so after it
  pub lasts_after : (first last : Cache) → HoldsCache old first → last.answered ≡ is_ok r → OnOk r ((t : Tables) → IsCacheOf first t → IsCacheOf last (made_all t changes)) → OnErr r ((t : Tables) → IsCacheOf last t) → HoldsCache new last
  lasts_after first last cached same on left = record { so = λ none. go r (tables_made r made) on left none; is_open = opened new r last.answered same works }
    where
      go : (q : Result (Unit {0}) Error) → OnOk q (defects new ≡ 0 → tables_in new ≡ made_all (tables_in old) changes) → OnOk q ((t : Tables) → IsCacheOf first t → IsCacheOf last (made_all t changes)) → OnErr q ((t : Tables) → IsCacheOf last t)
          → defects new ≡ 0 → IsCacheOf last (tables_in new)
      go (Ok x) tables on left none = subst (IsCacheOf last) (sym (tables none)) (on (tables_in old) (cached.so (before none)))
      go (Err e) tables on left none = left (tables_in new)

  found : LeavesCommit old → HasCleanDisk new → defects old ≡ 0 → (b : Bool) → IsEither (moment new b) (state_of (tables_in old)) (accept (state_of (tables_in old)) plan.request)
  found law late none b o left =
      elim ((crash (tables_in old) (it.stands none) (planned none).for).crash late left.0 left.1) [
        | inl early ↦ inl (left_by old it law none left.0 early o left.2)
        | inr holds ↦ inr (opens_held (made_all (tables_in old) changes) left.0 o (holds.1 (sure old none).1) holds.0 (planned none).kept left.2 ∙ ap Some (planned none).state)
      ]

  works_so : (q : Result (Unit {0}) Error) → OnOk q (HasCleanDisk new → IsTrue new.is_open) → OnOk q (HasCleanDisk new → defects new ≡ 0)
  works_so (Ok x) live = λ late. is_sure new late (live late)
  works_so (Err e) live = tt

  -- what is told of it
  pub committed : (read : Result (Unit {0}) StatementFault) (a b : Bool) (result : Result (Unit {0}) Fault) → LeavesCommit old → a ≡ false → PassesOn r read → Tells read result a b
      → Commits (moment old a) (moment new b) result plan
  committed read a b result law not_yet passes told =
      go r read passes told (tables_made r made) (tables_kept r unmade) (works_so r works)
    where
      failed : (f : Fault) → shelf.IsTold {T = Unit {0}} (Err f) (count b) → (defects new ≡ 0 → tables_in new ≡ tables_in old) → Commits (moment old a) (moment new b) (Err f) plan
      failed f is err = record {
        done = λ none. tt;
        rows_done = λ none. tt;
        undone = λ none. ap state_of (err none);
        rows_undone = λ none. ap rows_of (err none);
        defects_stay = before;
        corruptions_stay = λ late. omega (arith, late, clean);
        kept = omega (arith, ap count not_yet);
        told = is;
        works = tt;
        stays = λ late none. survived old new a b (HoldsOurs old.is_open (made_all (tables_in old) changes)) (crash (tables_in old) (it.stands none) (planned none).for) late none;
        crash = λ late none. found law late none b;
      }

      go : (q : Result (Unit {0}) Error) (read : Result (Unit {0}) StatementFault) → PassesOn q read → Tells read result a b
          → OnOk q (defects new ≡ 0 → tables_in new ≡ made_all (tables_in old) changes) → OnErr q (defects new ≡ 0 → tables_in new ≡ tables_in old) → OnOk q (HasCleanDisk new → defects new ≡ 0)
          → Commits (moment old a) (moment new b) result plan
      go (Ok x) (Ok y) p tells ok err live = subst (λ z. Commits (moment old a) (moment new b) z plan) (sym tells.0) (record {
        done = λ none. ap state_of (ok none) ∙ (planned (before none)).state;
        rows_done = λ none. ap rows_of (ok none) ∙ (planned (before none)).rows;
        undone = λ none. tt;
        rows_undone = λ none. tt;
        defects_stay = before;
        corruptions_stay = λ late. omega (arith, late, clean);
        kept = omega (arith, ap count not_yet);
        told = ap count (tells.1 ∙ not_yet);
        works = live;
        stays = λ late none. survived old new a b (HoldsOurs old.is_open (made_all (tables_in old) changes)) (crash (tables_in old) (it.stands none) (planned none).for) late none;
        crash = λ late none. found law late none b;
      })
      go (Ok x) (Err f) p tells ok err live = absurd (true≢false (sym p))
      go (Err e) (Ok y) p tells ok err live = absurd (true≢false (sym p))
      go (Err e) (Err Memory) p tells ok err live = subst (λ z. Commits (moment old a) (moment new b) z plan) (sym tells.0) (failed fault.Memory (ap count (tells.1 ∙ not_yet)) err)
      go (Err e) (Err Refused) p tells ok err live = subst (λ z. Commits (moment old a) (moment new b) z plan) (sym tells.0) (failed fault.Store (ap count tells.1) err)
