-- Look-ups of a shelf, from those of the tables.
use Rattle.std.proofs.Common.{◌≡◌, ◌≤◌, inl, inr, Bool, true, false, IsTrue, refl, sym, ap, subst, ◌∙◌, arith, true≢false, Ok, Err, Result, IfOk, OnOk}
use Rattle.sqlite.specs.State.{State, HasCleanDisk, Survives}
use Rattle.sqlite.specs.Tree.{Trees}
use Rattle.sqlite.specs.Effect.{Database}
use Rattle.sqlite.specs.declared.error.Error.{Error}
use Rattle.goo_types.specs.declared.fault.Fault.{Fault}
use Rattle.goo_types.specs.declared.fault.Fault.TheVariants as fault
use Rattle.goo_core_shelf.specs.Shelf as shelf
use Rattle.goo_core_shelf.proofs.Looking.{stays_still, stays_on}
use Rattle.goo_tables_rows.proofs.Results.{if_ok}
use Rattle.goo_tables_rows.specs.Rows.{Tables, tables_of}
use Rattle.goo_tables_rows.specs.Stands.{Stands, Rests, Looks, AreOurs, defects}
use Rattle.goo_store_values.specs.declared.statement_fault.StatementFault.{StatementFault}
use Rattle.goo_store_values.specs.declared.statement_fault.StatementFault.TheVariants.{Memory, Refused}
use Rattle.goo_spec_tables.specs.Kept.{AreKept}
use Rattle.goo_spec_tables.specs.Places.{rows_of}
use Rattle.goo_spec_tables.specs.States.{state_of}
use Rattle.goo_store_values.specs.Passing.{Passes}
use Rattle.goo_store_values.specs.Telling.{Tells}
use Rattle.goo_store_judge.specs.Moments.{tables_in, count, moment, IsWell}
use Rattle.goo_store_judge.specs.Holding.{is_sure, sure, LeavesCommit, left_by, safe}

-- a call that only a failed one lets shut the connection
pub survived : (old new : State) (a b : Bool) (Commits : Trees → Type 0) → Survives old new Commits → HasCleanDisk new → defects old ≡ 0 → shelf.StaysSure (moment old a) (moment new b)
survived old new a b Commits survives clean none = record {
  counts = survives.counts;
  sure = λ unfailed. elim (survives.closes clean (sure old none).1) [ inl live ↦ is_sure new clean live | inr failed ↦ absurd (unfailed failed) ];
}

module _ (old new : State) (it : IsWell old) {T : Type 0} (r : Result T Error) (right : Tables → T → Type 0) (looks : Looks old new r right) where
  pub before : defects new ≡ 0 → defects old ≡ 0
  before none = is_sure old (omega (arith, (sure new none).0, looks.clean)) (looks.was_open (sure new none).0 (sure new none).1)

  rests : defects new ≡ 0 → Rests old new
  rests none = looks.rests (sure new none).0 (it.stands (before none)).schema (λ _. it.settled (before none))

  now_same : defects new ≡ 0 → new.now ≡ old.now
  now_same none = (rests none).now (sure new none).1

  pub tables_same : defects new ≡ 0 → tables_in new ≡ tables_in old
  tables_same none = ap (λ (d : Database). tables_of d.trees) (now_same none)

  -- the shelf stays well
  pub well : IsWell new
  well = record {
    stands = λ none. subst (λ (d : Database). Stands d (tables_of d.trees)) (sym (now_same none)) (it.stands (before none));
    ours = λ none. subst (λ (d : Database). AreOurs d.trees) (sym (now_same none)) (it.ours (before none));
    kept = λ none. subst AreKept (sym (tables_same none)) (it.kept (before none));
    settled = λ none. now_same none ∙ it.settled (before none) ∙ sym ((rests none).committed (sure new none).1);
  }

  -- what is so of the tables before it is so of those after it
  pub so_still : (P : Tables → Type 0) → defects new ≡ 0 → P (tables_in old) → P (tables_in new)
  so_still P none = subst P (sym (tables_same none))

  crash : LeavesCommit old → HasCleanDisk new → defects old ≡ 0 → (b : Bool) → shelf.IsSafe (moment new b) (state_of (tables_in old))
  crash law late none b o left =
      elim ((looks.crash (it.stands none).schema).crash late left.0 left.1) [
        | inl early ↦ left_by old it law none left.0 early o left.2
        | inr bad ↦ absurd bad
      ]

  told_so : {U : Type 0} (read : Result U StatementFault) (a b : Bool) (result : Result U Fault) → a ≡ false → Tells read result a b → shelf.IsTold result (count b)
  told_so {U = U} (Ok x) a b result not_yet told = subst (λ (z : Result U Fault). shelf.IsTold z (count b)) (sym told.0) (ap count (told.1 ∙ not_yet))
  told_so {U = U} (Err Memory) a b result not_yet told = subst (λ (z : Result U Fault). shelf.IsTold z (count b)) (sym told.0) (ap count (told.1 ∙ not_yet))
  told_so {U = U} (Err Refused) a b result not_yet told = subst (λ (z : Result U Fault). shelf.IsTold z (count b)) (sym told.0) (ap count told.1)

  still : (a b : Bool) → a ≡ false → count a ≤ count b
  still a b not_yet = omega (arith, ap count not_yet)

  -- what is told is Ok only where something was read and found
  found_so : {U : Type 0} (P : U → Type 0) (read : Result U StatementFault) (a b : Bool) (result : Result U Fault) → Tells read result a b → IfOk read P → IfOk result P
  found_so {U = U} P (Ok x) a b result told is = subst (λ (z : Result U Fault). IfOk z P) (sym told.0) is
  found_so {U = U} P (Err Memory) a b result told is = subst (λ (z : Result U Fault). IfOk z P) (sym told.0) tt
  found_so {U = U} P (Err Refused) a b result told is = subst (λ (z : Result U Fault). IfOk z P) (sym told.0) tt

  passed : {U : Type 0} (P : U → Type 0) (R : T → U → Type 0) (q : Result T Error) (read : Result U StatementFault) (t : Tables) → Passes q read R → IfOk q (right t) → ((x : T) (y : U) → right t x → R x y → P y) → IfOk read P
  passed P R (Ok x) (Ok y) t passes is says = says x y is passes
  passed P R (Ok x) (Err e) t passes is says = tt
  passed P R (Err e) (Ok y) t passes is says = absurd (true≢false (sym passes))
  passed P R (Err e) (Err f) t passes is says = tt

  works_sure : (q : Result T Error) → OnOk q (HasCleanDisk new → IsTrue new.is_open) → OnOk q (HasCleanDisk new → defects new ≡ 0)
  works_sure (Ok x) works = λ late. is_sure new late (works late)
  works_sure (Err e) works = tt

  works_so : {U : Type 0} (W : Type 0) (R : T → U → Type 0) (q : Result T Error) (read : Result U StatementFault) (a b : Bool) (result : Result U Fault) → Passes q read R → Tells read result a b → OnOk q W → OnOk result W
  works_so {U = U} W R (Ok x) (Ok y) a b result passes told works = subst (λ (z : Result U Fault). OnOk z W) (sym told.0) works
  works_so W R (Err e) (Ok y) a b result passes told works = absurd (true≢false (sym passes))
  works_so {U = U} W R q (Err Memory) a b result passes told works = subst (λ (z : Result U Fault). OnOk z W) (sym told.0) tt
  works_so {U = U} W R q (Err Refused) a b result passes told works = subst (λ (z : Result U Fault). OnOk z W) (sym told.0) tt

  -- the database is open where something was told
  pub answered : {U : Type 0} (R : T → U → Type 0) (read : Result U StatementFault) (a b : Bool) (result : Result U Fault) → Passes r read R → Tells read result a b → OnOk result (HasCleanDisk new → IsTrue new.is_open)
  answered R read a b result passes told = works_so _ R r read a b result passes told looks.works

  -- a look-up that was told
  pub looked : {U : Type 0} (P : U → Type 0) (R : T → U → Type 0) (read : Result U StatementFault) (a b : Bool) (result : Result U Fault) → LeavesCommit old → a ≡ false → Passes r read R → Tells read result a b
      → (AreKept (tables_in old) → (x : T) (y : U) → right (tables_in old) x → R x y → P y) → shelf.Looks (moment old a) (moment new b) result P
  looked P R read a b result law not_yet passes told says = record {
    found = λ none. found_so P read a b result told (passed P R r read (tables_in old) passes (looks.found (sure new none).0 (tables_in old) (it.stands (before none))) (says (it.kept (before none))));
    same = λ none. ap state_of (tables_same none);
    rows_same = λ none. ap rows_of (tables_same none);
    defects_stay = before;
    corruptions_stay = λ late. omega (arith, late, looks.clean);
    kept = still a b not_yet;
    told = told_so read a b result not_yet told;
    works = works_so _ R r read a b result passes told (works_sure r looks.works);
    stays = λ late none. survived old new a b (λ _. ⊥) (looks.crash (it.stands none).schema) late none;
    crash = λ late none. crash law late none b;
  }

-- once the flag is up
pub refused_look : (old : State) → IsWell old → (a : Bool) → a ≡ true → LeavesCommit old → {U : Type 0} (P : U → Type 0) → shelf.Looks (moment old a) (moment old a) (Err fault.Store) P
refused_look old it a has law P = record {
  found = λ _. tt;
  same = λ _. refl;
  rows_same = λ _. refl;
  defects_stay = λ none. none;
  corruptions_stay = λ late. late;
  kept = omega arith;
  told = ap count has;
  works = tt;
  stays = λ late none. stays_still (moment old a) none;
  crash = λ late none. safe old it law none a;
}

-- one look-up after another, and what is told of both
module _ (old mid new : State) (a0 a b c : Bool) {T U V : Type 0} (x : T) (first : T → Type 0) (one : shelf.Looks (moment old a0) (moment mid a) (Ok x) first) where
  -- the second fails
  pub failed_then : (second : U → Type 0) (P : V → Type 0) (e : Fault) (result : Result V Fault) → result ≡ Err e → shelf.Looks {T = U} (moment mid a) (moment new b) (Err e) second → shelf.Looks (moment old a0) (moment new b) result P
  failed_then second P e result is two = subst (λ (z : Result V Fault). shelf.Looks (moment old a0) (moment new b) z P) (sym is) (record {
    found = λ _. tt;
    same = λ none. two.same none ∙ one.same (two.defects_stay none);
    rows_same = λ none. two.rows_same none ∙ one.rows_same (two.defects_stay none);
    defects_stay = λ none. one.defects_stay (two.defects_stay none);
    corruptions_stay = λ late. one.corruptions_stay (two.corruptions_stay late);
    kept = omega (arith, one.kept, two.kept);
    told = fault_told e two.told;
    works = tt;
    stays = stays_on (moment old a0) (moment mid a) (moment new b) x first one two.corruptions_stay two.stays;
    crash = λ late none. subst (shelf.IsSafe (moment new b)) (one.same (one.works (two.corruptions_stay late))) (two.crash late (one.works (two.corruptions_stay late)));
  })
    where
      fault_told : (f : Fault) → shelf.IsTold {T = U} (Err f) (count b) → shelf.IsTold {T = V} (Err f) (count b)
      fault_told fault.Store told = told
      fault_told fault.Memory told = told

  -- the second succeeds, and something is made of both
  pub looked_both : (y : U) (second : U → Type 0) (P : V → Type 0) (read : Result V StatementFault) (result : Result V Fault) → shelf.Looks (moment mid a) (moment new b) (Ok y) second → Tells read result b c
      → (defects old ≡ 0 → rows_of (tables_in mid) ≡ rows_of (tables_in old) → first x → second y → IfOk read P) → shelf.Looks (moment old a0) (moment new c) result P
  looked_both y second P read result two told says = record {
    found = λ none. found_told P read b c result told (says (one.defects_stay (two.defects_stay none)) (one.rows_same (two.defects_stay none)) (one.found (two.defects_stay none)) (two.found none));
    same = λ none. two.same none ∙ one.same (two.defects_stay none);
    rows_same = λ none. two.rows_same none ∙ one.rows_same (two.defects_stay none);
    defects_stay = λ none. one.defects_stay (two.defects_stay none);
    corruptions_stay = λ late. one.corruptions_stay (two.corruptions_stay late);
    kept = omega (arith, one.kept, one.told, two.told);
    told = told_told read b c result told (down b two.told);
    works = works_told read b c result told two.works;
    stays = λ late none.
        let both = stays_on (moment old a0) (moment mid a) (moment new b) x first one two.corruptions_stay two.stays late none in
        record { counts = both.counts; sure = both.sure };
    crash = λ late none. subst (shelf.IsSafe (moment new b)) (one.same (one.works (two.corruptions_stay late))) (two.crash late (one.works (two.corruptions_stay late)));
  }
    where
      down : (f : Bool) → count f ≡ 0 → f ≡ false
      down true e = absurd (omega (arith, e))
      down false e = refl

      found_told : (Q : V → Type 0) (r : Result V StatementFault) (d e : Bool) (z : Result V Fault) → Tells r z d e → IfOk r Q → IfOk z Q
      found_told Q (Ok v) d e z tells is = subst (λ (w : Result V Fault). IfOk w Q) (sym tells.0) is
      found_told Q (Err Memory) d e z tells is = subst (λ (w : Result V Fault). IfOk w Q) (sym tells.0) tt
      found_told Q (Err Refused) d e z tells is = subst (λ (w : Result V Fault). IfOk w Q) (sym tells.0) tt

      told_told : (r : Result V StatementFault) (d e : Bool) (z : Result V Fault) → Tells r z d e → d ≡ false → shelf.IsTold z (count e)
      told_told (Ok v) d e z tells low = subst (λ (w : Result V Fault). shelf.IsTold w (count e)) (sym tells.0) (ap count (tells.1 ∙ low))
      told_told (Err Memory) d e z tells low = subst (λ (w : Result V Fault). shelf.IsTold w (count e)) (sym tells.0) (ap count (tells.1 ∙ low))
      told_told (Err Refused) d e z tells low = subst (λ (w : Result V Fault). shelf.IsTold w (count e)) (sym tells.0) (ap count tells.1)

      works_told : {W : Type 0} (r : Result V StatementFault) (d e : Bool) (z : Result V Fault) → Tells r z d e → W → OnOk z W
      works_told {W = W} (Ok v) d e z tells works = subst (λ (q : Result V Fault). OnOk q W) (sym tells.0) works
      works_told {W = W} (Err Memory) d e z tells works = subst (λ (q : Result V Fault). OnOk q W) (sym tells.0) tt
      works_told {W = W} (Err Refused) d e z tells works = subst (λ (q : Result V Fault). OnOk q W) (sym tells.0) tt

-- one look-up after another, which is the answer
module _ (old mid new : State) (a0 a b : Bool) {T V : Type 0} (x : T) (first : T → Type 0) (one : shelf.Looks (moment old a0) (moment mid a) (Ok x) first) where
  pub looked_then : (second P : V → Type 0) (result : Result V Fault) → shelf.Looks (moment mid a) (moment new b) result second
      → (state_of (tables_in mid) ≡ state_of (tables_in old) → first x → (v : V) → second v → P v) → shelf.Looks (moment old a0) (moment new b) result P
  looked_then second P result two says = record {
    found = λ none. if_ok result (two.found none) (says (one.same (two.defects_stay none)) (one.found (two.defects_stay none)));
    same = λ none. two.same none ∙ one.same (two.defects_stay none);
    rows_same = λ none. two.rows_same none ∙ one.rows_same (two.defects_stay none);
    defects_stay = λ none. one.defects_stay (two.defects_stay none);
    corruptions_stay = λ late. one.corruptions_stay (two.corruptions_stay late);
    kept = omega (arith, one.kept, two.kept);
    told = two.told;
    works = two.works;
    stays = stays_on (moment old a0) (moment mid a) (moment new b) x first one two.corruptions_stay two.stays;
    crash = λ late none. subst (shelf.IsSafe (moment new b)) (one.same (one.works (two.corruptions_stay late))) (two.crash late (one.works (two.corruptions_stay late)));
  }
