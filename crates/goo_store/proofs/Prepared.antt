-- What a shelf tells of calls that gather what the tables show.
use Rattle.std.proofs.Common.{◌≡◌, ◌≤◌, ◌⊎◌, inl, inr, Bool, false, IsTrue, sym, ap, subst, ◌∙◌, arith, Ok, Err, Result, IfOk, OnOk}
use Rattle.sqlite.specs.State.{State, HasCleanDisk, Survives}
use Rattle.sqlite.specs.Tree.{Trees}
use Rattle.sqlite.specs.Effect.{Database}
use Rattle.goo_types.specs.declared.fault.Fault.{Fault}
use Rattle.goo_core_shelf.specs.Shelf as shelf
use Rattle.goo_tables_rows.specs.Rows.{Tables, tables_of}
use Rattle.goo_tables_rows.specs.Stands.{Stands, Rests, defects, AreOurs}
use Rattle.goo_spec_tables.specs.Kept.{AreKept}
use Rattle.goo_spec_tables.specs.Places.{rows_of}
use Rattle.goo_spec_tables.specs.States.{state_of}
use Rattle.goo_store_plans.specs.Carried.{AreInOrder}
use Rattle.goo_store_plans.specs.LookingUp.{LooksUp, IsOurs}
use Rattle.goo_store_judge.specs.Moments.{tables_in, count, moment, IsWell}
use Rattle.goo_store_plans.specs.Found.{AreInTables}
use Rattle.goo_store_pieces.specs.Found.{Knows}
use Rattle.goo_store.specs.Preparing.{Prepares}
use Rattle.goo_store_values.specs.Telling.{Tells}
use Rattle.goo_store_plans.specs.declared.known_rows.KnownRows.{KnownRows}
use Rattle.goo_store_values.specs.declared.statement_fault.StatementFault.{StatementFault}
use Rattle.goo_store_values.specs.declared.statement_fault.StatementFault.TheVariants.{Memory, Refused}
use Rattle.goo_store_judge.proofs.Looking.{survived}
use Rattle.goo_store_judge.specs.Holding.{is_sure, sure, LeavesCommit, left_by}

-- tables that stand are in the order of their keys
pub in_order : (d : Database) (t : Tables) → Stands d t → AreInOrder t
in_order d t it = record {
  holders = it.holders.rise;
  accounts = it.accounts.rise;
  devices = it.devices.rise;
  declarations = it.declarations.rise;
  lots = it.lots.rise;
  pieces = it.pieces.rise;
  peers = it.peers.rise;
  receipts = it.receipts.rise;
  cancellations = it.cancellations.rise;
  withdrawals = it.withdrawals.rise;
  notices_out = it.notices_out.rise;
  notices_in = it.notices_in.rise;
  corrections = it.corrections.rise;
}

module _ {T : Type 0} (old new : State) (it : IsWell old) (r : Result T StatementFault) (right : Tables → T → Type 0) (gathers : LooksUp old new r right) where
  pub before : defects new ≡ 0 → defects old ≡ 0
  before none = is_sure old (omega (arith, (sure new none).0, gathers.clean)) (gathers.was_open (sure new none).0 (sure new none).1)

  ours : defects old ≡ 0 → IsOurs old
  ours none = ((it.stands none).schema, λ _. it.settled none)

  rests : defects new ≡ 0 → Rests old new
  rests none = gathers.rests (sure new none).0 (ours (before none))

  now_same : defects new ≡ 0 → new.now ≡ old.now
  now_same none = (rests none).now (sure new none).1

  pub tables_same : defects new ≡ 0 → tables_in new ≡ tables_in old
  tables_same none = ap (λ (d : Database). tables_of d.trees) (now_same none)

  -- the shelf stays well
  pub well : IsWell new
  well = record {
    stands = λ none. subst (λ (d : Database). Stands d (tables_of d.trees)) (sym (now_same none)) (it.stands (before none));
    ours = λ none. subst (λ (d : Database). AreOurs d.trees) (sym (now_same none)) (it.ours (before none));
    kept = λ none. subst AreKept (sym (tables_same none)) (it.kept (before none));
    settled = λ none. now_same none ∙ it.settled (before none) ∙ sym ((rests none).committed (sure new none).1);
  }

  -- what is kept stays right
  pub known : (known_rows : KnownRows) → Knows old known_rows → Knows new known_rows
  known known_rows knows none = subst (AreInTables known_rows) (sym (tables_same none)) (knows (before none))

  survives : HasCleanDisk new → defects old ≡ 0 → Survives old new (λ _. ⊥)
  survives late none = gathers.crash late (sure old none).1 (ours none)

  no_more : (db : Trees) → old.may_leave db ⊎ ⊥ → old.may_leave db
  no_more db (inl early) = early
  no_more db (inr never) = absurd never

  crash : LeavesCommit old → HasCleanDisk new → defects old ≡ 0 → (b : Bool) → shelf.IsSafe (moment new b) (state_of (tables_in old))
  crash law late none b o left = left_by old it law none left.0 (no_more left.0 ((survives late none).crash late left.0 left.1)) o left.2

  told_so : (q : Result T StatementFault) (a b : Bool) (result : Result T Fault) → a ≡ false → Tells q result a b → shelf.IsTold result (count b)
  told_so (Ok x) a b result not_yet told = subst (λ (z : Result T Fault). shelf.IsTold z (count b)) (sym told.0) (ap count (told.1 ∙ not_yet))
  told_so (Err Memory) a b result not_yet told = subst (λ (z : Result T Fault). shelf.IsTold z (count b)) (sym told.0) (ap count (told.1 ∙ not_yet))
  told_so (Err Refused) a b result not_yet told = subst (λ (z : Result T Fault). shelf.IsTold z (count b)) (sym told.0) (ap count told.1)

  still : (a b : Bool) → a ≡ false → count a ≤ count b
  still a b not_yet = omega (arith, ap count not_yet)

  found_so : (P : T → Type 0) (q : Result T StatementFault) (a b : Bool) (result : Result T Fault) → Tells q result a b → IfOk q P → IfOk result P
  found_so P (Ok x) a b result told is = subst (λ (z : Result T Fault). IfOk z P) (sym told.0) is
  found_so P (Err Memory) a b result told is = subst (λ (z : Result T Fault). IfOk z P) (sym told.0) tt
  found_so P (Err Refused) a b result told is = subst (λ (z : Result T Fault). IfOk z P) (sym told.0) tt

  works_so : (W : Type 0) (q : Result T StatementFault) (a b : Bool) (result : Result T Fault) → Tells q result a b → OnOk q W → OnOk result W
  works_so W (Ok x) a b result told works = subst (λ (z : Result T Fault). OnOk z W) (sym told.0) works
  works_so W (Err Memory) a b result told works = subst (λ (z : Result T Fault). OnOk z W) (sym told.0) tt
  works_so W (Err Refused) a b result told works = subst (λ (z : Result T Fault). OnOk z W) (sym told.0) tt

  sure_so : (q : Result T StatementFault) → OnOk q (HasCleanDisk new → IsTrue old.is_open → IsTrue new.is_open) → OnOk q (HasCleanDisk new → defects old ≡ 0 → defects new ≡ 0)
  sure_so (Ok x) works = λ late none. is_sure new late (works late (sure old none).1)
  sure_so (Err e) works = tt

  -- what is found is told under the tables that are there after it
  pub found_after : (P : T → Type 0) (a b : Bool) (result : Result T Fault) → Tells r result a b → (defects new ≡ 0 → (y : T) → right (tables_in new) y → P y) → defects new ≡ 0 → IfOk result P
  found_after P a b result told says none =
      found_so P r a b result told (go r (subst (λ t. IfOk r (right t)) (sym (tables_same none)) (gathers.found (sure new none).0 (sure new none).1 (λ _. it.settled (before none)) (tables_in old) (it.stands (before none)))))
    where
      go : (q : Result T StatementFault) → IfOk q (right (tables_in new)) → IfOk q P
      go (Ok y) is = says none y is
      go (Err e) is = tt

  -- the state stays, and a fault is told
  pub gathered : (a b : Bool) (result : Result T Fault) → LeavesCommit old → a ≡ false → Tells r result a b → Prepares (moment old a) (moment new b) result
  gathered a b result law not_yet told = record {
    same = λ none. ap state_of (tables_same none);
    rows_same = λ none. ap rows_of (tables_same none);
    defects_stay = before;
    corruptions_stay = λ late. omega (arith, late, gathers.clean);
    kept = still a b not_yet;
    told = told_so r a b result not_yet told;
    works = works_so _ r a b result told (sure_so r gathers.works);
    stays = λ late none. survived old new a b (λ _. ⊥) (survives late none) late none;
    crash = λ late none. crash law late none b;
  }
