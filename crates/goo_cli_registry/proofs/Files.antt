-- What files that were opened and closed tell of the database.
use Rattle.std.proofs.Common.{◌≡◌, ◌⊎◌, ◌≤◌, ◌∙◌, inl, inr, refl, sym, ap, subst, cond, ℕ, List, Option, Some, Result, Ok, Err, arith, Bool, true, false}
use Rattle.std.specs.Prelude.{◌==◌, ◌||◌, IsTrue}
use Rattle.sqlite_disk.specs.declared.Disk.{Ghosts}
use Rattle.sqlite_disk.specs.declared.Files.{Files}
use Rattle.sqlite.specs.declared.file.Leftover.{Leftover}
use Rattle.sqlite.specs.declared.error.Error.{Error}
use Rattle.sqlite.specs.declared.error.Error.TheVariants.{SqliteFailure}
use Rattle.sqlite.specs.declared.error.ErrorCode.TheVariants.{OutOfMemory}
use Rattle.sqlite_wal.proofs.LogLemmas.{SeenMayStay}
use Rattle.sqlite_store.specs.FileStore.{recovers}
use Rattle.sqlite_store.specs.Laws.{settled_at}
use Rattle.sqlite_store.specs.declared.store.FileStore.{FileStore}
use Rattle.sqlite.specs.declared.file.Leftover.TheVariants as rest
use Rattle.sqlite.specs.Files.{file_state, AreFound, FailsToOpenFiles, Finds, LeavesFiles}
use Rattle.sqlite.specs.Held.{Held}
use Rattle.sqlite.specs.Tree.{Trees}
use Rattle.sqlite.specs.Effect.{Database}
use Rattle.sqlite.specs.State.{State, HasCleanDisk, Survives}
use Rattle.sqlite_trees.specs.View.{doubt}
use Rattle.goo_tables_accounts.specs.Changes.{begun}
use Rattle.goo_tables_rows.proofs.Committed.{holds_from}
use Rattle.goo_tables_rows.proofs.Decoded.{decoded}
use Rattle.goo_tables_rows.specs.Columns.{registry_schema}
use Rattle.goo_tables_rows.specs.Rows.{Tables}
use Rattle.goo_tables_rows.specs.Stands.{defects, AreOurs, Holds, HoldsOurs}
use Rattle.goo_spec.specs.Created.{created}
use Rattle.goo_spec_tables.specs.Kept.{AreKept}
use Rattle.goo_store.proofs.Created.{begun_kept, begun_state}
use Rattle.goo_store_opening.proofs.HeldLemmas.{held_first, version_first}
use Rattle.goo_store_opening.specs.FirstTables.{HoldsRenewed}
use Rattle.goo_store_opening.specs.Versions.{state_held}
use Rattle.goo_spec_tables.proofs.RenewedLemmas.{renewed_state}
use Rattle.goo_spec_tables.specs.Renewed.{renewed}
use Rattle.goo_store_opening.specs.Creating.{IsFirst, meta_of}
use Rattle.goo_types.specs.Day.{CalendarDay}
use Rattle.goo_spec_tables.specs.States.{state_of}
use Rattle.goo_store_judge.specs.Moments.{IsWell, OpensAs, StandFor, tables_in}
use Rattle.goo_spec.specs.State as registry
use Rattle.goo_store_open.specs.Found.{IsOutside}
use Rattle.goo_store_open.specs.declared.fault.OpenFault.{OpenFault}
use Rattle.goo_store_open.specs.declared.fault.OpenFault.TheVariants as opening
use Rattle.goo_cli_ending.specs.declared.ending.NotDone.TheVariants.{AlreadyThere}
use Rattle.goo_cli_ending.specs.declared.ending.Ending.{Ending}
use Rattle.goo_cli_ending.specs.declared.ending.Ending.TheVariants.{Denied, Failed}
use Rattle.goo_cli_ending.specs.declared.ending.Failure.{Failure}
use Rattle.goo_cli_ending.specs.declared.ending.Failure.TheVariants as failure
use Rattle.goo_cli_ending.specs.Endings.{failure_of_desk}
use Rattle.goo_types.specs.declared.fault.Fault.{Fault}
use Rattle.goo_types.specs.declared.fault.Fault.TheVariants as desk
use Rattle.goo_cli_ending.specs.Endings.{IsOfLines}
use Rattle.goo_cli_registry.specs.Openings.{ending_of_opening, failure_of_opening, IsBlamed, IsFault, IsOfOpening, IsRun}
use Rattle.goo_cli_registry.specs.Refusals.{TellsWhy}
use Rattle.goo_cli_registry.specs.Closings.{HoldRegistry, HoldState, IfRefused, IfWhole, IsClean, IsKept, IsThere, LeavesOr, LeavesRegistry, SparesOrMakes, WasRenewed}
use Rattle.goo_cli_registry.specs.declared.closing.Left.{Left}
use Rattle.goo_cli_registry.specs.declared.closing.Left.TheVariants as left

-- what corrupted nothing has no defect
pub honest : (clean : Bool) → clean ≡ true → doubt clean ≡ 0
unfolding doubt
honest true same = refl
honest false same = ap {B = ℕ} (λ (b : Bool). cond b 0 1) same

pub blamed : {D : Type 0} {g : Ghosts D} (files : Files D) (left : Leftover D g) (e : Error) → FailsToOpenFiles files left e → (e ≡ SqliteFailure OutOfMemory → ⊥) → IsBlamed files left
blamed files left e (inl memory) other = absurd (other memory)
blamed files left e (inr (inl refused)) other = inl refused.1
blamed files left e (inr (inr (inl fault))) other = inr (inl fault.1)
blamed files left e (inr (inr (inr full))) other = inr (inr full.1)

-- tables that are none of their version's, and tables of another version
not_run_either : (b : Bool) (version : ℕ) → IsRun (Failed (cond b failure.Damaged (failure.Version version))) → ⊥
not_run_either true version told = told
not_run_either false version told = told

-- no fault of opening is told as an end of lines that were answered
pub not_run : (fault : OpenFault) → IsRun (Failed (failure_of_opening fault)) → ⊥
not_run opening.Memory told = told
not_run opening.AlreadyThere told = told
not_run opening.NotARegistry told = told
not_run (opening.Version version) told = not_run_either ((version == 1) || (version == 2)) version told
not_run opening.Damaged told = told
not_run opening.Store told = told

version_word : (b : Bool) (version : ℕ) → IsOfOpening (Failed (cond b failure.Damaged (failure.Version version)))
version_word true version = tt
version_word false version = tt

-- the words of an opening
pub of_opening : (fault : OpenFault) (told : Failure) → told ≡ failure_of_opening fault → IsOfOpening (Failed told)
of_opening opening.Memory told is = subst (λ (f : Failure). IsOfOpening (Failed f)) (sym is) tt
of_opening opening.AlreadyThere told is = subst (λ (f : Failure). IsOfOpening (Failed f)) (sym is) tt
of_opening opening.NotARegistry told is = subst (λ (f : Failure). IsOfOpening (Failed f)) (sym is) tt
of_opening (opening.Version version) told is = subst (λ (f : Failure). IsOfOpening (Failed f)) (sym is) (version_word ((version == 1) || (version == 2)) version)
of_opening opening.Damaged told is = subst (λ (f : Failure). IsOfOpening (Failed f)) (sym is) tt
of_opening opening.Store told is = subst (λ (f : Failure). IsOfOpening (Failed f)) (sym is) tt

pub of_files : (fault : Fault) (told : Failure) → told ≡ failure_of_desk fault → IsOfOpening (Failed told)
of_files desk.Store told is = subst (λ (f : Failure). IsOfOpening (Failed f)) (sym is) tt
of_files desk.Memory told is = subst (λ (f : Failure). IsOfOpening (Failed f)) (sym is) tt

-- what corrupted nothing in the end corrupted nothing before
pub clean_before : (a b : Bool) → doubt a ≤ doubt b → b ≡ true → doubt a ≡ 0
clean_before a b rises clean = omega (arith, rises, honest b clean)

pub not_both : desk.Memory ≡ desk.Store → ⊥
not_both e = cc e

-- a refusal from outside is told as one
pub outside_failure : (fault : OpenFault) (told : Failure) → told ≡ failure_of_opening fault → IsOutside fault → IsFault told
outside_failure fault told is (inl store) = inl (is ∙ ap failure_of_opening store)
outside_failure fault told is (inr memory) = inr (is ∙ ap failure_of_opening memory)

pub fault_failure : (fault : Fault) (told : Failure) → told ≡ failure_of_desk fault → IsFault told
fault_failure desk.Store told is = inl is
fault_failure desk.Memory told is = inr is

-- a registry that was not made in an empty database
pub unmade_failure : (fault : OpenFault) (told : Failure) → told ≡ failure_of_opening fault → (fault ≡ opening.AlreadyThere) ⊎ IsOutside fault → IsFault told
unmade_failure fault told is (inl there) = inl (is ∙ ap failure_of_opening there)
unmade_failure fault told is (inr outside) = outside_failure fault told is outside

pub lines_of_fault : (told : Failure) → IsFault told → IsOfLines (Failed told)
lines_of_fault told (inl is) = subst (λ (f : Failure). IsOfLines (Failed f)) (sym is) tt
lines_of_fault told (inr is) = subst (λ (f : Failure). IsOfLines (Failed f)) (sym is) tt

pub opening_of_fault : (told : Failure) → IsFault told → IsOfOpening (Failed told)
opening_of_fault told (inl is) = subst (λ (f : Failure). IsOfOpening (Failed f)) (sym is) tt
opening_of_fault told (inr is) = subst (λ (f : Failure). IsOfOpening (Failed f)) (sym is) tt

-- files that could not be opened as a database
pub why_unread : {D : Type 0} {g : Ghosts D} (files : Files D) (left : Leftover D g) (fault : Fault) (told : Failure) → told ≡ failure_of_desk fault → (fault ≡ desk.Store → IsBlamed files left) → TellsWhy files left told
why_unread files left desk.Store told is blamed = inr (inl (is, blamed refl))
why_unread files left desk.Memory told is blamed = inr (inr is)

-- the word that is handed back
abbrev pub fault_in : {T A : Type 0} → OpenFault → Result T (A × OpenFault) → OpenFault
fault_in otherwise (Ok x) = otherwise
fault_in otherwise (Err e) = e.1

-- a state that files hold, told otherwise
pub whole_as : {D : Type 0} {g : Ghosts D} (rest : Left D g) (seen : State) (s t : registry.State) → (IsClean rest → HasCleanDisk seen) → (HasCleanDisk seen → s ≡ t) → IfWhole rest (λ files. HoldState g files s) → IfWhole rest (λ files. HoldState g files t)
whole_as (left.Whole files) seen s t clean same holds = λ sure. subst (HoldRegistry _ files) (same (clean sure)) (holds sure)
whole_as (left.Refused rest) seen s t clean same holds = tt
whole_as (left.Parts rest) seen s t clean same holds = tt

-- what was committed last opens as the state that is seen
pub opens_committed : (s : State) → IsWell s → defects s ≡ 0 → OpensAs s.committed.trees (Some (state_of (tables_in s)))
opens_committed s well none =
    subst (λ (d : Database). OpensAs d.trees (Some (state_of (tables_in s)))) (well.settled none) (well.ours none, (holds_from s.now (tables_in s) (well.stands none), well.kept none, refl))

-- trees that hold the tables of version 1 renewed open as the same registry
pub opens_renewed : (old : Database) (db : Trees) → HoldsRenewed old db → OpensAs db (Some (state_held old.trees))
opens_renewed old db it = (
  it.5,
  subst (λ (t : Tables). Holds t db × AreKept t × (state_held old.trees ≡ state_of t)) (sym (decoded (record { schema = registry_schema; trees = db }) (renewed it.0) it.4))
      (it.4, it.3, ap state_of (sym (held_first old it.0 it.1 it.2)) ∙ sym (renewed_state it.0 it.2)),
)

-- trees that hold the tables of a new registry stand for it
stand_begun : (code : ℕ) (today : CalendarDay) (next_serial : ℕ) → IsFirst code today next_serial → (db : Trees) → Holds (begun (meta_of code today next_serial)) db → StandFor db (created code today next_serial)
stand_begun code today next_serial it db holds =
    subst (λ (t : Tables). Holds t db × AreKept t × (created code today next_serial ≡ state_of t)) (sym (decoded (record { schema = registry_schema; trees = db }) (begun (meta_of code today next_serial)) holds))
    (holds, begun_kept code today next_serial it, sym (begun_state code today next_serial it))

pub begun_or : (code : ℕ) (today : CalendarDay) (next_serial : ℕ) → IsFirst code today next_serial → (old new : State) → Survives old new (HoldsOurs old.is_open (begun (meta_of code today next_serial)))
    → HasCleanDisk new → (db : Trees) → new.may_leave db → old.may_leave db ⊎ (StandFor db (created code today next_serial) × (IsTrue old.is_open → AreOurs db))
begun_or code today next_serial it old new survives clean db may = go (survives.crash clean db may)
  where
    go : old.may_leave db ⊎ HoldsOurs old.is_open (begun (meta_of code today next_serial)) db → old.may_leave db ⊎ (StandFor db (created code today next_serial) × (IsTrue old.is_open → AreOurs db))
    go (inl before) = inl before
    go (inr holds) = inr (stand_begun code today next_serial it db holds.0, holds.1)

-- and open as it, where they were made by a connection that was open
pub made_open : {A : Type 0} (s : registry.State) (db : Trees) (was : Bool) → IsTrue was → A ⊎ (StandFor db s × (IsTrue was → AreOurs db)) → A ⊎ OpensAs db (Some s)
made_open s db was live (inl before) = inl before
made_open s db was live (inr made) = inr (made.1 live, made.0)

module _ {D : Type 0} {g : Ghosts D} (files : Files D) where
  -- what an opened connection may leave is what it found
  found_as : SeenMayStay g → (conn : Held (FileStore D g)) → IsTrue (file_state conn).is_open → Finds files conn → (found : Trees) → recovers conn.store found
      → AreFound g files found × ((db : Trees) → Rattle.sqlite.specs.Files.HoldsDatabase (Rattle.sqlite.specs.Files.image_of g files) db → found ≡ db)
  found_as stays conn live finds found may =
      let same = settled_at conn.store stays found live may in
      (subst (AreFound g files) (sym same) finds.reads, λ db held. same ∙ finds.holds db held)

  pub leaves_store : SeenMayStay g → (conn : Held (FileStore D g)) → IsTrue (file_state conn).is_open → Finds files conn → (it : FileStore D g)
      → ((db : Trees) → recovers it db → recovers conn.store db) → LeavesFiles files (rest.Store it)
  leaves_store stays conn live finds it same = λ found may. found_as stays conn live finds found (same found may)

  -- what an opening that failed leaves: what it found, or that registry of version 1 renewed
  pub leaves_registry : SeenMayStay g → (conn : Held (FileStore D g)) → IsTrue (file_state conn).is_open → (file_state conn).now ≡ (file_state conn).committed → Finds files conn → (it : FileStore D g)
      → ((db : Trees) → recovers it db → recovers conn.store db ⊎ HoldsRenewed (file_state conn).now db) → LeavesRegistry files (rest.Store it)
  leaves_registry stays conn live settled finds it same = λ found may. go found (same found may)
    where
      go : (found : Trees) → recovers conn.store found ⊎ HoldsRenewed (file_state conn).now found → IsThere g files found ⊎ WasRenewed g files found
      go found (inl before) = inl (found_as stays conn live finds found before)
      go found (inr holds) =
          let it = subst (λ (d : Database). HoldsRenewed d found) settled holds in
          inr (record { db = (file_state conn).committed.trees; there = (finds.reads, finds.holds); first = version_first (file_state conn).committed it.0 it.1 it.2; opens = opens_renewed (file_state conn).committed found it })

  pub leaves_or_made : SeenMayStay g → (conn : Held (FileStore D g)) → IsTrue (file_state conn).is_open → Finds files conn → (s : registry.State) → (it : FileStore D g)
      → ((db : Trees) → recovers it db → recovers conn.store db ⊎ OpensAs db (Some s)) → LeavesOr files s (rest.Store it)
  leaves_or_made stays conn live finds s it same = λ found may. go found (same found may)
    where
      go : (found : Trees) → recovers conn.store found ⊎ OpensAs found (Some s) → (AreFound g files found × ((db : Trees) → Rattle.sqlite.specs.Files.HoldsDatabase (Rattle.sqlite.specs.Files.image_of g files) db → found ≡ db)) ⊎ OpensAs found (Some s)
      go found (inl before) = inl (found_as stays conn live finds found before)
      go found (inr made) = inr made

  -- what an opening that was refused before leaves
  pub leaves_same : (left : Leftover D g) → LeavesFiles files left → LeavesRegistry files left
  leaves_same (rest.Files now) leaves = leaves
  leaves_same (rest.Unopened now) leaves = leaves
  leaves_same (rest.Store now) leaves = λ found may. inl (leaves found may)

  pub leaves_or : (s : registry.State) (left : Leftover D g) → LeavesFiles files left → LeavesOr files s left
  leaves_or s (rest.Files now) leaves = leaves
  leaves_or s (rest.Unopened now) leaves = leaves
  leaves_or s (rest.Store now) leaves = λ found may. inl (leaves found may)

  pub kept_spares : (s : registry.State) (left : Left D g) → IsKept s left → SparesOrMakes files s left
  kept_spares s (left.Whole now) kept = kept
  kept_spares s (left.Refused rest) kept = absurd kept
  kept_spares s (left.Parts (rest.Files now)) kept = absurd kept
  kept_spares s (left.Parts (rest.Unopened now)) kept = absurd kept
  kept_spares s (left.Parts (rest.Store now)) kept = λ found may. inr (kept found may)

pub not_refused : {D : Type 0} {g : Ghosts D} (rest : Left D g) (holds : Leftover D g → Type 0) → IfRefused rest (λ _. ⊥) → IfRefused rest holds
not_refused (left.Whole files) holds none = tt
not_refused (left.Refused rest) holds none = absurd none
not_refused (left.Parts rest) holds none = tt

-- a registry that was not made: one is there, or a fault of the store or want of memory kept it from being made
pub unmade : (fault : OpenFault) (told : Ending) → told ≡ ending_of_opening fault → (fault ≡ opening.AlreadyThere) ⊎ IsOutside fault → (told ≡ Denied AlreadyThere) ⊎ ((told ≡ Failed failure.Store) ⊎ (told ≡ Failed failure.Memory))
unmade fault told is (inl there) = inl (is ∙ ap ending_of_opening there)
unmade fault told is (inr (inl store)) = inr (inl (is ∙ ap ending_of_opening store))
unmade fault told is (inr (inr memory)) = inr (inr (is ∙ ap ending_of_opening memory))

-- and it tells nothing else
pub only_there : (fault : OpenFault) → ending_of_opening fault ≡ Denied AlreadyThere → fault ≡ opening.AlreadyThere
only_there opening.AlreadyThere is = refl
only_there opening.Memory is = absurd cc
only_there opening.NotARegistry is = absurd cc
only_there (opening.Version version) is = absurd cc
only_there opening.Damaged is = absurd cc
only_there opening.Store is = absurd cc
