-- What the next opening finds of a registry that was closed.
use Rattle.std.proofs.Common.{◌≡◌, ◌⊎◌, subst, ℕ, List, Option, Some}
use Rattle.std.specs.Prelude.{⊤}
use Rattle.sqlite_disk.specs.declared.Disk.{Ghosts}
use Rattle.sqlite_wal.specs.Reads.{AreClean}
use Rattle.sqlite.specs.declared.file.Leftover.TheVariants as rest
use Rattle.sqlite.specs.Tree.{Trees}
use Rattle.goo_spec.specs.State.{State}
use Rattle.goo_store_judge.specs.Moments.{OpensAsEither}
use Rattle.goo_store_opening.specs.Versions.{state_held}
use Rattle.goo_spec.specs.Sound.{IsSound}
use Rattle.goo_core_shelf.specs.Desk.{Seen}
use Rattle.goo_core_shelf.specs.Shelf.{Moment}
use Rattle.goo_registry.specs.Desks.{seen_of}
use Rattle.goo_cli_ending.specs.Runs.{HasState, MayFind, RunsInput}
use Rattle.goo_cli_ending.specs.declared.ending.Ending.{Ending}
use Rattle.goo_cli_ending.specs.declared.ending.Ending.TheVariants as ending
use Rattle.goo_cli_ending.specs.declared.ending.Failure.{Failure}
use Rattle.goo_cli_ending.specs.declared.ending.Failure.TheVariants as failure
use Rattle.goo_cli_registry.specs.Closings.{HoldRegistry, HoldState, IfWhole}
use Rattle.goo_cli_registry.specs.Durable.{FindsOneOf, IfOpened, IsInFile, MayOpen}
use Rattle.goo_cli_registry.specs.Finds.{Begins, FindsRight, IfParts}
use Rattle.goo_cli_registry.specs.declared.closing.Left.{Left}
use Rattle.goo_cli_registry.specs.declared.closing.Left.TheVariants as left

-- what is told of the state is so where there is no defect
pub sure_state : (told : Ending) (new : Seen) (s : State) → HasState told new s → new.defects ≡ 0 → new.state ≡ s
sure_state ending.Done new s is none = is
sure_state ending.PartlyDone new s is none = is
sure_state (ending.Denied denial) new s is none = is
sure_state (ending.Words error) new s is none = is
sure_state (ending.Misused reason) new s is none = is
sure_state (ending.Failed failure.Store) new s is none = is none
sure_state (ending.Failed failure.Memory) new s is none = is none
sure_state (ending.Failed failure.Read) new s is none = is
sure_state (ending.Failed failure.Write) new s is none = is
sure_state (ending.Failed failure.NotARegistry) new s is none = is
sure_state (ending.Failed (failure.Version version)) new s is none = is
sure_state (ending.Failed failure.Damaged) new s is none = is

-- the state that a shelf was opened with
pub begun : (db : Trees) (seen : State) → seen ≡ state_held db → IsSound seen → ((s t : State) → OpensAsEither db s t → (seen ≡ s) ⊎ (seen ≡ t)) → Begins db
begun db seen same sound again = record {
  sound = subst (λ (s : State). IsSound s) same sound;
  again = λ s t either. subst (λ (u : State). (u ≡ s) ⊎ (u ≡ t)) same (again s t either);
}

module _ {D : Type 0} {g : Ghosts D} where
  pub opened : (rest : Left D g) (Holds : Type 0) → Holds → IfOpened rest Holds
  opened (left.Whole files) Holds holds = holds
  opened (left.Refused rest) Holds holds = tt
  opened (left.Parts rest) Holds holds = holds

  -- what was copied into the database file has no defect
  pub in_file : (of : Left D g) (new : Moment) (t : State) → (new.defects ≡ 0 → new.state ≡ t) → IfWhole of (λ files. HoldState g files new.state) → IfWhole of (λ files. AreClean g files.log files.db → new.defects ≡ 0) → IsInFile of t
  in_file (left.Whole files) new t same holds sure = λ clean. subst (HoldRegistry g files) (same (sure clean)) (holds clean)
  in_file (left.Refused rest) new t same holds sure = tt
  in_file (left.Parts rest) new t same holds sure = tt

  -- what a crash finds of the shelf, the next opening finds of what is left of its files
  pub one_of : (of : Left D g) (s t : State) (new : Moment) → (new.defects ≡ 0 → new.state ≡ s) → ((o : Option State) → new.leaves o → (o ≡ Some s) ⊎ (o ≡ Some t))
      → IfWhole of (λ files. HoldState g files new.state) → IfWhole of (λ files. AreClean g files.log files.db → new.defects ≡ 0) → IfParts of (FindsRight new.leaves) → FindsOneOf s t of
  one_of (left.Whole files) s t new same either whole sure parts = λ clean. subst (HoldRegistry g files) (same (sure clean)) (whole clean)
  one_of (left.Refused rest) s t new same either whole sure parts = tt
  one_of (left.Parts (rest.Files files)) s t new same either whole sure parts = parts
  one_of (left.Parts (rest.Unopened files)) s t new same either whole sure parts = parts
  one_of (left.Parts (rest.Store it)) s t new same either whole sure parts = λ db may o opens. either o (parts db may o opens)

  -- what a desk over the files says of lines, said of the files
  pub runs_in : (of : Left D g) (told : Ending) (old new : Moment) (had has before after : Option (List ℕ)) → RunsInput told old.state had has (HasState told (seen_of new)) (MayFind (seen_of old) new.leaves) before after → old.defects ≡ 0
      → IfWhole of (λ files. HoldState g files new.state) → IfWhole of (λ files. AreClean g files.log files.db → new.defects ≡ 0) → IfParts of (FindsRight new.leaves) → RunsInput told old.state had has (IsInFile of) (MayOpen of) before after
  runs_in of told old new had has before after it none whole sure parts = record {
    input = it.input;
    given = it.given;
    done = it.done;
    left = it.left;
    lines = it.lines;
    all = it.all;
    tells = it.tells;
    written = it.written;
    holds = in_file of new _ (sure_state told (seen_of new) _ it.holds) whole sure;
    promised = it.promised;
    found = one_of of _ _ new (sure_state told (seen_of new) _ it.holds) (it.found none) whole sure parts;
  }

-- a registry in memory is gone then
pub runs_as : (told : Ending) (old : State) (had has before after : Option (List ℕ)) (Holds Told : State → Type 0) (Finds Found : State → State → Type 0) → ((s : State) → Holds s → Told s) → ((s t : State) → Finds s t → Found s t)
    → RunsInput told old had has Holds Finds before after → RunsInput told old had has Told Found before after
runs_as told old had has before after Holds Told Finds Found holds finds it = record {
  input = it.input;
  given = it.given;
  done = it.done;
  left = it.left;
  lines = it.lines;
  all = it.all;
  tells = it.tells;
  written = it.written;
  holds = holds _ it.holds;
  promised = it.promised;
  found = finds _ _ it.found;
}

-- from the state that the files held, where a registry was opened
pub runs_from : {D : Type 0} {g : Ghosts D} (of : Left D g) (told : Ending) (old new : Moment) (begun : State) (had has before after : Option (List ℕ)) → old.state ≡ begun → RunsInput told old.state had has (HasState told (seen_of new)) (MayFind (seen_of old) new.leaves) before after
    → old.defects ≡ 0 → IfWhole of (λ files. HoldState g files new.state) → IfWhole of (λ files. AreClean g files.log files.db → new.defects ≡ 0) → IfParts of (FindsRight new.leaves) → IfOpened of (RunsInput told begun had has (IsInFile of) (MayOpen of) before after)
runs_from of told old new begun had has before after same it none whole sure parts =
    opened of _ (subst (λ (s : State). RunsInput told s had has (IsInFile of) (MayOpen of) before after) same (runs_in of told old new had has before after it none whole sure parts))

-- and from the state that a registry in memory began with
pub runs_begun : (told : Ending) (old begun : State) (had has before after : Option (List ℕ)) (Holds : State → Type 0) (Finds : State → State → Type 0) → old ≡ begun → RunsInput told old had has Holds Finds before after → RunsInput told begun had has (λ _. ⊤) (λ _ _. ⊤) before after
runs_begun told old begun had has before after Holds Finds same it =
    subst (λ (s : State). RunsInput told s had has (λ _. ⊤) (λ _ _. ⊤) before after) same (runs_as told old had has before after Holds (λ _. ⊤) Finds (λ _ _. ⊤) (λ s holds. tt) (λ s t finds. tt) it)
