-- What the next opening finds of a registry whose log was not copied.
use Rattle.std.specs.Prelude.{◌≡◌, ◌⊎◌, Option, Some}
use Rattle.sqlite_disk.specs.declared.Disk.{Ghosts}
use Rattle.sqlite_store.specs.FileStore.{recovers}
use Rattle.sqlite.specs.Tree.{Trees}
use Rattle.sqlite.specs.declared.file.Leftover.{Leftover}
use Rattle.sqlite.specs.declared.file.Leftover.TheVariants as rest
use Rattle.goo_spec.specs.Sound.{IsSound}
use Rattle.goo_spec.specs.State.{State}
use Rattle.goo_store_judge.specs.Moments.{OpensAs, OpensAsEither}
use Rattle.goo_store_opening.specs.Versions.{state_held}
use Rattle.goo_cli_registry.specs.Closings.{HoldState}
use Rattle.goo_cli_registry.specs.declared.closing.Left.{Left}
use Rattle.goo_cli_registry.specs.declared.closing.Left.TheVariants as left

-- The state that a registry begins with is sound. Where the trees open as one of two states and as nothing else, it is one of these, as it
-- is behind a crash.
pub record Begins (db : Trees) : Type 0 where
  pub sound : IsSound (state_held db)
  pub again : (s t : State) → OpensAsEither db s t → (state_held db ≡ s) ⊎ (state_held db ≡ t)

module _ {D : Type 0} {g : Ghosts D} where
  -- whatever a crash leaves of the log and the file, what the next opening finds is right: a registry of some state, or none
  abbrev pub FindsRight : (Option State → Type 0) → Leftover D g → Type 0
  FindsRight right (rest.Files files) = ⊥
  FindsRight right (rest.Unopened files) = ⊥
  FindsRight right (rest.Store it) = (db : Trees) → recovers it db → (found : Option State) → OpensAs db found → right found

  -- where a registry was opened and its log was not copied
  abbrev pub IfParts : Left D g → (Leftover D g → Type 0) → Type 0
  IfParts (left.Whole files) holds = Unit {0}
  IfParts (left.Refused rest) holds = Unit {0}
  IfParts (left.Parts rest) holds = holds rest

  -- where a registry was opened, it has this state: the database file alone holds it, or the next opening finds it and nothing else
  abbrev pub HasState : State → Left D g → Type 0
  HasState s (left.Whole files) = HoldState g files s
  HasState s (left.Refused rest) = Unit {0}
  HasState s (left.Parts rest) = FindsRight (λ found. found ≡ Some s) rest
