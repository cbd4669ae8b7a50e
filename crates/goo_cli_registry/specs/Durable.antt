-- What a command over files leaves, by whether its registry was opened and its log copied.
use Rattle.std.specs.Prelude.{◌≡◌, ◌⊎◌, ℕ, List, Option, Some}
use Rattle.std.specs.Io.KnownBytes.{Keeps}
use Rattle.sqlite_disk.specs.declared.Disk.{Ghosts}
use Rattle.goo_spec.specs.State.{State}
use Rattle.goo_cli_ending.specs.declared.ending.Ending.{Ending}
use Rattle.goo_cli_registry.specs.Closings.{HoldState, IfWhole}
use Rattle.goo_cli_registry.specs.Finds.{FindsRight}
use Rattle.goo_cli_registry.specs.Openings.{IsOfOpening}
use Rattle.goo_cli_registry.specs.declared.closing.Left.{Left}
use Rattle.goo_cli_registry.specs.declared.closing.Left.TheVariants as left

module _ {D : Type 0} {g : Ghosts D} where
  -- where a registry was opened
  abbrev pub IfOpened : Left D g → Type 0 → Type 0
  IfOpened (left.Whole files) holds = holds
  IfOpened (left.Refused rest) holds = Unit {0}
  IfOpened (left.Parts rest) holds = holds

  -- where the log was copied, the database file alone holds this state, after a crash too
  abbrev pub IsInFile : Left D g → State → Type 0
  IsInFile rest s = IfWhole rest (λ files. HoldState g files s)

  -- after a crash the next opening finds the first of two states, where the log was copied, and else the one or the other
  abbrev pub FindsOneOf : State → State → Left D g → Type 0
  FindsOneOf s t (left.Whole files) = HoldState g files s
  FindsOneOf s t (left.Refused rest) = Unit {0}
  FindsOneOf s t (left.Parts rest) = FindsRight (λ found. (found ≡ Some s) ⊎ (found ≡ Some t)) rest

  abbrev pub MayOpen : Left D g → State → State → Type 0
  MayOpen rest s t = FindsOneOf s t rest

-- no registry was opened, for a reason that is told, and nothing was written
pub record IsUnopened (told : Ending) (had has : Option (List ℕ)) : Type 0 where
  pub word : IsOfOpening told
  pub silent : Keeps had has

-- nor was anything read
pub record IsUnbegun (told : Ending) (had has before after : Option (List ℕ)) : Type 0 where
  pub unopened : IsUnopened told had has
  pub unread : Keeps before after
