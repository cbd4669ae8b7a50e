-- What the next opening finds, by what a crash might have left.
use Rattle.std.proofs.Common.{◌≡◌, ◌∙◌, Option, Some, ap, sym}
use Rattle.sqlite_disk.specs.declared.Disk.{Ghosts}
use Rattle.sqlite.specs.declared.file.Leftover.{Leftover}
use Rattle.sqlite.specs.declared.file.Leftover.TheVariants as rest
use Rattle.goo_spec.specs.State.{State}
use Rattle.goo_store_judge.specs.Holding.{opens_so}
use Rattle.goo_cli_registry.specs.Closings.{HoldState, IfWhole, IsKept}
use Rattle.goo_cli_registry.specs.Finds.{FindsRight, HasState, IfParts}
use Rattle.goo_cli_registry.specs.declared.closing.Left.{Left}
use Rattle.goo_cli_registry.specs.declared.closing.Left.TheVariants as left

module _ {D : Type 0} {g : Ghosts D} (may right : Option State → Type 0) (so : (found : Option State) → may found → right found) where
  finds_so : (rest : Leftover D g) → FindsRight may rest → FindsRight right rest
  finds_so (rest.Files files) finds = finds
  finds_so (rest.Unopened files) finds = finds
  finds_so (rest.Store it) finds = λ db recovered found opens. so found (finds db recovered found opens)

  -- what is so of all that a crash might have left is so of what the next opening finds
  pub parts_so : (rest : Left D g) → IfParts rest (FindsRight may) → IfParts rest (FindsRight right)
  parts_so (left.Whole files) finds = tt
  parts_so (left.Refused rest) finds = tt
  parts_so (left.Parts rest) finds = finds_so rest finds

-- a registry whose state is known, whether or not its log was copied
pub has_state : {D : Type 0} {g : Ghosts D} (rest : Left D g) (s : State) → IfWhole rest (λ files. HoldState g files s) → IfParts rest (FindsRight (λ found. found ≡ Some s)) → HasState s rest
has_state (left.Whole files) s whole parts = whole
has_state (left.Refused rest) s whole parts = tt
has_state (left.Parts rest) s whole parts = parts

-- a state that is kept is found, and nothing else
pub kept_has : {D : Type 0} {g : Ghosts D} (rest : Left D g) (s : State) → IsKept s rest → HasState s rest
kept_has (left.Whole files) s kept = kept
kept_has (left.Refused rest) s kept = tt
kept_has (left.Parts (rest.Files files)) s kept = kept
kept_has (left.Parts (rest.Unopened files)) s kept = kept
kept_has (left.Parts (rest.Store it)) s kept = λ db recovered found opens. let it = kept db recovered in opens_so db found it.0 it.1.0 it.1.1 opens ∙ ap Some (sym it.1.2)
