-- What the second run begins with, by what the first one left.
use Rattle.std.proofs.Common.{◌≡◌, ◌∙◌, ◌⊎◌, Some, sym, ap, subst, inl, inr}
use Rattle.std.proofs.Math.Logic.{∥∥₁_map}
use Rattle.sqlite_disk.specs.declared.Disk.{Ghosts}
use Rattle.sqlite.specs.Files.{HoldsDatabase}
use Rattle.sqlite.specs.Tree.{Trees}
use Rattle.sqlite.specs.declared.file.Leftover.TheVariants as rest
use Rattle.sqlite_wal.specs.Recovery.{Image}
use Rattle.goo_spec.specs.State.{State}
use Rattle.goo_store_judge.specs.Holding.{opens_so}
use Rattle.goo_store_judge.specs.Moments.{OpensAs, OpensAsEither}
use Rattle.goo_store_opening.specs.Versions.{state_held}
use Rattle.goo_cli_registry.specs.Closings.{IsClean}
use Rattle.goo_cli_registry.specs.Durable.{IfOpened, IsInFile, MayOpen}
use Rattle.goo_cli_registry.specs.declared.closing.Left.{Left}
use Rattle.goo_cli_registry.specs.declared.closing.Left.TheVariants as left
use Rattle.goo_cli_twice.specs.Twice.{AreLeft, BeginsOver, TwoRuns, TwoTables}
use Rattle.goo_cli_twice.proofs.LinesOn as lines
use Rattle.goo_cli_twice.proofs.TablesOn as tables

-- a database among those that the files may hold, which opens as one of two states and as nothing else
abbrev Holds : Image → State → State → Type 0
Holds image s t = (db : Trees) × HoldsDatabase image db × OpensAsEither db s t

-- trees that open as a state open as nothing else
opens_only : (db : Trees) (s t : State) → OpensAs db (Some s) → OpensAsEither db s t
opens_only db s t is o opens = inl (opens_so db o is.0 is.1.0 is.1.1 opens ∙ ap Some (sym is.1.2))

of_whole : (image : Image) (db : Trees) (s t : State) → OpensAs db (Some s) → ∥ HoldsDatabase image db ∥₁ → ∥ Holds image s t ∥₁
of_whole image db s t is held = ∥∥₁_map held (λ holds. let found : Holds image s t = (db, holds, opens_only db s t is) in found)

module _ {D : Type 0} {g : Ghosts D} where
  pub found_left : (one : Left D g) (image : Image) (s t : State) → IsClean one → MayOpen one s t → AreLeft one image → ∥ Holds image s t ∥₁
  found_left (left.Whole files) image s t clean may (inl out) = let it = may clean in of_whole image it.db s t it.opens (it.left image out).both
  found_left (left.Whole files) image s t clean may (inr (before, out, is)) =
      let it = may clean in
      of_whole image it.db s t it.opens (subst (λ (i : Image). ∥ HoldsDatabase i it.db ∥₁) (sym is) (it.left before out).alone)
  found_left (left.Refused (rest.Files files)) image s t clean may left = absurd left
  found_left (left.Refused (rest.Unopened files)) image s t clean may left = absurd left
  found_left (left.Refused (rest.Store it)) image s t clean may left = absurd left
  found_left (left.Parts (rest.Files files)) image s t clean may left = absurd left
  found_left (left.Parts (rest.Unopened files)) image s t clean may left = absurd left
  found_left (left.Parts (rest.Store it)) image s t clean may left = ∥∥₁_map left (λ some. let found : Holds image s t = (some.0, some.2, may some.0 some.1) in found)

  -- what is so of each database that may be there is so where a registry was opened
  pub opened_so : (two : Left D g) (image : Image) (s t : State) (Runs : State → Type 0) (Goes : Type 0) → ∥ Holds image s t ∥₁ → BeginsOver image two → ((db : Trees) → HoldsDatabase image db → IfOpened two (Runs (state_held db)))
      → ((middle : State) → (middle ≡ s) ⊎ (middle ≡ t) → Runs middle → Goes) → IfOpened two ∥ Goes ∥₁
  opened_so (left.Whole files) image s t Runs Goes found begins runs on = ∥∥₁_map found (λ it. on (state_held it.0) ((begins it.0 it.1).again s t it.2) (runs it.0 it.1))
  opened_so (left.Refused rest) image s t Runs Goes found begins runs on = tt
  opened_so (left.Parts rest) image s t Runs Goes found begins runs on = ∥∥₁_map found (λ it. on (state_held it.0) ((begins it.0 it.1).again s t it.2) (runs it.0 it.1))

module _ {D E : Type 0} (g : Ghosts D) (h : Ghosts E) where
  pub two_runs : TwoRuns g h
  two_runs old one two image told_one told_two had_one has_one had_two has_two before_one after_one before_two after_two clean first are begins runs =
      opened_so two image _ _ _ _ (found_left one image _ _ clean first.found are) begins runs
      (λ middle is second. lines.goes_on old first.done first.left told_two had_two has_two (IsInFile two) (MayOpen two) before_two after_two middle is second)

  pub two_tables : TwoTables g h
  two_tables old one two image told_one told_two had_one has_one had_two has_two before_one after_one before_two after_two clean first are begins runs =
      opened_so two image _ _ _ _ (found_left one image _ _ clean first.found are) begins runs
      (λ middle is second. tables.goes_on old first.rows first.upto told_two had_two has_two (IsInFile two) (MayOpen two) before_two after_two middle is second)
