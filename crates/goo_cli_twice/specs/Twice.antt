-- Two runs over files, one after the other.
use Rattle.std.specs.Prelude.{◌≡◌, ◌⊎◌, ℕ, List, [], Option}
use Rattle.sqlite_disk.specs.declared.Disk.{Ghosts}
use Rattle.sqlite.specs.Files.{HoldsDatabase}
use Rattle.sqlite.specs.Tree.{Trees}
use Rattle.sqlite.specs.declared.file.Leftover.TheVariants as rest
use Rattle.sqlite_store.specs.FileStore.{recovers}
use Rattle.sqlite_wal.specs.Files.{outcomes}
use Rattle.sqlite_wal.specs.Recovery.{Image}
use Rattle.goo_spec.specs.State.{State}
use Rattle.goo_store_opening.specs.Versions.{state_held}
use Rattle.goo_cli_ending.specs.Runs.{RunsInput}
use Rattle.goo_cli_ending.specs.declared.ending.Ending.{Ending}
use Rattle.goo_cli_registry.specs.Closings.{IsClean}
use Rattle.goo_cli_registry.specs.Durable.{IfOpened, IsInFile, MayOpen}
use Rattle.goo_cli_registry.specs.Finds.{Begins}
use Rattle.goo_cli_registry.specs.declared.closing.Left.{Left}
use Rattle.goo_cli_registry.specs.declared.closing.Left.TheVariants as left
use Rattle.goo_cli_texts.specs.Declaring.{DeclaresRows}
use Rattle.goo_cli_twice.specs.Lines as lines
use Rattle.goo_cli_twice.specs.Tables as tables

module _ {D : Type 0} {g : Ghosts D} where
  -- The next run's files hold what a crash, or none, may leave of this run's. Where the log was copied, it may be there or not. Where it was not
  -- copied, the files hold a database that the store may recover.
  abbrev pub AreLeft : Left D g → Image → Type 0
  AreLeft (left.Whole files) image = outcomes g files.log files.db image ⊎ ((before : Image) × outcomes g files.log files.db before × (image ≡ record before { log = [] }))
  AreLeft (left.Refused (rest.Files files)) image = ⊥
  AreLeft (left.Refused (rest.Unopened files)) image = ⊥
  AreLeft (left.Refused (rest.Store it)) image = ⊥
  AreLeft (left.Parts (rest.Files files)) image = ⊥
  AreLeft (left.Parts (rest.Unopened files)) image = ⊥
  AreLeft (left.Parts (rest.Store it)) image = ∥ ((db : Trees) × recovers it db × HoldsDatabase image db) ∥₁

  -- a registry is opened over these files, whatever database they hold
  abbrev pub BeginsOver : Image → Left D g → Type 0
  BeginsOver image of = (db : Trees) → HoldsDatabase image db → IfOpened of (Begins db)

module _ {D E : Type 0} (g : Ghosts D) (h : Ghosts E) where
  -- two runs of lines, the first of which opened a registry. The premises are clauses of `run_in_files`
  abbrev pub TwoRuns : Type 0
  TwoRuns =
      (old : State) (one : Left D g) (two : Left E h) (image : Image) (told_one told_two : Ending) (had_one has_one had_two has_two before_one after_one before_two after_two : Option (List ℕ))
      → IsClean one → (first : RunsInput told_one old had_one has_one (IsInFile one) (MayOpen one) before_one after_one)
      → AreLeft one image → BeginsOver image two
      → ((db : Trees) → HoldsDatabase image db → IfOpened two (RunsInput told_two (state_held db) had_two has_two (IsInFile two) (MayOpen two) before_two after_two))
      → IfOpened two ∥ lines.GoesOn old first.done first.left told_two had_two has_two (IsInFile two) (MayOpen two) before_two after_two ∥₁

  -- the same of two tables. The premises are clauses of `declare_in_files`
  abbrev pub TwoTables : Type 0
  TwoTables =
      (old : State) (one : Left D g) (two : Left E h) (image : Image) (told_one told_two : Ending) (had_one has_one had_two has_two before_one after_one before_two after_two : Option (List ℕ))
      → IsClean one → (first : DeclaresRows told_one old had_one has_one (IsInFile one) (MayOpen one) before_one after_one)
      → AreLeft one image → BeginsOver image two
      → ((db : Trees) → HoldsDatabase image db → IfOpened two (DeclaresRows told_two (state_held db) had_two has_two (IsInFile two) (MayOpen two) before_two after_two))
      → IfOpened two ∥ tables.GoesOn old first.rows first.upto told_two had_two has_two (IsInFile two) (MayOpen two) before_two after_two ∥₁
