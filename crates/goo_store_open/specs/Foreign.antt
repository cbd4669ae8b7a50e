-- What is said of a database whose tables aren't those of a registry.
use Rattle.std.specs.Prelude.{◌≡◌, ◌⊎◌, ◌≤◌, ◌==◌, if◌then◌else◌, ℕ, pos, List, [], ◌∷◌, length, codes}
use Rattle.std.specs.List.{AllByRecursion}
use Rattle.sqlite.specs.declared.types.Value.TheVariants.{Int}
use Rattle.sqlite.specs.declared.error.Error.{Error}
use Rattle.sqlite.specs.Order.{Row, column}
use Rattle.sqlite.specs.Schema.{Schema}
use Rattle.sqlite.specs.State.{State, Shown, FailsToQuery}
use Rattle.sqlite.specs.Table.{Table}
use Rattle.goo_tables_rows.specs.Columns.{meta}
use Rattle.goo_tables_rows.specs.Readable.{IsSmall}
use Rattle.goo_store_open.specs.Found.{IsOutside, word_of}
use Rattle.goo_store_open.specs.declared.fault.OpenFault.{OpenFault}
use Rattle.goo_store_open.specs.declared.fault.OpenFault.TheVariants.{NotARegistry, Version, Damaged, Memory}

-- a table `meta` with the columns of a registry's, in whatever tree
abbrev pub IsMeta : Table → Type 0
IsMeta table = table ≡ record meta { tree = table.tree }

abbrev pub LacksMeta : Schema → Type 0
LacksMeta schema = AllByRecursion (λ (table : Table). ¬ IsMeta table) schema.tables

-- the question for the version of a registry
abbrev pub version_text : List ℕ
version_text = codes "SELECT version FROM meta WHERE id = 1"

abbrev pub version_readable : Row → Type 0
version_readable r = (1 ≤ length r) × IsSmall (column r 0)

-- the word for other tables than those of version 2, where their row tells this version
abbrev pub version_word : ℕ → OpenFault
version_word version = if version == 2 then Damaged else Version version

-- The word for the rows that answer the question: `NotARegistry` for none, `Damaged` where the first tells no version.
abbrev pub IsRowWord : List Row → OpenFault → Type 0
IsRowWord [] f = f ≡ NotARegistry
IsRowWord (row ∷ rows) f =
    (f ≡ Memory) ⊎ (((version : ℕ) × (column row 0 ≡ Int (pos version)) × (f ≡ version_word version)) ⊎ ((f ≡ Damaged) × ¬ version_readable row))

-- the word for what the tables tell of their version, or for the error of the question
abbrev pub TellsVersion : State → State → OpenFault → Type 0
TellsVersion old new f =
    ((rows : List Row) × Shown version_text [] old new rows × IsRowWord rows f)
    ⊎ ((e : Error) × FailsToQuery version_text [] old new e × (f ≡ word_of Damaged e))

-- a word for tables that aren't a registry's: never that they are there, or of version 2
abbrev pub IsForeignWord : OpenFault → Type 0
IsForeignWord f = IsOutside f ⊎ ((f ≡ NotARegistry) ⊎ ((f ≡ Damaged) ⊎ ((version : ℕ) × (f ≡ Version version) × ¬ (version ≡ 2))))
