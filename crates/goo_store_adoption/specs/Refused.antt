-- Why tables in another form are not taken over.
use Rattle.std.specs.Prelude.{◌≡◌, ◌⊎◌, ℕ, List}
use Rattle.std.specs.List.{AllZip}
use Rattle.sqlite.specs.Effect.{Database}
use Rattle.sqlite.specs.Order.{Row}
use Rattle.goo_tables_rows.specs.Reads.{numbered_meta_reads}
use Rattle.goo_tables_rows.specs.declared.meta.MetaRow.{MetaRow}
use Rattle.goo_tables_rows.specs.declared.numbered_meta.NumberedMeta.{NumberedMeta}
use Rattle.goo_store_open.specs.Found.{IsOutside}
use Rattle.goo_store_open.specs.declared.fault.OpenFault.{OpenFault}
use Rattle.goo_store_open.specs.declared.fault.OpenFault.TheVariants.{AlreadyThere, NotARegistry, Version, Damaged, Store, Memory}
use Rattle.goo_store_anew.specs.Answered.{rows_at, Lacks, Shows}
use Rattle.goo_store_anew.specs.declared.answers.Answer.{Answer}
use Rattle.goo_store_adoption.specs.Judged.{IsOnlyRow}
use Rattle.goo_store_adoption.specs.Taken.{LessStatistics}

-- the tables are damaged, or a word from outside
abbrev pub IsBroken : OpenFault → Type 0
IsBroken f = IsOutside f ⊎ (f ≡ Damaged)

-- rows that read as rows of `meta`, but not as one under the number 1
abbrev pub HaveNoOnly : List Row → Type 0
HaveNoOnly rows = (read : List NumberedMeta) × AllZip numbered_meta_reads rows read × ((m : MetaRow) → ¬ IsOnlyRow read m)

-- why no row of `meta` was read of what was answered
abbrev pub IsMetaWord : List Answer → OpenFault → Type 0
IsMetaWord answers f = IsBroken f ⊎ ((f ≡ NotARegistry) × HaveNoOnly (rows_at answers 0))

-- the only row of `meta` tells this version
abbrev pub TellVersion : List Row → ℕ → Type 0
TellVersion rows version = (read : List NumberedMeta) × AllZip numbered_meta_reads rows read × (m : MetaRow) × IsOnlyRow read m × (m.version ≡ version)

-- The word for tables whose rows of `meta` are these: `NotARegistry` where they are not one, under the number 1; `Version` where that row tells
-- another version than the two that are read here.
abbrev pub RowsTell : List Row → OpenFault → Type 0
RowsTell rows AlreadyThere = ⊥
RowsTell rows NotARegistry = HaveNoOnly rows
RowsTell rows (Version version) = TellVersion rows version × (¬ (version ≡ 1)) × (¬ (version ≡ 2))
RowsTell rows Damaged = Unit {0}
RowsTell rows Store = Unit {0}
RowsTell rows Memory = Unit {0}

-- the table `meta` has its columns
abbrev pub HasMeta : Database → Type 0
HasMeta db = (rows : List Row) × Shows db 0 rows

-- The word for tables in another form: `NotARegistry` where there is no table `meta` with its columns, one from outside, or what the rows of
-- `meta` tell. So other tables than a registry's are never called damaged, nor of a version.
abbrev pub TellsForm : Database → OpenFault → Type 0
TellsForm db f = ((f ≡ NotARegistry) × Lacks db 0) ⊎ (IsOutside f ⊎ ((rows : List Row) × Shows db 0 rows × RowsTell rows f))

-- that of a database, or of the same without the tables that ANALYZE makes
abbrev pub TellsFormOf : Database → OpenFault → Type 0
TellsFormOf db fault = TellsForm db fault ⊎ ((less : Database) × LessStatistics db less.trees × TellsForm less fault)
