-- The records of a CSV input.
use Rattle.std.specs.Prelude.{◌≡◌, ◌≢◌, ◌⊎◌, ℕ, List, [], ◌∷◌}
use Rattle.csv.specs.Reading.{AreRecords, Reached, default_config, strip_bom}
use Rattle.csv.specs.declared.parser.State.{State}
use Rattle.csv.specs.declared.parser.State.TheVariants as st
use Rattle.goo_files_csv.specs.Rows.{header}

-- all records of an input, in the default dialect and after one byte order mark
abbrev pub IsTable : List ℕ → List (List (List ℕ)) → Type 0
IsTable input records = AreRecords default_config st.StartRecord (strip_bom input) records

-- its first records
abbrev pub BeginsTable : List ℕ → List (List (List ℕ)) → Type 0
BeginsTable input records = (after : State) × (left : List ℕ) × Reached default_config st.StartRecord (strip_bom input) records after left

-- the first record isn't the header, or there is none
abbrev pub LacksHeader : List ℕ → Type 0
LacksHeader input = IsTable input [] ⊎ ((first : List (List ℕ)) × BeginsTable input (first ∷ []) × (first ≢ header))

-- all rows of an input, after the header
abbrev pub AreRows : List ℕ → List (List (List ℕ)) → Type 0
AreRows input rows = IsTable input (header ∷ rows)

-- its first rows, which are none where the header wasn't read
abbrev pub AreFirstRows : List ℕ → List (List (List ℕ)) → Type 0
AreFirstRows input rows = (rows ≡ []) ⊎ BeginsTable input (header ∷ rows)
