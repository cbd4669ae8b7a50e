-- Lines of runs.
use Rattle.std.specs.Prelude.{◌≡◌, ℕ, List, [], flat_map, cond}
use Rattle.goo_types.specs.declared.piece.Piece.{Piece}
use Rattle.goo_spec.specs.Lots.{is_held}
use Rattle.goo_spec.specs.State.{State}
use Rattle.goo_files_csv.specs.Holdings.{holding_row}
use Rattle.goo_files_documents.specs.Counts.{counts_of}
use Rattle.goo_files_documents.specs.Runs.{statement_line}
use Rattle.goo_files_documents.specs.declared.counts.Counts.{Counts}
use Rattle.goo_files.specs.Texts.{AreRunsNaming}
use Rattle.goo_files.specs.declared.text_fault.ShowFault.{ShowFault}
use Rattle.goo_files.specs.declared.text_fault.ShowFault.TheVariants.{NotAllowed, Unknown, Write, Store, Memory}

-- a line for each of an account's runs, and what these sum up to
pub record AreLines {T : Type 0} (line : Piece → List ℕ) (sum : List Piece → T) (s : State) (account : ℕ) (total : T) (text : List ℕ) : Type 0 where
  pub runs : List Piece
  pub are_runs : AreRunsNaming s account runs
  pub is : text ≡ flat_map line runs
  pub summed : total ≡ sum runs

-- the lines of a statement, and how many certificates they count
abbrev pub AreRunLines : State → ℕ → Counts → List ℕ → Type 0
AreRunLines s account counts text = AreLines statement_line counts_of s account counts text

-- the row of a run that is held; another has none
abbrev pub held_row : Piece → List ℕ
held_row p = cond (is_held p.place) (holding_row p) []

abbrev pub no_sum : List Piece → Unit {0}
no_sum runs = tt

-- the rows of the runs that are held
abbrev pub AreHeldRows : State → ℕ → Unit {0} → List ℕ → Type 0
AreHeldRows s account u text = AreLines held_row no_sum s account u text

-- a row wasn't written
abbrev pub IsRowFault : ShowFault → Type 0
IsRowFault NotAllowed = ⊥
IsRowFault Unknown = ⊥
IsRowFault Write = Unit {0}
IsRowFault Store = ⊥
IsRowFault Memory = Unit {0}
