-- What a crash finds of an import.
use Rattle.std.proofs.Common.{◌≡◌, ◌⊎◌, ◌∷◌, ◌++◌, [], ℕ, List, Option, Some, Result, inl, inr, refl, subst, sym}
use Rattle.goo_spec.specs.State.{State}
use Rattle.goo_core_shelf.specs.Desk.{Seen}
use Rattle.goo_files_import.specs.Runs.{AreUpTo, ImportsFirst}
use Rattle.goo_files_import.specs.declared.cause.ImportFault.{ImportFault}
use Rattle.goo_files_import.specs.declared.report.Report.{Report}
use Rattle.goo_files_import.specs.Import.{importing}
use Rattle.goo_files_import.specs.Table.{AreFirstRows}
use Rattle.goo_desk_backend.specs.Durable.{FindsAmong}
use Rattle.goo_desk_backend.specs.Showing.{begun_by}

abbrev Rows : Type 0
Rows = List (List (List ℕ))

upto_first : (input : List ℕ) (rows upto : Rows) → AreFirstRows input rows → (upto ≡ rows) ⊎ ((row : List (List ℕ)) × (upto ≡ rows ++ row ∷ []) × AreFirstRows input upto) → AreFirstRows input upto
upto_first input rows upto first (inl same) = subst (AreFirstRows input) (sym same) first
upto_first input rows upto first (inr (row, is, more)) = more

one_of : (caller input : List ℕ) (old : State) (rows upto : Rows) → AreUpTo input rows upto → (o : Option State) → (o ≡ Some (importing old caller rows).state) ⊎ (o ≡ Some (importing old caller upto).state)
    → (t : State) × begun_by old caller input t × (o ≡ Some t)
one_of caller input old rows upto are o (inl is) = ((importing old caller rows).state, (rows, inl are.are_first, refl), is)
one_of caller input old rows upto are o (inr is) = ((importing old caller upto).state, (upto, inl (upto_first input rows upto are.are_first are.next), refl), is)

-- some first rows were applied
pub found_begun : (caller input : List ℕ) (old new : Seen) (leaves : Option State → Type 0) (result : Result Report ImportFault) → ImportsFirst caller old new leaves result input → old.defects ≡ 0 → FindsAmong leaves (begun_by old.state caller input)
found_begun caller input old new leaves result it sure o may = one_of caller input old.state it.rows it.upto it.are o (it.found sure o may)
