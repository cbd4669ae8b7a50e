-- How far an account's runs were read.
use Rattle.std.specs.Prelude.{◌≡◌, ℕ, List, Option, Some, None, IfSome}
use Rattle.goo_types.specs.declared.piece.Piece.{Piece}
use Rattle.goo_core_shelf.specs.Rows.{next_row}
use Rattle.goo_core_reads.specs.declared.run_place.RunPlace.{RunPlace}

-- a row that was seen is the first that names the account and ends after a number
abbrev pub IsSeen : ℕ → Option ℕ → List Piece → Option Piece → Type 0
IsSeen account after rows ahead = IfSome ahead (λ row. Some row ≡ next_row account after rows)

-- a reading stands after the run that it gave, and where it stood if it gave none
abbrev pub IsPlaceAfter : RunPlace → Option Piece → RunPlace → Type 0
IsPlaceAfter old None new = new ≡ old
IsPlaceAfter old (Some run) new = new.after ≡ Some run.last
