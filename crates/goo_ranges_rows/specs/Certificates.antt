-- The certificates that rows stand for, one by one.
use Rattle.std.specs.Prelude.{ℕ, ◌+◌, ◌-◌, ◌==◌, ◌&&◌, cond, List, [], ◌∷◌}
use Rattle.std.specs.Str.{bytes_eq}
use Rattle.std.specs.FinMap.{empty}
use Rattle.goo_types.specs.Number.{code_of}
use Rattle.goo_types.specs.Range.{Numbers}
use Rattle.goo_types.specs.declared.piece.Piece.{Piece}
use Rattle.goo_spec.specs.Lots.{Certificates}
use Rattle.goo_spec.specs.Maps.{each, give_each}
use Rattle.goo_spec.specs.State.{State, Correction}
use Rattle.goo_spec.specs.Energy.{is_taken_back}

abbrev pub numbers_of : Piece → Numbers
numbers_of p = record { first = p.first; last = p.last }

-- how many of a row's certificates are own ones of the device
abbrev pub issued_in : ℕ → List ℕ → Piece → ℕ
issued_in own device p = cond (code_of p.first == own && bytes_eq p.lot.device device) (p.last + 1 - p.first) 0

-- how many of a row's certificates are own ones of the device that its corrections withdrew
abbrev pub corrected_in : ℕ → List ℕ → List Correction → Piece → ℕ
corrected_in own device cs p = cond (is_taken_back device cs p.place) (issued_in own device p) 0

-- each number of each row has the row's lot and place
unfoldable pub certificates_of : List Piece → Certificates
certificates_of [] = empty
certificates_of (p ∷ ps) = give_each (each (numbers_of p)) p.lot p.place (certificates_of ps)

-- a state with these certificates in place of its own
abbrev pub beside : Certificates → State → State
beside at s = record s { at = at }
