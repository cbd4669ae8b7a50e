-- Runs of numbers whose places name one account, whatever their lots.
use Rattle.std.specs.Prelude.{◌≡◌, List, [], ◌∷◌, Option}
use Rattle.std.specs.Option.{option_map}
use Rattle.goo_types.specs.Place.{account_of}
use Rattle.goo_types.specs.Piece.{Label, at_of}
use Rattle.goo_types.specs.declared.lot_fields.LotFields.{LotFields}
use Rattle.goo_types.specs.declared.piece.Piece.{Piece}
use Rattle.goo_types.specs.declared.place.Place.TheVariants.{Held}
use Rattle.goo_spec.specs.Runs.{AreRunsOf}

-- what is left of a label where the account alone counts: it is held, and has this lot
abbrev pub by_account : LotFields → Option Label → Option Label
by_account lot o = option_map (λ label. (lot, Held (account_of label.1))) o

-- the maximal ranges of numbers whose places name one account, each as a piece that it holds; all have the first piece's lot, which says nothing
abbrev pub AreAccountRuns : List Piece → List Piece → Type 0
AreAccountRuns [] runs = runs ≡ []
AreAccountRuns (p ∷ ps) runs = AreRunsOf (λ n. by_account p.lot (at_of (p ∷ ps) n)) runs

-- a piece, held by the account that its place names
abbrev pub held : LotFields → Piece → Piece
held lot p = record p { lot = lot; place = Held (account_of p.place) }
