-- Four rows of two lots and two accounts, and the runs of one account that ranges of them have.
use Rattle.std.proofs.Common.{◌≡◌, List, [], ◌∷◌, refl}
use Rattle.goo_types.specs.Piece.{at_of}
use Rattle.goo_types.specs.declared.lot_fields.LotFields.{LotFields}
use Rattle.goo_types.specs.declared.piece.Piece.{Piece}
use Rattle.goo_types.specs.declared.place.Place.TheVariants.{Held}
use Rattle.goo_core_moves.specs.AccountRuns.{account_runs}

module _ (lot other : LotFields) where
  abbrev rows : List Piece
  rows =
      record { first = 1; last = 2; lot = lot; place = Held 1 }
      ∷ record { first = 3; last = 4; lot = other; place = Held 1 }
      ∷ record { first = 5; last = 5; lot = lot; place = Held 2 }
      ∷ record { first = 6; last = 6; lot = lot; place = Held 1 }
      ∷ []

  -- 1 to 4 of the first account, whatever their lots, 5 of the second, 6 of the first
  all_of_them : account_runs (at_of rows) (record { first = 1; last = 6 }) ≡ 3
  all_of_them = refl

  two_lots_of_one_account : account_runs (at_of rows) (record { first = 2; last = 4 }) ≡ 1
  two_lots_of_one_account = refl

  two_accounts_of_one_lot : account_runs (at_of rows) (record { first = 5; last = 6 }) ≡ 2
  two_accounts_of_one_lot = refl
