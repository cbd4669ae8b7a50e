-- Which rows the look-ups of the next row are for.
use Rattle.std.specs.Prelude.{◌==◌, Bool}
use Rattle.goo_types.specs.Place.{account_of}
use Rattle.goo_types.specs.declared.piece.Piece.{Piece}
use Rattle.goo_spec.specs.Advance.{expires}
use Rattle.goo_core_shelf.specs.declared.sought.Sought.{Sought}
use Rattle.goo_core_shelf.specs.declared.sought.Sought.TheVariants.{Naming, Expiring}

abbrev pub is_sought : Sought → Piece → Bool
is_sought (Naming account) p = account_of p.place == account
is_sought (Expiring day) p = expires day p.lot p.place
