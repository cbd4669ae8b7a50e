-- The pieces of a book, as it keeps them.
use Rattle.std.specs.Prelude.{List}
use Rattle.goo_types.specs.declared.piece.Piece.{Piece}
use Rattle.goo_types.specs.Piece.{IsRising}
use Rattle.goo_ranges.specs.Paging.{joined, AreFilled}
use Rattle.goo_ranges.specs.declared.books.BookRows.{BookRows}
use Rattle.goo_ranges.specs.declared.books.BookRows.TheVariants.{Whole, Paged}

-- the pieces in their order
abbrev pub pieces_of : BookRows → List Piece
pieces_of (Whole page) = page
pieces_of (Paged pages) = joined pages.items

-- pages make one rising list, and each has a piece
abbrev pub IsInOrder : BookRows → Type 0
IsInOrder (Whole page) = Unit {0}
IsInOrder (Paged pages) = IsRising (joined pages.items) × AreFilled pages.items
