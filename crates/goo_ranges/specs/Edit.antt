-- An edit of a book's pieces, as its rows are deleted and inserted.
use Rattle.std.specs.Prelude.{◌≡◌, List, ◌++◌, map}
use Rattle.goo_types.specs.declared.piece.Piece.{Piece}
use Rattle.goo_ranges.specs.declared.edits.Edit.{Edit}

-- one block of the old pieces, named by their first numbers, is replaced by the inserted ones
pub record IsExact (old new : List Piece) (edit : Edit) : Type 0 where
  pub before : List Piece
  pub deleted : List Piece
  pub after : List Piece
  pub was : old ≡ before ++ (deleted ++ after)
  pub becomes : new ≡ before ++ (edit.insert.items ++ after)
  pub named : edit.delete.items ≡ map (λ p. p.first) deleted
