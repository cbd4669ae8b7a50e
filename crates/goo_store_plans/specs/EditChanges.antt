-- The changes of pieces that carry out edits of rows.
use Rattle.std.specs.Prelude.{◌≡◌, pos, true, List, [], ◌∷◌, ◌++◌, map, Some}
use Rattle.sqlite_keyed.specs.Keyed.{get_by}
use Rattle.goo_types.specs.declared.piece.Piece.{Piece}
use Rattle.goo_ranges.specs.declared.edits.Edit.{Edit}
use Rattle.goo_tables_rows.specs.Rows.{Lot, lot_key}
use Rattle.goo_tables_rows.specs.declared.piece.PieceRow.{PieceRow}
use Rattle.goo_spec_tables.specs.Places.{piece_of}
use Rattle.goo_spec_tables.specs.Readable.{is_piece}
use Rattle.goo_store_changes.specs.declared.table_change.TableChange.{TableChange}
use Rattle.goo_store_changes.specs.declared.table_change.TableChange.TheVariants.{DeletePiece, InsertPiece}

-- a row states the piece, beside the lot that it names
pub record IsRowOf (lots : List Lot) (x : PieceRow) (p : Piece) : Type 0 where
  pub lot : Lot
  pub there : get_by lot_key lots (pos x.lot) ≡ Some lot
  pub states : piece_of (x, lot) ≡ p
  pub reads : is_piece x ≡ true

abbrev pub AreRowsOf : List Lot → List PieceRow → List Piece → Type 0
AreRowsOf lots [] [] = Unit {0}
AreRowsOf lots [] (p ∷ ps) = ⊥
AreRowsOf lots (x ∷ xs) [] = ⊥
AreRowsOf lots (x ∷ xs) (p ∷ ps) = IsRowOf lots x p × AreRowsOf lots xs ps

-- the pieces that the edit deletes are taken out, and then those that it inserts are put in
pub record AreForEdit (lots : List Lot) (edit : Edit) (changes : List TableChange) : Type 0 where
  pub rows : List PieceRow
  pub changes_are : changes ≡ map (λ k. DeletePiece k) edit.delete.items ++ map (λ x. InsertPiece x) rows
  pub rows_are : AreRowsOf lots rows edit.insert.items

-- one edit after another
abbrev pub AreForEdits : List Lot → List Edit → List TableChange → Type 0
AreForEdits lots [] changes = changes ≡ []
AreForEdits lots (e ∷ es) changes = (front : List TableChange) × (back : List TableChange) × (changes ≡ front ++ back) × AreForEdit lots e front × AreForEdits lots es back
