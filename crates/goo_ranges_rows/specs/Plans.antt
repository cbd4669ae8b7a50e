-- Several edits of rows, one after another.
use Rattle.std.specs.Prelude.{◌≡◌, ℕ, List, [], ◌∷◌, false}
use Rattle.goo_types.specs.Range.{Numbers}
use Rattle.goo_types.specs.declared.lot_fields.LotFields.{LotFields}
use Rattle.goo_types.specs.declared.place.Place.{Place}
use Rattle.goo_types.specs.declared.piece.Piece.{Piece}
use Rattle.goo_types.specs.Piece.{at_of, IsRising}
use Rattle.goo_spec.specs.Lots.{Certificates}
use Rattle.goo_spec.specs.Runs.{IsApart}
use Rattle.goo_ranges.specs.declared.edits.Edit.{Edit}
use Rattle.goo_ranges.specs.Change.{inside}
use Rattle.goo_ranges.specs.Edit.{IsExact}
use Rattle.goo_ranges_rows.specs.Rows.{AreRowsOf, meeting, without_each, with_each, edited, edited_all}

-- the edits turn the rows into those of a map, and as few as can be where they were that before
pub record IsTurned (after : Certificates) (rows : List Piece) (edits : List Edit) : Type 0 where
  pub fits : AreRowsOf after (edited_all edits rows)
  pub apart : IsApart rows → IsApart (edited_all edits rows)

-- an edit of the rows: one block of them is replaced, and they stay disjoint and as few as can be
pub record IsEditOf (rows : List Piece) (edit : Edit) : Type 0 where
  pub exact : IsExact rows (edited edit rows) edit
  pub disjoint : IsRising (edited edit rows)
  pub apart : IsApart rows → IsApart (edited edit rows)

-- each edit is one of the rows that those before it leave
abbrev pub AreEditsOf : List Piece → List Edit → Type 0
AreEditsOf rows [] = Unit {0}
AreEditsOf rows (e ∷ es) = IsEditOf rows e × AreEditsOf (edited e rows) es

-- an edit of the rows that leaves the numbers outside a range as they are
pub record IsEditWithin (range : Numbers) (rows : List Piece) (edit : Edit) : Type 0 where
  pub is_edit : IsEditOf rows edit
  pub outside : (n : ℕ) → inside range.first range.last n ≡ false → at_of (edited edit rows) n ≡ at_of rows n

abbrev pub AreEditsWithin : Numbers → List Piece → List Edit → Type 0
AreEditsWithin range rows [] = Unit {0}
AreEditsWithin range rows (e ∷ es) = IsEditWithin range rows e × AreEditsWithin range (edited e rows) es

-- the rows near a range after some edits, from those before
abbrev pub near_after : Numbers → List Edit → List Piece → List Piece
near_after range [] near = near
near_after range (e ∷ es) near = near_after range es (with_each (meeting range e.insert.items) (without_each e.delete.items near))

-- the row at the place that its lot and its old place give
abbrev pub placed : (LotFields → Place → Place) → Piece → Piece
placed new p = record p { place = new p.lot p.place }

-- the edit that puts one row there
pub record IsMoveOf (new : LotFields → Place → Place) (p : Piece) (edit : Edit) : Type 0 where
  pub deleted : edit.delete.items ≡ p.first ∷ []
  pub inserted : edit.insert.items ≡ placed new p ∷ []

-- one such edit for each of the rows
abbrev pub AreMovesOf : (LotFields → Place → Place) → List Piece → List Edit → Type 0
AreMovesOf new [] [] = Unit {0}
AreMovesOf new [] (e ∷ es) = ⊥
AreMovesOf new (p ∷ ps) [] = ⊥
AreMovesOf new (p ∷ ps) (e ∷ es) = IsMoveOf new p e × AreMovesOf new ps es
