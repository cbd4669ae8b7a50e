-- Edits of the rows that a range meets.
use Rattle.std.specs.Prelude.{◌≡◌, ◌⊎◌, ℕ, List, [], ◌∷◌, length, Option, Some, All, Contains}
use Rattle.goo_types.specs.Piece.{Label, at_of}
use Rattle.goo_types.specs.Range.{Numbers}
use Rattle.goo_types.specs.declared.lot_fields.LotFields.{LotFields}
use Rattle.goo_types.specs.declared.piece.Piece.{Piece}
use Rattle.goo_spec.specs.Lots.{lot_in}
use Rattle.goo_ranges.specs.Sparing.{IsSmall}
use Rattle.goo_ranges.specs.declared.edits.Edit.{Edit}
use Rattle.goo_ranges_rows.specs.Plans.{AreEditsWithin}
use Rattle.goo_ranges_rows.specs.Rows.{edited, edited_all}

-- an edit that puts one row in the place of another
abbrev pub IsOneForOne : Edit → Type 0
IsOneForOne edit = (length edit.delete.items ≡ 1) × (length edit.insert.items ≡ 1)

-- an edit for one of the ranges, of few of the rows
abbrev pub IsSmallFor : List Numbers → List Piece → Edit → Type 0
IsSmallFor ranges rows edit = (range : Numbers) × Contains ranges range × IsSmall range.first range.last rows edit

-- each edit puts one row in the place of another, or is one for a range, of few of the rows that those before it leave
abbrev pub AreSmall : List Numbers → List Piece → List Edit → Type 0
AreSmall ranges rows [] = Unit {0}
AreSmall ranges rows (e ∷ es) = (IsOneForOne e ⊎ IsSmallFor ranges rows e) × AreSmall ranges (edited e rows) es

-- the edits insert pieces of such lots
abbrev pub AreOfLots : (LotFields → Type 0) → List Edit → Type 0
AreOfLots P edits = All (λ e. All (λ p. P p.lot) e.insert.items) edits

-- a number has the lot in one of two maps
abbrev pub IsLotOf : (ℕ → Option Label) → (ℕ → Option Label) → LotFields → Type 0
IsLotOf before after lot = (n : ℕ) × ((lot_in (before n) ≡ Some lot) ⊎ (lot_in (after n) ≡ Some lot))

-- each edit is one within the range, of few rows, together they give the rows the changed map, and they insert pieces of lots that are there before or after
pub record AreEditsFor (range : Numbers) (met : List Piece) (change : ℕ → Option Label → Option Label) (edits : List Edit) : Type 0 where
  pub within : AreEditsWithin range met edits
  pub changes : (n : ℕ) → at_of (edited_all edits met) n ≡ change n (at_of met n)
  pub small : AreSmall (range ∷ []) met edits
  pub lots : AreOfLots (IsLotOf (at_of met) (at_of (edited_all edits met))) edits
