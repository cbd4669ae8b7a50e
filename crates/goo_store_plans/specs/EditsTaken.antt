-- What the changes of edits need of the tables.
use Rattle.std.specs.Prelude.{◌<◌, ◌^◌, List, All}
use Rattle.goo_types.specs.Piece.{IsForward}
use Rattle.goo_types.specs.declared.piece.Piece.{Piece}
use Rattle.goo_ranges.specs.declared.edits.Edit.{Edit}
use Rattle.goo_tables_rows.specs.Rows.{Tables, Lot}
use Rattle.goo_store_plans.specs.AtHand.{IsAtHand}
use Rattle.goo_store_plans.specs.LotNumbers.{AreWith}
use Rattle.goo_store_plans.specs.declared.lot_numbers.NumberedLot.{NumberedLot}

-- the piece runs forward, and its lot is added or known
abbrev pub CanBePutIn : List NumberedLot → Tables → Piece → Type 0
CanBePutIn added t p = IsForward p × IsAtHand added t p.lot

-- so can each piece that the edits insert
abbrev pub CanAllBePutIn : List NumberedLot → Tables → List Edit → Type 0
CanAllBePutIn added t edits = All (λ e. All (CanBePutIn added t) e.insert.items) edits

-- each row has a number that a column keeps
abbrev pub HaveKeptNumbers : List Lot → Type 0
HaveKeptNumbers lots = All (λ l. l.id < 2 ^ 63) lots

-- the pieces can be put in, and the lots of the table with those that are added have numbers that a column keeps
pub record CanTakeEdits (added : List NumberedLot) (t : Tables) (edits : List Edit) : Type 0 where
  pub pieces : CanAllBePutIn added t edits
  pub lots : List Lot
  pub with : AreWith t.lots added lots
  pub numbers : HaveKeptNumbers lots
