use Rattle.std.proofs.Common.{List, All, take}
use Rattle.std.specs.List.{AllZip}
use Rattle.goo_tables_rows.specs.Rows.{Lot}
use Rattle.goo_tables_accounts.specs.Changes.{PieceFits}
use Rattle.goo_store_plans.specs.EditChanges.{IsRowOf}
use Rattle.goo_store_plans.specs.LotNumbers.{AreNumbered}
use Rattle.goo_store_plans.proofs.edit_changes.piece_rows.Given as goal

abbrev pub invariant-loop-piece : goal.invariant-loop-piece
invariant-loop-piece l = record {
  rows : (lots : List Lot) → AreNumbered lots l.found → AllZip (λ p x. IsRowOf lots x p) (take l.piece-index l.pieces) l.rows.items;
  fits : All PieceFits l.rows.items;
}
