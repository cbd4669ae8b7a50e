use Rattle.std.proofs.Common.{◌≡◌, List, All, Ok, false, map, take}
use Rattle.sqlite.specs.Held.{state}
use Rattle.goo_tables_rows.specs.Rows.{Lot}
use Rattle.goo_store_plans.specs.AtHand.{IsAtHand}
use Rattle.goo_store_plans.specs.LookingUp.{LooksUp}
use Rattle.goo_store_plans.specs.LotNumbers.{AreNumbered, AreWith}
use Rattle.goo_store_plans.specs.StoreFaults.{BlamesDisk}
use Rattle.goo_store_plans.proofs.lot_numbers.numbers_of.Given as goal

abbrev pub invariant-loop-lot : goal.invariant-loop-lot
invariant-loop-lot g l = record {
  looks : LooksUp (state g.S.Store l.fn.conn) (state g.S.Store l.conn) (Ok l.found) (λ t found. (lots : List Lot) → AreWith t.lots l.added lots → AreNumbered lots found.items);
  blames : BlamesDisk (state g.S.Store l.fn.conn) (state g.S.Store l.conn) (Ok l.found) (λ t. All (IsAtHand l.added t) l.lots);
  each : map (λ x. x.lot) l.found.items ≡ take l.lot-index l.lots;
  outside : l.fn.conn.in_transaction ≡ false → l.conn.in_transaction ≡ false;
}
