use Rattle.std.proofs.Common.{◌≡◌, ◌≤◌, ◌+◌, ℕ, pos, Ok, All, false, drop, length}
use Rattle.sqlite.specs.Held.{state}
use Rattle.sqlite_keyed.specs.Keyed.{next_key}
use Rattle.goo_tables_rows.specs.Rows.{lot_key}
use Rattle.goo_store_plans.specs.AtHand.{HasRoom}
use Rattle.goo_store_changes.specs.Changes.{ChangeFits}
use Rattle.goo_store_plans.specs.Found.{AreLots, IsNext}
use Rattle.goo_store_plans.specs.GatheredLots.{ArePutIn}
use Rattle.goo_store_plans.specs.LookingUp.{LooksUp}
use Rattle.goo_store_plans.specs.StoreFaults.{BlamesDisk}
use Rattle.goo_store_plans.proofs.gathered_lots.gather_lots.Given as goal

abbrev pub invariant-loop-part : goal.invariant-loop-part
invariant-loop-part g l = record {
  looks : LooksUp (state g.S.Store l.fn.conn) (state g.S.Store l.conn) (Ok l.gathered) (λ t gathered. IsNext l.fn.known lot_key t.lots → AreLots t.lots l.kept → ArePutIn t.lots l.parts (drop l.part-index l.parts) gathered);
  next : LooksUp (state g.S.Store l.fn.conn) (state g.S.Store l.conn) (Ok l.gathered) (λ t gathered. IsNext l.fn.known lot_key t.lots → (n : ℕ) → pos n ≡ next_key lot_key t.lots → gathered.next ≤ n + l.part-index);
  blames : BlamesDisk (state g.S.Store l.fn.conn) (state g.S.Store l.conn) (Ok l.gathered) (λ t. IsNext l.fn.known lot_key t.lots × HasRoom (length l.parts) lot_key t.lots);
  outside : l.fn.conn.in_transaction ≡ false → l.conn.in_transaction ≡ false;
  fits : All ChangeFits l.gathered.changes.items;
}
