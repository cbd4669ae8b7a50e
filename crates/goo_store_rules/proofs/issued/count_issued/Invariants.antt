use Rattle.std.proofs.Common.{◌≡◌, ◌≤◌, ◌*◌, ◌^◌, ℕ, List, take}
use Rattle.std.specs.Prelude.{sum_by}
use Rattle.goo_spec.specs.State.{Correction}
use Rattle.goo_tables_rows.specs.Rows.{Lot}
use Rattle.goo_store_rules.specs.Correcting.{AreTakenBack}
use Rattle.goo_store_rules.specs.Production.{AreDevicesOf, standing_by}
use Rattle.goo_store_rules.specs.Summing.{sum_at}
use Rattle.goo_store_rules.proofs.issued.count_issued.Given as goal

abbrev pub invariant-loop-row : goal.invariant-loop-row
invariant-loop-row l = record {
  sums : (lots : List Lot) → AreDevicesOf lots l.fn.devices → (cs : List Correction) → AreTakenBack cs l.fn.taken → (q : List ℕ) → sum_at l.counts q ≡ sum_by (standing_by l.fn.own lots cs q) (take l.row-index l.rows);
  small : (q : List ℕ) → sum_at l.counts q ≤ 2 ^ 65 * l.row-index;
}
