use Rattle.std.proofs.Common.{All, take}
use Rattle.goo_tables_rows.specs.Rows.{lot_in}
use Rattle.goo_store_rules.specs.Lots.{IsGoodLot}
use Rattle.goo_store_rules.proofs.lots.are_good.Given as goal

abbrev pub invariant-loop-row : goal.invariant-loop-row
invariant-loop-row l = All (λ row. IsGoodLot (lot_in row)) (take l.row-index l.rows)
