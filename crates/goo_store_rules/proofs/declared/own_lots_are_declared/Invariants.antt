use Rattle.std.proofs.Common.{◌≡◌, drop}
use Rattle.std.specs.List.{list_all}
use Rattle.goo_tables_rows.specs.Rows.{lot_in}
use Rattle.goo_store_rules.specs.WellKept.{has_pair, is_declared}
use Rattle.goo_store_rules.proofs.declared.own_lots_are_declared.Given as goal

abbrev pub invariant-loop-row : goal.invariant-loop-row
invariant-loop-row l =
    list_all (λ row. is_declared (has_pair l.fn.periods) l.fn.own (lot_in row)) l.rows ≡ list_all (λ row. is_declared (has_pair l.fn.periods) l.fn.own (lot_in row)) (drop l.row-index l.rows)
