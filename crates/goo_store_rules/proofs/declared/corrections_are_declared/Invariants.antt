use Rattle.std.proofs.Common.{◌≡◌, drop, string_bytes}
use Rattle.std.specs.List.{list_all}
use Rattle.goo_store_rules.specs.WellKept.{has_pair}
use Rattle.goo_store_rules.proofs.declared.corrections_are_declared.Given as goal

abbrev pub invariant-loop-row : goal.invariant-loop-row
invariant-loop-row l =
    list_all (λ row. has_pair l.fn.periods (string_bytes row.device) (string_bytes row.first_day)) l.rows ≡ list_all (λ row. has_pair l.fn.periods (string_bytes row.device) (string_bytes row.first_day)) (drop l.row-index l.rows)
