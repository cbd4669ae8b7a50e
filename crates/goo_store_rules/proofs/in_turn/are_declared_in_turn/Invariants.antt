use Rattle.std.proofs.Common.{◌≡◌, true, ℕ, List, map, drop}
use Rattle.std.specs.List.{list_all}
use Rattle.goo_tables_rows.specs.Rows.{declaration_in, lot_in}
use Rattle.goo_store_rules.specs.WellKept.{has_declaration, is_declared}
use Rattle.goo_store_rules.proofs.in_turn.are_declared_in_turn.Given as goal

abbrev pub invariant-loop-lot : goal.invariant-loop-lot
invariant-loop-lot l = record {
  among : (device first_day : List ℕ) → has_declaration (map declaration_in l.left) device first_day ≡ true → has_declaration (map declaration_in l.fn.declarations) device first_day ≡ true;
  declared : list_all (λ row. is_declared (has_declaration (map declaration_in l.fn.declarations)) l.fn.own (lot_in row)) l.lots
      ≡ list_all (λ row. is_declared (has_declaration (map declaration_in l.fn.declarations)) l.fn.own (lot_in row)) (drop l.lot-index l.lots);
}
